use Rattle.std.proofs.Common.{◌≡◌, take}
use Rattle.c_boundary.specs.Rows.{hash_of}
use Rattle.c_boundary.proofs.hash.Given as goal

abbrev pub invariant-loop-byte : goal.invariant-loop-byte
invariant-loop-byte l = l.h ≡ hash_of (take l.byte-index l.bytes)
