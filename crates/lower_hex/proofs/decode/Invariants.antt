use Rattle.std.proofs.Common.{◌≡◌, ◌++◌}
use Rattle.std.specs.Slice.Iter.{chunks_exact_rest, chunks_exact_size}
use Rattle.lower_hex.specs.Hex.{hex_text}
use Rattle.lower_hex.proofs.decode.Given as goal

abbrev pub invariant-loop-pair : goal.invariant-loop-pair
invariant-loop-pair l = record {
  size : chunks_exact_size l.pair-iterator ≡ 2;
  so_far : hex_text l.bytes.items ++ chunks_exact_rest l.pair-iterator ≡ l.digits;
}
