-- What goes over the boundary: flags and rows of numbers. Assumes nothing.
use Rattle.std.specs.Prelude.{ℕ, ◌*◌, ◌%◌, ◌^◌, cond, List, length, Some, None, fold, Option, bit_xor, nat_le, slice_set}
use Rattle.lines.specs.Payloads.{Payload, look_up}
use Rattle.lines.specs.declared.records.Context.{Context}
use Rattle.lines.specs.declared.records.Place.{Place}

abbrev pub context_of : ℕ → ℕ → Context
context_of b a = record { before = b; after = a }

-- the FNV-1a hash of 32 bits
abbrev pub hashed : ℕ → ℕ → ℕ
hashed h byte = bit_xor h byte * 16777619 % 2 ^ 32

abbrev pub hash_of : List ℕ → ℕ
hash_of bytes = fold hashed 2166136261 bytes

-- the flag and the row of a reading
abbrev pub read_flag : Option Payload → ℕ
read_flag None = 0
read_flag (Some p) = 1

abbrev pub read_row : Option Payload → List ℕ → List ℕ
read_row None out = out
read_row (Some p) out = slice_set (slice_set (slice_set (slice_set (slice_set (slice_set (slice_set out 0 p.numbers.start) 1 p.numbers.length) 2 p.numbers.line) 3 p.numbers.column) 4 p.numbers.line_count) 5 (length p.bytes)) 6 (hash_of p.bytes)

-- the flag and the row of a look-up
abbrev pub place_flag : Option Place → ℕ
place_flag None = 1
place_flag (Some at) = 2

abbrev pub place_row : Option Place → List ℕ → List ℕ
place_row None out = out
place_row (Some at) out = slice_set (slice_set out 0 at.line) 1 at.column

abbrev pub look_flag : Option Payload → ℕ → ℕ
look_flag None at = 0
look_flag (Some p) at = place_flag (look_up p at)

abbrev pub look_row : Option Payload → ℕ → List ℕ → List ℕ
look_row None at out = out
look_row (Some p) at out = place_row (look_up p at) out

-- a buffer that is too short is left as it came
abbrev pub flag_if : List ℕ → ℕ → ℕ → ℕ
flag_if out room flag = cond (nat_le room (length out)) flag 0

abbrev pub row_if : List ℕ → ℕ → List ℕ → List ℕ
row_if out room row = cond (nat_le room (length out)) row out
