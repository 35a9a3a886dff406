-- The number in a field of a label line, or what is wrong with the field. Assumes nothing.
use Rattle.std.specs.Prelude.{ℕ, ◌+◌, ◌-◌, Bool, cond, ◌&&◌, List, map, length, Ok, Err, Result, ◌==◌, nat_le, nat_lt}
use Rattle.std.specs.Int.Digits.{number_from_digits}
use Rattle.std.specs.List.{prefix_len}
use Rattle.lines.specs.declared.records.Fault.{Fault}
use Rattle.label_lines.specs.Faults.{fault}

-- `0` is byte 48 and `9` byte 57
abbrev pub is_digit : ℕ → Bool
is_digit c = nat_le 48 c && nat_le c 57

-- the number that digits write in decimal
abbrev pub number_of : List ℕ → ℕ
number_of digits = number_from_digits 10 (map (λ c. c - 48) digits)

-- at most 10 digits, and a number of 32 bits
abbrev pub in_range : List ℕ → Bool
in_range digits = nat_le (length digits) 10 && nat_le (number_of digits) 4294967295

-- the number in a field of these bytes, which is field k of its line and starts at place p: first it must not be empty,
-- then hold only digits, then be in range
abbrev pub field_of : ℕ → ℕ → List ℕ → Result ℕ Fault
field_of k p bytes =
    cond (length bytes == 0) (Err (fault 1 1 k p))
    (cond (nat_lt (prefix_len is_digit bytes) (length bytes)) (Err (fault 2 1 k (p + prefix_len is_digit bytes)))
    (cond (in_range bytes) (Ok (number_of bytes)) (Err (fault 3 1 k p))))
