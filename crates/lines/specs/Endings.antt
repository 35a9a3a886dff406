-- The next CR or LF of a text. Assumes nothing.
use Rattle.std.specs.Prelude.{ℕ, ◌+◌, ◌%◌, nat_lt, min, Bool, not, List, length, drop}
use Rattle.std.specs.List.{prefix_len}
use Rattle.lines.specs.LineRule.{ends_line_lem}

-- a byte that ends no line
abbrev pub is_plain : ℕ → Bool
is_plain c = not (ends_line_lem c)

-- a byte that lies neither on LF or CR nor between the two
abbrev pub is_far : ℕ → Bool
is_far c = nat_lt 3 ((c + 246) % 256)

-- the first place from `from` on that holds CR or LF, or the length where there is none
abbrev pub next_ending_lem : List ℕ → ℕ → ℕ
next_ending_lem t from = min (from + prefix_len is_plain (drop from t)) (length t)
