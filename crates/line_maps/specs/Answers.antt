-- What a line map tells of a text. Assumes nothing.
use Rattle.std.specs.Prelude.{ℕ, ◌≤◌, cond, List, length, Some, None, Option, nat_le}
use Rattle.lines.specs.Breaks.{breaks, line_of}

-- the line of an offset, none past the end
abbrev pub line_index : List ℕ → ℕ → Option ℕ
line_index t o = cond (nat_le o (length t)) (Some (line_of (breaks t) o)) None

-- a frontier that is no lower than one of these
abbrev pub Reached : (ℕ → Type 0) → ℕ → Type 0
Reached covered frontier = (f : ℕ) × covered f × (f ≤ frontier)
