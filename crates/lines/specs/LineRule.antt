-- The line rule: what ends a line. Assumes nothing.
use Rattle.std.specs.Prelude.{ℕ, Bool, cond, ◌&&◌, ◌||◌, List, [], ◌∷◌, ◌==◌}

-- CR is byte 13 and LF byte 10; each of them ends a line
abbrev pub ends_line_lem : ℕ → Bool
ends_line_lem c = c == 13 || c == 10

-- together they end one line
abbrev pub is_pair : ℕ → ℕ → Bool
is_pair c d = c == 13 && d == 10

-- how wide the break is that begins here: how many bytes it has at the front of a text, 0 where none begins there
abbrev pub width : List ℕ → ℕ
width [] = 0
width (c ∷ []) = cond (ends_line_lem c) 1 0
width (c ∷ d ∷ t) = cond (is_pair c d) 2 (cond (ends_line_lem c) 1 0)
