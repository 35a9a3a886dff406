-- The window that a span is shown in. Assumes nothing.
use Rattle.std.specs.Prelude.{ℕ, zero, suc, ◌+◌, ◌-◌, Bool, cond, ◌&&◌, ◌||◌, List, [], ◌∷◌, length, Some, None, Option, ◌==◌, nat_le, nat_lt}
use Rattle.std.specs.Option.{option_map, unwrap_or}
use Rattle.lines.specs.Breaks.{breaks, break_ending, past, line_start_lem, line_of, column_of}
use Rattle.lines.specs.declared.records.Context.{Context}
use Rattle.lines.specs.declared.records.LineBreak.{LineBreak}
use Rattle.lines.specs.declared.records.SourceSpan.{SourceSpan}
use Rattle.lines.specs.declared.records.Window.{Window}

-- In all of this n is the length of the text, o and l are the span, b and a the lines before and after it, and e is
-- o + l: one past the span's last byte, or the place of an empty span.

-- a span that ends more than one byte past the text has no window, and neither has an empty one right there that asks
-- for no line before it
abbrev pub has_none : ℕ → ℕ → ℕ → ℕ → Bool
has_none n o l b = nat_lt (n + 1) (o + l) || (b == 0 && l == 0 && o == n + 1)

-- the window's line: b lines up, but not above line 0
abbrev pub window_line : List LineBreak → ℕ → ℕ → ℕ
window_line bs o b = line_of bs o - b

-- with no line before, the window starts with the span, else with its line
abbrev pub window_start : List LineBreak → ℕ → ℕ → ℕ
window_start bs o zero = o
window_start bs o (suc b) = unwrap_or (line_start_lem bs (window_line bs o (suc b))) 0

-- one past the break that holds the byte before e, or e where none does
abbrev pub cut_after_lem : List LineBreak → ℕ → ℕ
cut_after_lem [] e = e
cut_after_lem (b ∷ bs) e = cond (nat_lt b.start e && nat_le e (past b)) (past b) (cut_after_lem bs e)

-- the breaks that start at e or later
abbrev pub starting_from : List LineBreak → ℕ → List LineBreak
starting_from [] e = []
starting_from (b ∷ bs) e = cond (nat_le e b.start) (b ∷ starting_from bs e) (starting_from bs e)

-- with no line after, the window ends with the span, or with the break that the span ends in; else one past the break
-- that ends the a-th line after the span's, or with the text
abbrev pub end_after : ℕ → List LineBreak → ℕ → ℕ → ℕ
end_after n bs e zero = cut_after_lem bs e
end_after n bs e (suc a) = unwrap_or (option_map past (break_ending (starting_from bs e) (suc a))) n

-- a span that ends past the text has its window end with the text
abbrev pub window_end_lem : ℕ → List LineBreak → ℕ → ℕ → ℕ
window_end_lem n bs e a = cond (nat_le e n) (end_after n bs e a) n

-- the window from one place to another, on this line
abbrev pub window_at : List LineBreak → ℕ → ℕ → ℕ → Window
window_at bs line from to = record { start = from; length = to - from; line = line; column = column_of bs from; line_count = line_of bs to }

abbrev pub window_of_lem : ℕ → List LineBreak → ℕ → ℕ → ℕ → ℕ → Option Window
window_of_lem n bs o l b a = cond (has_none n o l b) None (Some (window_at bs (window_line bs o b) (window_start bs o b) (window_end_lem n bs (o + l) a)))

-- the window of a span and its context in a text, if there is one
abbrev pub window : List ℕ → SourceSpan → Context → Option Window
window t span context = window_of_lem (length t) (breaks t) span.offset span.length context.before context.after
