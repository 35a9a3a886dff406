-- The page of answers to the label lines of an input. Assumes nothing.
use Rattle.std.specs.Prelude.{ℕ, ◌-◌, List, [], ◌∷◌, take, drop, Ok, Err, Result}
use Rattle.std.specs.List.{flat_map}
use Rattle.lines.specs.Breaks.{breaks, past}
use Rattle.lines.specs.declared.records.Fault.{Fault}
use Rattle.lines.specs.declared.records.LineBreak.{LineBreak}
use Rattle.answers.specs.Written.{fault_text, line_for}

-- an empty last line is no label
abbrev pub last_label : List ℕ → List (List ℕ)
last_label [] = []
last_label (c ∷ rest) = (c ∷ rest) ∷ []

-- the label lines of an input from place s on, where a line starts, by the breaks from there on
abbrev pub labels_from : List ℕ → List LineBreak → ℕ → List (List ℕ)
labels_from input [] s = last_label (drop s input)
labels_from input (b ∷ bs) s = take (b.start - s) (drop s input) ∷ labels_from input bs (past b)

-- the label lines of an input: its lines, without their breaks
abbrev pub labels_in : List ℕ → List (List ℕ)
labels_in input = labels_from input (breaks input) 0

-- what the page has for a label line: the line that answers it, or the line that tells its fault
abbrev pub printed : Result (List ℕ) Fault → List ℕ
printed (Ok text) = text
printed (Err f) = fault_text f

-- the page for an input, over a text
abbrev pub page_for : List ℕ → List ℕ → List ℕ
page_for t input = flat_map (λ line. printed (line_for t line)) (labels_in input)
