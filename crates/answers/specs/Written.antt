-- The line that answers a label, the line that tells a fault, and what each leaves in a buffer. Assumes nothing.
use Rattle.std.specs.Prelude.{ℕ, Bool, cond, List, ◌++◌, length, drop, Some, None, Ok, Err, codes, decimal, Option, Result, nat_le}
use Rattle.std.specs.List.{flat_map}
use Rattle.lines.specs.Windows.{window}
use Rattle.lines.specs.declared.records.Fault.{Fault}
use Rattle.lines.specs.declared.records.Window.{Window}
use Rattle.label_lines.specs.Faults.{fault}
use Rattle.label_lines.specs.Labels.{followed, label_of}

-- start, length, line, column and line_count, parted by commas and closed by LF
abbrev pub window_text : Window → List ℕ
window_text w = decimal w.start ++ (codes "," ++ (decimal w.length ++ (codes "," ++ (decimal w.line ++ (codes "," ++ (decimal w.column ++ (codes "," ++ (decimal w.line_count ++ codes "\n"))))))))

-- `fault`, number, layer, field and place
abbrev pub fault_text : Fault → List ℕ
fault_text f = codes "fault," ++ (decimal f.number ++ (codes "," ++ (decimal f.layer ++ (codes "," ++ (decimal f.field ++ (codes "," ++ (decimal f.place ++ codes "\n")))))))

-- a word and numbers, parted by commas and closed by LF
abbrev pub parted_text : List ℕ → List ℕ → List ℕ
parted_text first numbers = first ++ (flat_map (λ n. codes "," ++ decimal n) numbers ++ codes "\n")

-- a buffer takes a text whole, into its first bytes, or not at all
abbrev pub has_room : List ℕ → List ℕ → Bool
has_room out text = nat_le (length text) (length out)

abbrev pub filled : List ℕ → List ℕ → List ℕ
filled out text = cond (has_room out text) (text ++ drop (length text) out) out

abbrev pub count_in : List ℕ → List ℕ → Option ℕ
count_in out text = cond (has_room out text) (Some (length text)) None

-- the line for a window, if there is one
abbrev pub line_or : Option Window → Result (List ℕ) Fault
line_or (Some w) = Ok (window_text w)
line_or None = Err (fault 5 3 0 0)

-- the line that answers a label line: that of its label's window
abbrev pub line_for : List ℕ → List ℕ → Result (List ℕ) Fault
line_for t line = followed (label_of line) (λ label. line_or (window t label.span label.context))

-- what an answer tells, by the line to write and the buffer: the count of bytes, or the fault
abbrev pub answered : List ℕ → Result (List ℕ) Fault → Result ℕ Fault
answered out (Ok text) = cond (has_room out text) (Ok (length text)) (Err (fault 6 4 0 0))
answered out (Err f) = Err f

-- the buffer after it: with a fault it is as it came
abbrev pub buffer_after : List ℕ → Result (List ℕ) Fault → List ℕ
buffer_after out (Ok text) = filled out text
buffer_after out (Err f) = out
