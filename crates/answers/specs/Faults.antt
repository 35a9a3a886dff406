-- The four numbers of each fault of an answer. Assumes nothing.
use Rattle.lines.specs.declared.records.Fault.{Fault}
use Rattle.label_lines.specs.Faults.{fault, line_numbers}
use Rattle.answers.specs.declared.faults.AnswerFault.{AnswerFault}
use Rattle.answers.specs.declared.faults.AnswerFault.TheVariants.{Line, NoWindow, ShortBuffer}

-- a line's fault keeps its numbers
abbrev pub answer_numbers : AnswerFault → Fault
answer_numbers (Line f) = line_numbers f
answer_numbers NoWindow = fault 5 3 0 0
answer_numbers ShortBuffer = fault 6 4 0 0
