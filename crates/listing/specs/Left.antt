-- The lines that are left. Assumes nothing.
use Rattle.std.specs.Prelude.{ℕ, List, [], drop, Option, Some, None}
use Rattle.lines.specs.Breaks.{breaks}
use Rattle.listing.specs.Table.{lines_from}
use Rattle.listing.specs.declared.line.Line.{Line}
use Rattle.listing.specs.declared.split.Lines.{Lines}

-- the lines of a text from line k on, which starts at s
abbrev pub lines_at : List ℕ → ℕ → Option ℕ → List Line
lines_at t k None = []
lines_at t k (Some s) = lines_from t (drop k (breaks t)) k s

abbrev pub lines_left : Lines → List Line
lines_left l = lines_at l.text.slice.now l.number l.start
