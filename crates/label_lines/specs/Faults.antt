-- The four numbers of each fault of a label line: number, layer, field and place. Assumes nothing.
use Rattle.std.specs.Prelude.{ℕ}
use Rattle.lines.specs.declared.records.Fault.{Fault}
use Rattle.label_lines.specs.declared.faults.FieldFault.{FieldFault}
use Rattle.label_lines.specs.declared.faults.FieldFault.TheVariants.{Empty, NoDigit, TooLarge}
use Rattle.label_lines.specs.declared.faults.LineFault.{LineFault}
use Rattle.label_lines.specs.declared.faults.LineFault.TheVariants.{Field, TooLong, Missing, FourthComma}

abbrev pub fault : ℕ → ℕ → ℕ → ℕ → Fault
fault number layer field place = record { number = number; layer = layer; field = field; place = place }

abbrev pub field_numbers : FieldFault → Fault
field_numbers (Empty spot) = fault 1 1 spot.field spot.place
field_numbers (NoDigit spot) = fault 2 1 spot.field spot.place
field_numbers (TooLarge spot) = fault 3 1 spot.field spot.place

-- a field's fault keeps its numbers
abbrev pub line_numbers : LineFault → Fault
line_numbers (Field f) = field_numbers f
line_numbers TooLong = fault 4 2 0 255
line_numbers (Missing spot) = fault 4 2 spot.field spot.place
line_numbers (FourthComma place) = fault 4 2 5 place
