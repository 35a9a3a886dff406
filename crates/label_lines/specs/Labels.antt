-- The label in a line, or what is wrong with the line. Assumes nothing.
use Rattle.std.specs.Prelude.{ℕ, ◌+◌, ◌-◌, Bool, true, false, cond, List, [], ◌∷◌, length, drop, Ok, Err, Result, ◌==◌, nat_lt}
use Rattle.lines.specs.Spans.{span_of}
use Rattle.lines.specs.declared.records.Fault.{Fault}
use Rattle.label_lines.specs.Faults.{fault}
use Rattle.label_lines.specs.Fields.{field_of}
use Rattle.label_lines.specs.declared.label.Label.{Label}

-- a field of a line: its place and its bytes
pub record Field : Type 0 where
  pub place : ℕ
  pub bytes : List ℕ

-- a byte that is no comma, at place p, in front of the first of the fields
abbrev pub begun : ℕ → ℕ → List Field → List Field
begun p c [] = record { place = p; bytes = c ∷ [] } ∷ []
begun p c (f ∷ fs) = record { place = p; bytes = c ∷ f.bytes } ∷ fs

-- the fields of a text whose first byte stands at p: they are parted by commas, and there is always one
abbrev pub fields_from : ℕ → List ℕ → List Field
fields_from p [] = record { place = p; bytes = [] } ∷ []
fields_from p (c ∷ t) = cond (c == 44) (record { place = p; bytes = [] } ∷ fields_from (p + 1) t) (begun p c (fields_from (p + 1) t))

-- the fields after one that ends at p: none where the line does, else those past the comma there
abbrev pub fields_after : ℕ → List ℕ → List Field
fields_after p [] = []
fields_after p (c ∷ t) = fields_from (p + 1) t

-- the fields of a line from a place on, where a field starts, and those after a place where one ends
abbrev pub fields_at : List ℕ → ℕ → List Field
fields_at line at = fields_from at (drop at line)

abbrev pub fields_past : List ℕ → ℕ → List Field
fields_past line at = fields_after at (drop at line)

-- what is still to be read of a line: how many bytes the line has, the fields, and whether the first of them starts
-- right where the reading stands, or only after a comma
pub record Unread : Type 0 where
  pub size : ℕ
  pub fields : List Field
  pub begins : Bool

-- the fields from a place on, where one begins or where one has ended
abbrev pub fields_left : List ℕ → ℕ → Bool → List Field
fields_left line at true = fields_at line at
fields_left line at false = fields_past line at

abbrev pub unread : List ℕ → ℕ → Bool → Unread
unread line at due = record { size = length line; fields = fields_left line at due; begins = due }

-- the same past the first field
abbrev pub past_field : Unread → Unread
past_field u = record { size = u.size; fields = drop 1 u.fields; begins = false }

-- what comes of a result: its fault, or what its value leads to
abbrev pub followed : {A B : Type 0} → Result A Fault → (A → Result B Fault) → Result B Fault
followed (Ok x) next = next x
followed (Err e) next = Err e

-- the number in field k of a line of n bytes, the first of these fields
abbrev pub number_in : ℕ → ℕ → List Field → Result ℕ Fault
number_in k n [] = Err (fault 4 2 k n)
number_in k n (f ∷ fs) = field_of k f.place f.bytes

-- no field may be left; the comma of one that is stands right before it
abbrev pub line_end_lem : List Field → Result (Unit {0}) Fault
line_end_lem [] = Ok tt
line_end_lem (f ∷ fs) = Err (fault 4 2 5 (f.place - 1))

abbrev pub label_by : ℕ → ℕ → ℕ → ℕ → Label
label_by o l b a = record { span = span_of o l; context = record { before = b; after = a } }

-- the label in the fields of a line of n bytes: the numbers of the first four in turn, and no field more
abbrev pub label_from : ℕ → List Field → Result Label Fault
label_from n fs =
    followed (number_in 1 n fs) (λ o.
    followed (number_in 2 n (drop 1 fs)) (λ l.
    followed (number_in 3 n (drop 2 fs)) (λ b.
    followed (number_in 4 n (drop 3 fs)) (λ a.
    followed (line_end_lem (drop 4 fs)) (λ _.
    Ok (label_by o l b a))))))

-- the label in a line; a line over 255 bytes has none
abbrev pub label_of : List ℕ → Result Label Fault
label_of line = cond (nat_lt 255 (length line)) (Err (fault 4 2 0 255)) (label_from (length line) (fields_at line 0))
