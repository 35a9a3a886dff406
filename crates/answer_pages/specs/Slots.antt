-- One run that answers label lines, each into a slot of its own. Assumes nothing.
use Rattle.std.specs.Prelude.{ℕ, ◌+◌, ◌*◌, List, [], ◌∷◌, ◌++◌, take, drop, Some, None, Ok, Err, Option, Result}
use Rattle.lines.specs.declared.records.Fault.{Fault}
use Rattle.answers.specs.Written.{fault_text}
use Rattle.call_runs.specs.declared.calls.Call.{Call}
use Rattle.call_runs.specs.declared.calls.Call.TheVariants.{Read, Locate, Answer, Forget}
use Rattle.call_runs.specs.declared.calls.PagePart.{PagePart}
use Rattle.call_runs.specs.declared.calls.Told.{Told}
use Rattle.call_runs.specs.declared.calls.Told.TheVariants.{Shown, Located, Answered, Nothing}

-- slot k: 55 bytes, as many as a line to write has at most
abbrev pub slot : ℕ → PagePart
slot k = record { start = k * 55; length = 55 }

-- a label line that is to be answered, and the slot that it is answered into
pub record Asked : Type 0 where
  pub line : List ℕ
  pub part : PagePart

abbrev pub asked_by : Call → Option Asked
asked_by (Read span context) = None
asked_by (Locate o) = None
asked_by (Answer line part) = Some (record { line = line.now; part = part })
asked_by Forget = None

-- the label lines in turn, the first of them into slot k
abbrev pub slots_from : ℕ → List (List ℕ) → List (Option Asked)
slots_from k [] = []
slots_from k (line ∷ others) = Some (record { line = line; part = slot k }) ∷ slots_from (k + 1) others

-- what is taken over from a slot, by what was told of it
abbrev pub taken_over : List ℕ → Result ℕ Fault → List ℕ
taken_over bytes (Ok count) = take count bytes
taken_over bytes (Err f) = fault_text f

abbrev pub shown_by : List ℕ → Told → List ℕ
shown_by bytes (Shown w) = []
shown_by bytes (Located p) = []
shown_by bytes (Answered r) = taken_over bytes r
shown_by bytes Nothing = []

-- all that is taken over, slot by slot, as far as there are slots
abbrev pub gathered : List ℕ → List Told → List ℕ
gathered slots [] = []
gathered [] (told ∷ others) = []
gathered (b ∷ slots) (told ∷ others) = shown_by (take 55 (b ∷ slots)) told ++ gathered (drop 55 (b ∷ slots)) others
