-- What holds of the breaks of every text, by every line rule. Assumes nothing.
use Rattle.std.specs.Prelude.{◌≡◌, ℕ, ◌+◌, ◌≤◌, List, [], ◌∷◌, ◌++◌, length, take, drop, Some}
use Rattle.lines.specs.Breaks.{breaks_by, past, line_start_lem, line_of, lowered}
use Rattle.lines.specs.declared.records.LineBreak.{LineBreak}

-- a line rule: a break has at most three bytes, lies in the text, and is the same after a cut that is not inside it
pub record LineRule (rule : List ℕ → ℕ) : Type 0 where
  pub narrow : (t : List ℕ) → rule t ≤ 3
  pub within : (t : List ℕ) → rule t ≤ length t
  pub cut : (t : List ℕ) (j : ℕ) → rule t ≤ j → rule (take j t) ≡ rule t

-- the breaks rise, do not overlap, and lie from i up to n
abbrev pub Rising : ℕ → List LineBreak → ℕ → Type 0
Rising i [] n = i ≤ n
Rising i (b ∷ bs) n = (i ≤ b.start) × (b.start ≤ b.end) × (b.end ≤ b.start + 2) × Rising (past b) bs n

-- the breaks of a text rise in it; a cut at a place outside a break leaves those before and those after it as they
-- were, none more and none fewer; and that place is on the line that so many breaks come before
pub record BreaksOf (rule : List ℕ → ℕ) (t : List ℕ) : Type 0 where
  pub rising : Rising 0 (breaks_by rule 0 0 t) (length t)
  pub split : (j : ℕ) → lowered (breaks_by rule 0 0 t) j ≡ j → breaks_by rule 0 0 (take j t) ++ breaks_by rule 0 j (drop j t) ≡ breaks_by rule 0 0 t
  pub before : (j : ℕ) → lowered (breaks_by rule 0 0 t) j ≡ j → line_of (breaks_by rule 0 0 t) j ≡ length (breaks_by rule 0 0 (take j t))

-- lines never fall from offset to offset, rise by at most one at a step, and begin at their own start; a lowered offset
-- is outside every break, and still on its line
pub record LinesOf (bs : List LineBreak) : Type 0 where
  pub never_falls : (o p : ℕ) → o ≤ p → line_of bs o ≤ line_of bs p
  pub one_a_step : (o : ℕ) → line_of bs (o + 1) ≤ line_of bs o + 1
  pub at_start : (k s : ℕ) → line_start_lem bs k ≡ Some s → line_of bs s ≡ k
  pub lowered_out : (o : ℕ) → lowered bs (lowered bs o) ≡ lowered bs o
  pub lowered_line : (o : ℕ) → line_of bs (lowered bs o) ≡ line_of bs o

abbrev pub EveryText : Type 0
EveryText = (rule : List ℕ → ℕ) → LineRule rule → (t : List ℕ) → BreaksOf rule t

abbrev pub EveryList : Type 0
EveryList = (bs : List LineBreak) (n : ℕ) → Rising 0 bs n → LinesOf bs
