-- The place so far, and the breaks that are left to pass. Assumes nothing.
use Rattle.std.proofs.Common.{◌≡◌, ℕ, ◌+◌, ◌-◌, ◌≤◌, min, List, ◌∷◌, length, take, drop, Some, None, sym, ap, ◌∙◌, ⊎_elim, arith}
use Rattle.std.proofs.lemmas.List.{take_all}
use Rattle.std.proofs.lemmas.Bool.Decides.{leb_tells}
use Rattle.lines.specs.Breaks.{breaks, past, line_of, next_break_lem, lowered}
use Rattle.lines.specs.Payloads.{column_after}
use Rattle.lines.specs.declared.records.LineBreak.{LineBreak}
use Rattle.lines.specs.declared.records.Place.{Place}
use Rattle.lines.proofs.BreakLaws.{line_none, Lies, drop_some, drop_none, few, lower_law}
use Rattle.lines.proofs.Finding.{rising, next_lies}

-- with the breaks of d before `at` passed, the place is p
pub record Passing (d : List ℕ) (r line column : ℕ) (p : Place) (at : ℕ) : Type 0 where
  pub lines : p.line + length (drop (line_of (breaks d) at) (breaks d)) ≡ line + length (breaks d)
  pub columns : column_after r p.column (drop (line_of (breaks d) at) (breaks d)) ≡ column_after r (column + r) (breaks d)

pub passing_first : (d : List ℕ) (r line column : ℕ) → Passing d r line column (record { line = line; column = column + r }) 0
passing_first d r line column =
    let all : drop (line_of (breaks d) 0) (breaks d) ≡ breaks d = ap (λ k. drop k (breaks d)) (line_none 0 (breaks d) (length d) 0 (rising d) (omega arith)) in
    record { lines = ap (λ bs. line + length bs) all; columns = ap (column_after r (column + r)) all }

module _ {d : List ℕ} {r line column : ℕ} {p : Place} {at : ℕ} (h : Passing d r line column p at) where
  module _ (b : LineBreak) (told : Some b ≡ next_break_lem (breaks d) at) where
    lie : Lies 0 (breaks d) (length d) (line_of (breaks d) at) b
    lie = next_lies d at b told

    first : drop (line_of (breaks d) at) (breaks d) ≡ b ∷ drop (line_of (breaks d) at + 1) (breaks d)
    first = drop_some (breaks d) (line_of (breaks d) at) b (sym told)

    left : drop (line_of (breaks d) (past b)) (breaks d) ≡ drop (line_of (breaks d) at + 1) (breaks d)
    left = let next : line_of (breaks d) (past b) ≡ line_of (breaks d) at + 1 = omega (arith, lie.next_line) in ap (λ k. drop k (breaks d)) next

    pub passing_more : Passing d r line column (record { line = p.line + 1; column = r - past b }) (past b)
    passing_more = record {
      lines = omega (arith, ap length left, ap length first, h.lines);
      columns = ap (column_after r (r - past b)) left ∙ sym (ap (column_after r p.column) first) ∙ h.columns;
    }

    pub passing_few : (p.line + 1 ≤ line + length d) × (past b ≤ length d)
    passing_few = (omega (arith, ap length first, h.lines, few 0 (breaks d) (length d) (rising d)), omega (arith, lie.within))

  pub passing_all : None ≡ next_break_lem (breaks d) at → p ≡ record { line = line + length (breaks d); column = column_after r (column + r) (breaks d) }
  passing_all told =
      let none = drop_none (breaks d) (line_of (breaks d) at) (sym told) in
      let l : p.line ≡ line + length (breaks d) = omega (arith, ap length none, h.lines) in
      let c : p.column ≡ column_after r (column + r) (breaks d) = sym (ap (column_after r p.column) none) ∙ h.columns in
      ap (λ n. record { line = n; column = p.column }) l ∙ ap (λ n. record { line = line + length (breaks d); column = n }) c

pub take_min : (d : List ℕ) (r end : ℕ) → end ≡ min (length d) r → take end d ≡ take r d
take_min d r end is = ⊎_elim
    (λ within. let same : end ≡ r = omega (arith, within.1) in ap (λ r. take r d) same)
    (λ out. take_all end d (omega (arith, out.1)) ∙ sym (take_all r d (omega (arith, out.1))))
    (leb_tells r (length d))

pub lowered_le : (d : List ℕ) (o : ℕ) → lowered (breaks d) o ≤ o
lowered_le d o = (lower_law 0 (breaks d) (length d) o (rising d) (omega arith)).to
