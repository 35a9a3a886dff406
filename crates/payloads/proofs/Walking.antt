-- What a walk through a text knows, and how far it goes. Assumes nothing.
use Rattle.std.proofs.Common.{◌≡◌, ℕ, zero, suc, ◌+◌, ◌<◌, ◌≤◌, ◌⊎◌, List, [], ◌∷◌, length, drop, Some, None, unwrap_or, sym, refl, ap, ◌∙◌, inl, inr, ⊎_elim, arith}
use Rattle.std.proofs.lemmas.Bool.{cases_eq}
use Rattle.std.proofs.lemmas.Bool.Decides.{nat_tests}
use Rattle.lines.specs.Breaks.{breaks, line_start_lem, line_of, column_of}
use Rattle.lines.specs.LineRule.{width}
use Rattle.lines.specs.declared.records.LineBreak.{LineBreak}
use Rattle.lines.proofs.BreakLaws.{few}
use Rattle.lines.proofs.Finding.{line_all, two}
use Rattle.lines.proofs.Finding.{rising}
use Rattle.payloads.proofs.Passing.{lowered_le}
use Rattle.payloads.proofs.Stepping.{plain_line, line_at_end, ends_start, pair_line}

pub column_first : (t : List ℕ) → column_of (breaks t) 0 ≡ 0
column_first t = omega (arith, lowered_le t 0)

pub column_le : (t : List ℕ) (o : ℕ) → column_of (breaks t) o ≤ o
column_le t o = omega (arith, lowered_le t o)

pub line_few : (bs : List LineBreak) (o : ℕ) → line_of bs o ≤ length bs
line_few [] o = omega arith
line_few (b ∷ bs) o = let rest = line_few bs o in grind (arith, nat_tests)

pub line_le : (t : List ℕ) (o : ℕ) → line_of (breaks t) o ≤ length t
line_le t o = omega (arith, line_few (breaks t) o, few 0 (breaks t) (length t) (rising t))

-- no break has more than two bytes
pub widest : (t : List ℕ) (w : ℕ) → w ≡ width t → (w ≡ 0 → ⊥) → (w ≡ 1 → ⊥) → width t ≡ 2
widest t w is some more = omega (arith, is, some, more, two t)

-- on the way to line k: before it, or at its start
pub record Nearing (t : List ℕ) (k at : ℕ) : Type 0 where
  pub near : (line_of (breaks t) at < k) ⊎ (line_start_lem (breaks t) k ≡ Some at)
  pub upto : line_of (breaks t) at ≤ k

-- where a step changes the line, the new line starts there
starts_there : (t : List ℕ) (i : ℕ) → i < length t → (line_of (breaks t) (i + 1) ≡ line_of (breaks t) i) ⊎ ((line_of (breaks t) (i + 1) ≡ line_of (breaks t) i + 1) × (line_start_lem (breaks t) (line_of (breaks t) i + 1) ≡ Some (i + 1)))
starts_there t i within = ⊎_elim
    (λ (plain : width (drop i t) ≡ 0). inl (plain_line t i within plain))
    (λ (some : width (drop i t) ≡ 0 → ⊥). ⊎_elim
    (λ (last : width (drop i t) ≡ 1). inr (line_at_end t i within last, ends_start t i within last))
    (λ (more : width (drop i t) ≡ 1 → ⊥). inl (pair_line t i within (widest (drop i t) (width (drop i t)) refl some more)))
    (cases_eq (width (drop i t)) 1))
    (cases_eq (width (drop i t)) 0)

pub nearing_first : (t : List ℕ) (k at : ℕ) → line_of (breaks t) at < k → Nearing t k at
nearing_first t k at lt = record { near = inl lt; upto = omega arith }

pub nearing_more : (t : List ℕ) (k at : ℕ) → at < length t → line_of (breaks t) at < k → Nearing t k (at + 1)
nearing_more t k at within lt = ⊎_elim
    (λ same. record { near = inl (omega (arith, same)); upto = omega (arith, same) })
    (λ next. ⊎_elim
    (λ (here : line_of (breaks t) at + 1 ≡ k). record { near = inr (ap (line_start_lem (breaks t)) (sym here) ∙ next.1); upto = omega (arith, next.0) })
    (λ (there : line_of (breaks t) at + 1 ≡ k → ⊥). record { near = inl (omega (arith, next.0)); upto = omega (arith, next.0) })
    (cases_eq (line_of (breaks t) at + 1) k))
    (starts_there t at within)

pub no_line : (bs : List LineBreak) (k : ℕ) → length bs < k → line_start_lem bs k ≡ None
no_line bs zero lt = absurd (omega arith)
no_line [] (suc k) lt = refl
no_line (b ∷ bs) (suc zero) lt = absurd (omega arith)
no_line (b ∷ bs) (suc (suc k)) lt = no_line bs (suc k) (omega arith)

-- the walk stops at the line's start, or at the end
pub nearing_done : (t : List ℕ) (k at : ℕ) → Nearing t k at → at ≤ length t → (line_of (breaks t) at < k → length t ≤ at) → at ≡ unwrap_or (line_start_lem (breaks t) k) (length t)
nearing_done t k at h within stop = ⊎_elim
    (λ before.
    let end : at ≡ length t = omega (arith, stop before) in
    let all = ap (line_of (breaks t)) end ∙ line_all 0 (breaks t) (length t) (rising t) in
    end ∙ sym (ap (λ s. unwrap_or s (length t)) (no_line (breaks t) k (omega (arith, all, before)))))
    (λ starts. sym (ap (λ s. unwrap_or s (length t)) starts))
    h.near
