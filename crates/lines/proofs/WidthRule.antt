-- The line rule is a line rule by the laws' meaning. Assumes nothing.
use Rattle.std.proofs.Common.{◌≡◌, ℕ, zero, suc, ◌≤◌, List, [], ◌∷◌, length, take, refl, arith}
use Rattle.std.proofs.lemmas.Bool.Decides.{nat_tests}
use Rattle.lines.specs.LineRule.{width}
use Rattle.lines.specs.Laws.{LineRule}

narrow : (t : List ℕ) → width t ≤ 3
narrow [] = omega arith
narrow (c ∷ []) = grind (arith, nat_tests)
narrow (c ∷ d ∷ t) = grind (arith, nat_tests)

within : (t : List ℕ) → width t ≤ length t
within [] = omega arith
within (c ∷ []) = grind (arith, nat_tests)
within (c ∷ d ∷ t) = grind (arith, nat_tests)

cut : (t : List ℕ) (j : ℕ) → width t ≤ j → width (take j t) ≡ width t
cut [] zero le = refl
cut [] (suc j) le = refl
cut (c ∷ []) zero le = omega arith
cut (c ∷ []) (suc zero) le = refl
cut (c ∷ []) (suc (suc j)) le = refl
cut (c ∷ d ∷ t) zero le = omega arith
cut (c ∷ d ∷ t) (suc zero) le = grind (arith, nat_tests)
cut (c ∷ d ∷ t) (suc (suc j)) le = refl

pub width_rule : LineRule width
width_rule = record { narrow = narrow; within = within; cut = cut }
