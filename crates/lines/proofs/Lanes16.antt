-- The mask of the bytes that end a line, from the two comparisons of lanes. Assumes nothing.
use Rattle.std.proofs.Common.{◌≡◌, ℕ, ◌%◌, ◌^◌, ◌≤◌, Bool, true, false, cond, ◌||◌, eqb, List, [], ◌∷◌, map, length, replicate, refl, ap, ◌∙◌, subst, arith}
use lib.Bits.{bit_or}
use lib.Lanes.{zip2, mask_l, top}
use lib.ListN.{length-map}
use Rattle.std.proofs.lemmas.Simd.{mask_l-mod}
use Rattle.lines.specs.LineRule.{ends_line_lem}

-- what `simd_eq` puts into a lane
abbrev equal : ℕ → ℕ → ℕ
equal a b = cond (eqb a b) 255 0

either : (p q : Bool) → top 7 (bit_or (cond p 255 0) (cond q 255 0)) ≡ (p || q)
either true true = refl
either true false = refl
either false true = refl
either false false = refl

compared : (xs : List ℕ) → map (top 7) (zip2 bit_or (zip2 equal xs (replicate (length xs) 13)) (zip2 equal xs (replicate (length xs) 10))) ≡ map ends_line_lem xs
compared [] = refl
compared (x ∷ xs) = let here = either (eqb x 13) (eqb x 10) in let rest = compared xs in cc

pub mask_of : (xs : List ℕ) (n : ℕ) → length xs ≡ n → n ≤ 64 → mask_l (map (top 7) (zip2 bit_or (zip2 equal xs (replicate n 13)) (zip2 equal xs (replicate n 10)))) % 2 ^ 64 ≡ mask_l (map ends_line_lem xs)
mask_of xs n long few =
    let P : ℕ → Type 0 = λ m. mask_l (map (top 7) (zip2 bit_or (zip2 equal xs (replicate m 13)) (zip2 equal xs (replicate m 10)))) % 2 ^ 64 ≡ mask_l (map ends_line_lem xs) in
    let short : length (map ends_line_lem xs) ≤ 64 = omega (arith, length-map xs ends_line_lem) in
    subst P long (ap (λ (ms : List Bool). mask_l ms % 2 ^ 64) (compared xs) ∙ mask_l-mod (map ends_line_lem xs) 64 short)
