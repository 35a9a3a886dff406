-- How the search for the next CR or LF moves on. Assumes nothing.
use Rattle.std.proofs.Common.{◌≡◌, ℕ, zero, suc, ◌+◌, ◌<◌, ◌≤◌, min, true, not, List, [], ◌∷◌, length, get_or, take, drop, refl, ap, arith}
use Rattle.std.specs.List.{prefix_len}
use Rattle.std.proofs.lemmas.List.{drop-drop, drop-take, length-drop, length-take}
use Rattle.std.proofs.lemmas.List.Sums.{prefix_len-drop_no, prefix_len-le-length}
use Rattle.std.proofs.lemmas.Bool.Decides.{nat_tests}
use Rattle.lines.specs.LineRule.{ends_line_lem}
use Rattle.lines.specs.Endings.{is_plain, next_ending_lem}

pub stops : (t : List ℕ) (i : ℕ) → i < length t → ends_line_lem (get_or t i 0) ≡ true → next_ending_lem t i ≡ i
stops t i within ends = omega (arith, prefix_len-drop_no is_plain t i 0 within (ap not ends))

-- in the first n bytes the search stops where it does in all, or after n
pub leading_take : (xs : List ℕ) (n : ℕ) → prefix_len is_plain (take n xs) ≡ min (prefix_len is_plain xs) n
leading_take [] zero = refl
leading_take [] (suc n) = omega arith
leading_take (x ∷ xs) zero = omega arith
leading_take (x ∷ xs) (suc n) = let rest = leading_take xs n in grind (arith, nat_tests)

pub leading_drop : (xs : List ℕ) (n : ℕ) → n ≤ prefix_len is_plain xs → n + prefix_len is_plain (drop n xs) ≡ prefix_len is_plain xs
leading_drop xs zero few = omega arith
leading_drop [] (suc n) few = absurd (omega arith)
leading_drop (x ∷ xs) (suc n) few = let rest = leading_drop xs n (grind (arith, nat_tests)) in grind (arith, nat_tests)

-- the search goes on from any place up to where it stops
pub passes_to : (t : List ℕ) (i n r : ℕ) → i + n ≤ length t → r ≡ min (next_ending_lem t i) (i + n) → i + n ≤ r → next_ending_lem t (i + n) ≡ next_ending_lem t i
passes_to t i n r fits is far =
    let rest = leading_drop (drop i t) n (omega (arith, is, far)) in
    let on : prefix_len is_plain (drop n (drop i t)) ≡ prefix_len is_plain (drop (i + n) t) = ap (prefix_len is_plain) (drop-drop n i t) in
    omega (arith, rest, on)

-- in a part of the text that ends at i + n the search stops where it does in all, or with the part
pub in_part : (t : List ℕ) (i n : ℕ) → i + n ≤ length t → next_ending_lem (take (i + n) t) i ≡ min (next_ending_lem t i) (i + n)
in_part t i n fits = omega (arith, ap (prefix_len is_plain) (drop-take i n t), leading_take (drop i t) n, length-take (i + n) t, prefix_len-le-length is_plain (drop i t), length-drop i t)

-- and in n bytes from i on, as many of which stand before its first CR or LF
pub in_front : (t : List ℕ) (i n r : ℕ) → i + n ≤ length t → r ≡ prefix_len is_plain (take n (drop i t)) → i + r ≡ min (next_ending_lem t i) (i + n)
in_front t i n r fits is = omega (arith, is, leading_take (drop i t) n, prefix_len-le-length is_plain (drop i t), length-drop i t)
