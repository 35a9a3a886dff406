-- The digits of a field, one by one. Assumes nothing.
use Rattle.std.proofs.Common.{◌≡◌, ℕ, ◌+◌, ◌-◌, ◌*◌, ◌^◌, ◌<◌, ◌≤◌, List, [], ◌∷◌, map, length, get_or, take, arith}
use Rattle.std.specs.Int.Digits.{AllBelowBase}
use Rattle.std.specs.List.{prefix_len}
use Rattle.std.proofs.Math.Nat.{pow-le-pow_right}
use Rattle.std.proofs.lemmas.Bool.Decides.{nat_tests}
use Rattle.std.proofs.lemmas.Int.Digits.{number_more, number_lt}
use Rattle.std.proofs.lemmas.List.{take-map, get_or-map, length-map}
use Rattle.label_lines.specs.Fields.{is_digit, number_of}

-- the number of one digit more
pub number_step : (bytes : List ℕ) (i : ℕ) → i < length bytes → number_of (take (i + 1) bytes) ≡ number_of (take i bytes) * 10 + (get_or bytes i 0 - 48)
number_step bytes i within =
    let values = map (λ c. c - 48) bytes in
    let inside : i < length values = omega (arith, length-map bytes (λ c. c - 48)) in
    rw (← take-map (λ c. c - 48) (i + 1) bytes, ← take-map (λ c. c - 48) i bytes, ← get_or-map (λ c. c - 48) bytes i 0 0 within) (number_more 10 values i inside)

-- each digit is below 10
digits_below : (bytes : List ℕ) → prefix_len is_digit bytes ≡ length bytes → AllBelowBase 10 (map (λ c. c - 48) bytes)
digits_below [] all = tt
digits_below (c ∷ t) all =
    let first : c - 48 < 10 = grind (arith, nat_tests) in
    let rest : prefix_len is_digit t ≡ length t = grind (arith, nat_tests) in
    (first, digits_below t rest)

-- 10 digits write a number of 64 bits
pub fits : (bytes : List ℕ) → prefix_len is_digit bytes ≡ length bytes → length bytes ≤ 10 → number_of bytes < 2 ^ 64
fits bytes all few =
    let values = map (λ c. c - 48) bytes in
    let ten : length values ≤ 10 = omega (arith, length-map bytes (λ c. c - 48)) in
    omega (arith, number_lt 10 values (digits_below bytes all), pow-le-pow_right {n = 10} (omega arith) ten)
