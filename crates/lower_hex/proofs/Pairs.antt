-- A pair of digits is the text of one byte more. Assumes nothing.
use Rattle.std.proofs.Common.{◌≡◌, ℕ, ◌*◌, ◌/◌, ◌%◌, ◌<◌, List, [], ◌∷◌, ◌++◌, length, slice_index, arith}
use Rattle.std.proofs.lemmas.Grind.{common_steps}
use Rattle.lower_hex.specs.Hex.{hex_digit, hex_text}

hex_text-append : (bytes others : List ℕ) → hex_text (bytes ++ others) ≡ hex_text bytes ++ hex_text others
hex_text-append [] others = grind arith
hex_text-append (byte ∷ bytes) others = grind (arith, hex_text-append bytes others)

length-hex_text : (bytes : List ℕ) → length (hex_text bytes) ≡ 2 * length bytes
length-hex_text [] = grind arith
length-hex_text (byte ∷ bytes) = grind (arith, length-hex_text bytes)

pub digits_of_more : (bytes more rest pair after digits : List ℕ) (byte : ℕ) → hex_text bytes ++ rest ≡ digits → rest ≡ pair ++ after → length pair ≡ 2
    → hex_digit (byte / 16) ≡ slice_index pair 0 → hex_digit (byte % 16) ≡ slice_index pair 1 → more ≡ bytes ++ byte ∷ [] → hex_text more ++ after ≡ digits
digits_of_more bytes more rest [] after digits byte so_far cut two high low more_is = grind arith
digits_of_more bytes more rest (h ∷ []) after digits byte so_far cut two high low more_is = grind arith
digits_of_more bytes more rest (h ∷ l ∷ []) after digits byte so_far cut two high low more_is = grind (arith, common_steps, hex_text-append bytes (byte ∷ []))
digits_of_more bytes more rest (h ∷ l ∷ m ∷ others) after digits byte so_far cut two high low more_is = grind arith

pub no_digit_left : (bytes rest digits : List ℕ) → hex_text bytes ++ rest ≡ digits → length rest < 2 → length digits % 2 ≡ 0 → hex_text bytes ≡ digits
no_digit_left bytes [] digits so_far short even = grind (arith, common_steps)
no_digit_left bytes (d ∷ rest) digits so_far short even = grind (arith, common_steps, length-hex_text bytes)
