-- Flags and rows, from what was read. Assumes nothing.
use Rattle.std.proofs.Common.{◌≡◌, ℕ, ◌≤◌, true, cond, leb, List, length, set, Some, None, Option, sym, ap, ◌∙◌, arith}
use Rattle.std.proofs.lemmas.Bool.Decides.{nat_tests}
use Rattle.lines.specs.Payloads.{Payload, look_up}
use Rattle.lines.specs.declared.records.Place.{Place}
use Rattle.c_boundary.specs.Rows.{hash_of, read_flag, read_row, place_flag, place_row, look_flag, look_row, flag_if, row_if}

module _ (out : List ℕ) (read : Option Payload) (p : Payload) (is : Some p ≡ read) where
  pub read_flag_lem : 7 ≤ length out → 1 ≡ flag_if out 7 (read_flag read)
  read_flag_lem room =
      let fits : leb 7 (length out) ≡ true = grind (arith, nat_tests) in
      ap read_flag is ∙ sym (ap (λ yes. cond yes (read_flag read) 0) fits)

  pub read_row_lem : 7 ≤ length out → (a b c d e f g : ℕ) → a ≡ p.numbers.start → b ≡ p.numbers.length → c ≡ p.numbers.line → d ≡ p.numbers.column → e ≡ p.numbers.line_count → f ≡ length p.bytes → g ≡ hash_of p.bytes
      → set (set (set (set (set (set (set out 0 a) 1 b) 2 c) 3 d) 4 e) 5 f) 6 g ≡ row_if out 7 (read_row read out)
  read_row_lem room a b c d e f g ea eb ec ed ee ef eg =
      let fits : leb 7 (length out) ≡ true = grind (arith, nat_tests) in
      simp (ea, eb, ec, ed, ee, ef, eg) (ap (λ r. read_row r out) is ∙ sym (ap (λ yes. cond yes (read_row read out) out) fits))

  module _ (x : ℕ) (room : 2 ≤ length out) where
    fits : leb 2 (length out) ≡ true
    fits = grind (arith, nat_tests)

    module _ (at : Place) (found : Some at ≡ look_up p x) where
      pub place_flag_lem : 2 ≡ flag_if out 2 (look_flag read x)
      place_flag_lem = ap place_flag found ∙ ap (λ r. look_flag r x) is ∙ sym (ap (λ yes. cond yes (look_flag read x) 0) fits)

      pub place_row_lem : set (set out 0 at.line) 1 at.column ≡ row_if out 2 (look_row read x out)
      place_row_lem = ap (λ o. place_row o out) found ∙ ap (λ r. look_row r x out) is ∙ sym (ap (λ yes. cond yes (look_row read x out) out) fits)

    module _ (lost : None ≡ look_up p x) where
      pub lost_flag : 1 ≡ flag_if out 2 (look_flag read x)
      lost_flag = ap place_flag lost ∙ ap (λ r. look_flag r x) is ∙ sym (ap (λ yes. cond yes (look_flag read x) 0) fits)

      pub lost_row : out ≡ row_if out 2 (look_row read x out)
      lost_row = ap (λ o. place_row o out) lost ∙ ap (λ r. look_row r x out) is ∙ sym (ap (λ yes. cond yes (look_row read x out) out) fits)
