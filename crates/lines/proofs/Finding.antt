-- How the next break is found, and when an offset lies inside one. Assumes nothing.
use Rattle.std.proofs.Common.{◌≡◌, ℕ, zero, suc, pred, ◌+◌, ◌-◌, ◌<◌, ◌≤◌, min, Bool, true, false, cond, eqb, ltb, leb, List, [], ◌∷◌, ◌++◌, length, take, drop, Some, None, Option, sym, refl, ap, ◌∙◌, ⊎_elim, arith}
use Rattle.std.proofs.lemmas.List.{drop_all, drop-drop, length-drop, length-take, take_all}
use Rattle.std.proofs.lemmas.List.Sums.{prefix_len-le-length}
use Rattle.std.proofs.lemmas.Bool.{cases_Bool}
use Rattle.std.proofs.lemmas.Bool.Decides.{nat_tests, leb_tells}
use Rattle.std.specs.List.{prefix_len}
use Rattle.lines.specs.Breaks.{seen, opened, breaks_by, breaks, break_ending, past, line_of, next_break_lem, lowered}
use Rattle.lines.specs.Laws.{Rising}
use Rattle.lines.specs.LineRule.{ends_line_lem, width}
use Rattle.lines.specs.Endings.{is_plain, next_ending_lem}
use Rattle.lines.specs.declared.records.LineBreak.{LineBreak}
use Rattle.lines.proofs.BreakLaws.{lowered_none, rising_by, Lies, lies, every_text, every_list}
use Rattle.lines.proofs.WidthRule.{width_rule}

-- the breaks of a text rise in it
pub rising : (t : List ℕ) → Rising 0 (breaks t) (length t)
rising t = (every_text width width_rule t).rising

-- a break has at most two bytes, and none of two begins with the second byte of one
pub two : (t : List ℕ) → width t ≤ 2
two [] = omega arith
two (c ∷ []) = grind (arith, nat_tests)
two (c ∷ d ∷ t) = grind (arith, nat_tests)

second : (c : ℕ) (t : List ℕ) → width (c ∷ t) ≡ 2 → width t ≤ 1
second c [] e = omega arith
second c (d ∷ []) e = grind (arith, nat_tests)
second c (d ∷ f ∷ t) e = grind (arith, nat_tests)

-- the offset after place i + j, by the break that begins at that place
abbrev low : Bool → ℕ → ℕ → ℕ
low w i j = cond w (i + j) (i + suc j)

low_next : (w : Bool) (i j : ℕ) → low w (i + 1) j ≡ low w i (suc j)
low_next true i j = omega arith
low_next false i j = omega arith

here : (i c : ℕ) (t : List ℕ) (v : ℕ) → width (c ∷ t) ≡ v → lowered (opened i v (breaks_by width (pred v) (i + 1) t)) (i + 1) ≡ low (eqb v 2) i 0
here i c t zero e = lowered_none (i + 1 + 0) (breaks_by width 0 (i + 1) t) (i + 1 + length t) (i + 1) (rising_by width_rule 0 (i + 1) t (i + 1 + length t) refl (omega arith)) (omega arith)
here i c t (suc zero) e =
    let rest = lowered_none (i + 1 + 0) (breaks_by width 0 (i + 1) t) (i + 1 + length t) (i + 1) (rising_by width_rule 0 (i + 1) t (i + 1 + length t) refl (omega arith)) (omega arith) in
    let out : leb (i + 1) (i + 0) ≡ false = grind (arith, nat_tests) in grind (arith, nat_tests)
here i c t (suc (suc zero)) e =
    let from : ltb i (i + 1) ≡ true = grind (arith, nat_tests) in
    let to : leb (i + 1) (i + 1) ≡ true = grind (arith, nat_tests) in simp (from, to) (omega arith)
here i c t (suc (suc (suc v))) e = absurd (omega (arith, e, two (c ∷ t)))

-- the same of the text after its first byte
abbrev On : ℕ → List ℕ → ℕ → Type 0
On i t j = (k : ℕ) → k ≤ 1 → (k ≡ 1 → width t ≤ 1) → lowered (breaks_by width k i t) (i + suc j) ≡ low (eqb (width (drop j t)) 2) i j

onward : (k i : ℕ) (t : List ℕ) (j : ℕ) → On (i + 1) t j → k ≤ 1 → (k ≡ 1 → width t ≤ 1) → lowered (breaks_by width k (i + 1) t) (i + suc (suc j)) ≡ low (eqb (width (drop j t)) 2) i (suc j)
onward k i t j rest few tail =
    let same : i + 1 + suc j ≡ i + suc (suc j) = omega arith in
    ap (lowered (breaks_by width k (i + 1) t)) (sym same) ∙ rest k few tail ∙ low_next (eqb (width (drop j t)) 2) i j

later : (i c : ℕ) (t : List ℕ) (j v : ℕ) → On (i + 1) t j → width (c ∷ t) ≡ v → lowered (opened i v (breaks_by width (pred v) (i + 1) t)) (i + suc (suc j)) ≡ low (eqb (width (drop j t)) 2) i (suc j)
later i c t j zero rest e = onward 0 i t j rest (omega arith) (λ one. absurd (omega arith))
later i c t j (suc zero) rest e =
    let out : leb (i + suc (suc j)) (i + 0) ≡ false = grind (arith, nat_tests) in
    let skip : lowered (opened i 1 (breaks_by width 0 (i + 1) t)) (i + suc (suc j)) ≡ lowered (breaks_by width 0 (i + 1) t) (i + suc (suc j)) = grind (arith, nat_tests) in
    skip ∙ onward 0 i t j rest (omega arith) (λ one. absurd (omega arith))
later i c t j (suc (suc zero)) rest e =
    let out : leb (i + suc (suc j)) (i + 1) ≡ false = grind (arith, nat_tests) in
    let skip : lowered (opened i 2 (breaks_by width 1 (i + 1) t)) (i + suc (suc j)) ≡ lowered (breaks_by width 1 (i + 1) t) (i + suc (suc j)) = grind (arith, nat_tests) in
    skip ∙ onward 1 i t j rest (omega arith) (λ one. second c t e)
later i c t j (suc (suc (suc v))) rest e = absurd (omega (arith, e, two (c ∷ t)))

lowered_by : (i : ℕ) (t : List ℕ) (j : ℕ) → On i t j
lowered_by i [] zero k few tail = refl
lowered_by i [] (suc j) k few tail = refl
lowered_by i (c ∷ t) zero zero few tail = here i c t (width (c ∷ t)) refl
lowered_by i (c ∷ t) (suc j) zero few tail = later i c t j (width (c ∷ t)) (lowered_by (i + 1) t j) refl
lowered_by i (c ∷ t) zero (suc zero) few tail =
    let rest = lowered_none (i + 1 + 0) (breaks_by width 0 (i + 1) t) (i + 1 + length t) (i + 1) (rising_by width_rule 0 (i + 1) t (i + 1 + length t) refl (omega arith)) (omega arith) in
    let one = tail refl in grind (arith, nat_tests)
lowered_by i (c ∷ t) (suc j) (suc zero) few tail = onward 0 i t j (lowered_by (i + 1) t j) (omega arith) (λ one. absurd (omega arith))
lowered_by i (c ∷ t) j (suc (suc k)) few tail = absurd (omega arith)

module _ (t : List ℕ) where
  by_width : (j : ℕ) → lowered (breaks t) (suc j) ≡ low (eqb (width (drop j t)) 2) 0 j
  by_width j = let same : 0 + suc j ≡ suc j = omega arith in ap (lowered (breaks t)) (sym same) ∙ lowered_by 0 t j 0 (omega arith) (λ one. absurd (omega arith))

  -- where a break of two bytes begins right before an offset, that is inside the break, and else in none
  pub lowered_in : (o w : ℕ) → 0 < o → w ≡ width (drop (o - 1) t) → w ≡ 2 → o - 1 ≡ lowered (breaks t) o
  lowered_in zero w some is wide = absurd (omega arith)
  lowered_in (suc j) w some is wide =
      let same : suc j - 1 ≡ j = omega arith in
      let e = ap (λ j. width (drop j t)) same in
      let b = by_width j in grind (arith, nat_tests)

  pub lowered_not : (o : ℕ) → (0 < o → width (drop (o - 1) t) ≡ 2 → ⊥) → o ≡ lowered (breaks t) o
  lowered_not zero narrow = sym (lowered_none 0 (breaks t) (length t) 0 (rising t) (omega arith))
  lowered_not (suc j) narrow =
      let same : suc j - 1 ≡ j = omega arith in
      let e = ap (λ j. width (drop j t)) same in
      let not-two = narrow (omega arith) in
      let b = by_width j in grind (arith, nat_tests)

-- the breaks from i on, and those from the next CR or LF on
pub record Stops (i : ℕ) (t : List ℕ) : Type 0 where
  pub same : breaks_by width 0 i t ≡ breaks_by width 0 (i + prefix_len is_plain t) (drop (prefix_len is_plain t) t)
  pub end : width (drop (prefix_len is_plain t) t) ≡ 0 → drop (prefix_len is_plain t) t ≡ []

width_plain : (c : ℕ) (t : List ℕ) → ends_line_lem c ≡ false → width (c ∷ t) ≡ 0
width_plain c [] e = grind (arith, nat_tests)
width_plain c (d ∷ t) e = grind (arith, nat_tests)

width_ends : (c : ℕ) (t : List ℕ) → ends_line_lem c ≡ true → width (c ∷ t) ≡ 0 → ⊥
width_ends c [] e z = grind (arith, nat_tests)
width_ends c (d ∷ t) e z = grind (arith, nat_tests)

pub stops : (i : ℕ) (t : List ℕ) → Stops i t
stops i [] = record { same = refl; end = λ z. refl }
stops i (c ∷ t) = ⊎_elim
    (λ (ends : ends_line_lem c ≡ true).
    let none : prefix_len is_plain (c ∷ t) ≡ 0 = simp ends in
    let from : i + 0 ≡ i = omega arith in
    record {
      same = sym (ap (λ n. breaks_by width 0 (i + n) (drop n (c ∷ t))) none ∙ ap (λ i. breaks_by width 0 i (c ∷ t)) from);
      end = λ z. absurd (width_ends c t ends (sym (ap (λ n. width (drop n (c ∷ t))) none) ∙ z));
    })
    (λ (plain : ends_line_lem c ≡ false).
    let rest = stops (i + 1) t in
    let more : prefix_len is_plain (c ∷ t) ≡ suc (prefix_len is_plain t) = simp plain (omega arith) in
    let from : i + 1 + prefix_len is_plain t ≡ i + suc (prefix_len is_plain t) = omega arith in
    record {
      same =
          ap (λ v. opened i v (breaks_by width (pred v) (i + 1) t)) (width_plain c t plain)
          ∙ rest.same
          ∙ ap (λ i. breaks_by width 0 i (drop (prefix_len is_plain t) t)) from
          ∙ sym (ap (λ n. breaks_by width 0 (i + n) (drop n (c ∷ t))) more);
      end = λ z. (ap (λ n. drop n (c ∷ t)) more ∙ rest.end (sym (ap (λ n. width (drop n (c ∷ t))) more) ∙ z));
    })
    (cases_Bool (ends_line_lem c))

after_all : (ones bs : List LineBreak) → break_ending (ones ++ bs) (length ones) ≡ break_ending bs 0
after_all [] bs = refl
after_all (b ∷ ones) bs = after_all ones bs

first_of : (i : ℕ) (t : List ℕ) (m : ℕ) → width t ≡ suc m → break_ending (breaks_by width 0 i t) 0 ≡ Some (record { start = i; end = i + m })
first_of i [] m e = absurd (omega arith)
first_of i (c ∷ t) m e = ap (λ v. break_ending (opened i v (breaks_by width (pred v) (i + 1) t)) 0) e

module _ (t : List ℕ) (from : ℕ) where
  -- the next break is the first of the breaks of the text from a place outside every break on
  next_is : (i : ℕ) → lowered (breaks t) i ≡ i → next_break_lem (breaks t) i ≡ break_ending (breaks_by width 0 i (drop i t)) 0
  next_is i out =
      let law = every_text width width_rule t in
      ap (break_ending (breaks t)) (law.before i out)
      ∙ sym (ap (λ bs. break_ending bs (length (breaks (take i t)))) (law.split i out))
      ∙ after_all (breaks (take i t)) (breaks_by width 0 i (drop i t))

  module _ (i p : ℕ) (low-is : i ≡ lowered (breaks t) from) (is : p ≡ next_ending_lem t i) where
    outside : lowered (breaks t) i ≡ i
    outside = ap (lowered (breaks t)) low-is ∙ (every_list (breaks t) (length t) (rising t)).lowered_out from ∙ sym low-is

    from_low : next_break_lem (breaks t) from ≡ break_ending (breaks_by width 0 i (drop i t)) 0
    from_low =
        sym (ap (break_ending (breaks t)) ((every_list (breaks t) (length t) (rising t)).lowered_line from))
        ∙ ap (next_break_lem (breaks t)) (sym low-is)
        ∙ next_is i outside

    -- p is where the plain bytes from i on end
    at_p : (i ≤ length t) → (i + prefix_len is_plain (drop i t) ≡ p) × (drop (prefix_len is_plain (drop i t)) (drop i t) ≡ drop p t)
    at_p le =
        let e : i + prefix_len is_plain (drop i t) ≡ p = omega (arith, is, prefix_len-le-length is_plain (drop i t), length-drop i t) in
        (e, drop-drop (prefix_len is_plain (drop i t)) i t ∙ ap (λ j. drop j t) e)

    pub finds_none : (w : ℕ) → w ≡ width (drop p t) → w ≡ 0 → None ≡ next_break_lem (breaks t) from
    finds_none w wide z = ⊎_elim
        (λ in_text.
        let at = at_p in_text.1 in
        let s = stops i (drop i t) in
        let empty : drop (prefix_len is_plain (drop i t)) (drop i t) ≡ [] = s.end (ap width at.1 ∙ sym wide ∙ z) in
        sym (from_low ∙ ap (λ bs. break_ending bs 0) (s.same ∙ ap (breaks_by width 0 (i + prefix_len is_plain (drop i t))) empty)))
        (λ out. let empty = drop_all i t (omega (arith, out.1)) in sym (from_low ∙ ap (λ u. break_ending (breaks_by width 0 i u) 0) empty))
        (leb_tells i (length t))

    pub finds_some : (w : ℕ) → w ≡ width (drop p t) → (w ≡ 0 → ⊥) → Some (record { start = p; end = p + w - 1 }) ≡ next_break_lem (breaks t) from
    finds_some zero wide some = absurd (some refl)
    finds_some (suc m) wide some = ⊎_elim
        (λ in_text.
        let at = at_p in_text.1 in
        let s = stops i (drop i t) in
        let last : p + m ≡ p + suc m - 1 = omega arith in
        sym (from_low
        ∙ ap (λ bs. break_ending bs 0) s.same
        ∙ ap (λ j. break_ending (breaks_by width 0 j (drop (prefix_len is_plain (drop i t)) (drop i t))) 0) at.0
        ∙ first_of p (drop (prefix_len is_plain (drop i t)) (drop i t)) m (ap width at.1 ∙ sym wide)
        ∙ ap (λ j. Some (record { start = p; end = j })) last))
        (λ out.
        let empty = drop_all p t (let o = out.1 in omega (arith, is)) in
        absurd (omega (arith, wide, ap width empty)))
        (leb_tells i (length t))

    pub fits : (w : ℕ) → w ≡ width (drop p t) → p + w ≤ length t
    fits w wide = let m : p ≤ length t = omega (arith, is) in omega (arith, wide, width_rule.within (drop p t), length-drop p t)

pub few_seen : (s : List ℕ) → length (seen s) ≤ 4294967295
few_seen s = omega (arith, length-take (min (length s) 4294967295) s)

-- a text that a call sees whole
pub seen_whole : (t : List ℕ) → length t ≤ 4294967295 → seen t ≡ t
seen_whole t short = take_all (min (length t) 4294967295) t (omega arith)

module _ (t : List ℕ) (o : ℕ) (short : length t ≤ 4294967295) where
  pub told_whole_lem : (r : Option LineBreak) → r ≡ next_break_lem (breaks (seen t)) o → r ≡ next_break_lem (breaks t) o
  told_whole_lem r told = told ∙ ap (λ t. next_break_lem (breaks t) o) (seen_whole t short)

  pub ends_within : (b : LineBreak) → Some b ≡ next_break_lem (breaks (seen t)) o → past b ≤ length t
  ends_within b told = omega (arith, (lies 0 (breaks t) (length t) (rising t) (line_of (breaks t) o) b (sym (told_whole_lem (Some b) told))).within)

pub line_all : (i : ℕ) (bs : List LineBreak) (n : ℕ) → Rising i bs n → line_of bs n ≡ length bs
line_all i [] n r = refl
line_all i (b ∷ bs) n r =
    let within = (lies i (b ∷ bs) n r 0 b refl).within in
    let rest = line_all (past b) bs n r.3 in grind (arith, nat_tests)

none_after : (bs : List LineBreak) → break_ending bs (length bs) ≡ None
none_after [] = refl
none_after (b ∷ bs) = none_after bs

-- no break is left at the end
pub over : (t : List ℕ) → next_break_lem (breaks t) (length t) ≡ None
over t = ap (break_ending (breaks t)) (line_all 0 (breaks t) (length t) (rising t)) ∙ none_after (breaks t)

-- the next break from o on: where it lies, and that it moves on
module _ (t : List ℕ) (o : ℕ) (b : LineBreak) (told : Some b ≡ next_break_lem (breaks t) o) where
  pub next_lies : Lies 0 (breaks t) (length t) (line_of (breaks t) o) b
  next_lies = lies 0 (breaks t) (length t) (rising t) (line_of (breaks t) o) b (sym told)

  pub next_moves : o < past b
  next_moves = ⊎_elim
      (λ ends. omega (arith, ends.1))
      (λ before. absurd (omega (arith, next_lies.next_line, (every_list (breaks t) (length t) (rising t)).never_falls (past b) o (omega (arith, before.1)))))
      (leb_tells o b.end)
