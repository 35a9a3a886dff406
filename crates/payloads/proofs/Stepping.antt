-- How lines and columns change from one offset to the next, by the width of the break that begins there. Assumes nothing.
use Rattle.std.proofs.Common.{◌≡◌, ℕ, zero, suc, pred, ◌+◌, ◌-◌, ◌<◌, ◌≤◌, true, List, [], ◌∷◌, length, get_or, take, drop, Some, None, Option, unwrap_or, sym, refl, ap, ◌∙◌, ⊎_elim, arith}
use Rattle.std.proofs.lemmas.List.{drop_more, length-append}
use Rattle.std.proofs.lemmas.Bool.{cases_eq}
use Rattle.std.proofs.lemmas.Bool.Decides.{nat_tests, leb_tells}
use Rattle.std.specs.Option.{option_map}
use Rattle.lines.specs.Breaks.{opened, breaks_by, breaks, break_ending, past, line_start_lem, line_of, lowered, column_of}
use Rattle.lines.specs.LineRule.{ends_line_lem, width}
use Rattle.lines.specs.declared.records.LineBreak.{LineBreak}
use Rattle.lines.proofs.BreakLaws.{lies, every_text, every_list}
use Rattle.lines.proofs.Finding.{lowered_in, lowered_not, finds_some}
use Rattle.lines.proofs.Seeking.{stops}
use Rattle.lines.proofs.WidthRule.{width_rule}
use Rattle.lines.proofs.Finding.{rising}

-- the second byte of a pair is a break by itself
second : (c : ℕ) (t : List ℕ) → width (c ∷ t) ≡ 2 → width t ≡ 1
second c [] e = grind (arith, nat_tests)
second c (d ∷ []) e = grind (arith, nat_tests)
second c (d ∷ f ∷ t) e = grind (arith, nat_tests)

begins : (c : ℕ) (t : List ℕ) → (width (c ∷ t) ≡ 0 → ⊥) → ends_line_lem c ≡ true
begins c [] e = grind (arith, nat_tests)
begins c (d ∷ t) e = grind (arith, nat_tests)

-- the start of an offset's line is not past it
module _ (t : List ℕ) (o : ℕ) where
  pub from_start : (k : ℕ) → k ≤ line_of (breaks t) o → unwrap_or (line_start_lem (breaks t) k) 0 ≤ o
  from_start zero le = omega arith
  from_start (suc k) le = go (break_ending (breaks t) k) refl
    where
      go : (found : Option LineBreak) → break_ending (breaks t) k ≡ found → unwrap_or (option_map past found) 0 ≤ o
      go None is = omega arith
      go (Some b) is = ⊎_elim
          (λ ends. omega (arith, ends.1))
          (λ before.
          let on = (lies 0 (breaks t) (length t) (rising t) k b is).on_line in
          let falls = (every_list (breaks t) (length t) (rising t)).never_falls o b.end (omega (arith, before.1)) in
          absurd (omega arith))
          (leb_tells (suc b.end) o)

  pub start_le : unwrap_or (line_start_lem (breaks t) (line_of (breaks t) o)) 0 ≤ o
  start_le = from_start (line_of (breaks t) o) (omega arith)

-- the break that ends at i, found from where it begins
module _ (t : List ℕ) (i : ℕ) (within : i < length t) where
  ends_at : (p : ℕ) → p ≡ lowered (breaks t) i → p ≤ i → (width (drop p t) ≡ 0 → ⊥) → p + width (drop p t) - 1 ≡ i → break_ending (breaks t) (line_of (breaks t) i) ≡ Some (record { start = p; end = i })
  ends_at p low le some ends =
      let here : ends_line_lem (get_or t p 0) ≡ true = begins (get_or t p 0) (drop (p + 1) t) (λ none. some (ap width (drop_more t p 0 (omega arith)) ∙ none)) in
      sym (finds_some t i p p low (sym (stops t p (omega arith) here)) (width (drop p t)) refl some) ∙ ap (λ e. Some (record { start = p; end = e })) ends

  pub ends_pair : 0 < i → width (drop (i - 1) t) ≡ 2 → break_ending (breaks t) (line_of (breaks t) i) ≡ Some (record { start = i - 1; end = i })
  ends_pair some pair = ends_at (i - 1) (lowered_in t i (width (drop (i - 1) t)) some refl pair) (omega arith) (λ none. omega (arith, none, pair)) (omega (arith, pair))

module _ (t : List ℕ) (i : ℕ) (within : i < length t) where
  head : drop i t ≡ get_or t i 0 ∷ drop (i + 1) t
  head = drop_more t i 0 within

  back : i + 1 - 1 ≡ i
  back = omega arith

  -- the CR of a pair: nothing changes
  module _ (pair : width (drop i t) ≡ 2) where
    down : lowered (breaks t) (i + 1) ≡ i
    down = sym (sym back ∙ lowered_in t (i + 1) (width (drop i t)) (omega arith) (ap (λ j. width (drop j t)) (sym back)) pair)

    out_pair : lowered (breaks t) i ≡ i
    out_pair = ap (lowered (breaks t)) (sym down) ∙ (every_list (breaks t) (length t) (rising t)).lowered_out (i + 1) ∙ down

    pub pair_line : line_of (breaks t) (i + 1) ≡ line_of (breaks t) i
    pair_line = sym (ap (line_of (breaks t)) (sym down) ∙ (every_list (breaks t) (length t) (rising t)).lowered_line (i + 1))

    pub pair_column : column_of (breaks t) (i + 1) ≡ column_of (breaks t) i
    pair_column =
        ap (λ x. x - unwrap_or (line_start_lem (breaks t) (line_of (breaks t) (i + 1))) 0) (down ∙ sym out_pair)
        ∙ ap (λ k. lowered (breaks t) i - unwrap_or (line_start_lem (breaks t) k) 0) pair_line

  out_next : (width (drop i t) ≡ 2 → ⊥) → lowered (breaks t) (i + 1) ≡ i + 1
  out_next single = sym (lowered_not t (i + 1) (λ some wide. single (ap (λ j. width (drop j t)) (sym back) ∙ wide)))

  -- the byte before a place inside a pair
  before_is : 0 < i → drop (i - 1) t ≡ get_or t (i - 1) 0 ∷ drop i t
  before_is some = let on : i - 1 + 1 ≡ i = omega arith in drop_more t (i - 1) 0 (omega arith) ∙ ap (λ j. get_or t (i - 1) 0 ∷ drop j t) on

  pub after_pair : 0 < i → width (drop (i - 1) t) ≡ 2 → width (drop i t) ≡ 1
  after_pair some pair = second (get_or t (i - 1) 0) (drop i t) (sym (ap width (before_is some)) ∙ pair)

  -- a plain byte: one column on
  module _ (plain : width (drop i t) ≡ 0) where
    out_plain : lowered (breaks t) i ≡ i
    out_plain = sym (lowered_not t i (λ some pair. absurd (omega (arith, plain, after_pair some pair))))

    next_plain : lowered (breaks t) (i + 1) ≡ i + 1
    next_plain = out_next (λ pair. omega (arith, plain, pair))

    rest : breaks_by width 0 i (drop i t) ≡ breaks_by width 0 (i + 1) (drop (i + 1) t)
    rest =
        ap (breaks_by width 0 i) head
        ∙ ap (λ v. opened i v (breaks_by width (pred v) (i + 1) (drop (i + 1) t))) (sym (ap width head) ∙ plain)

    pub plain_line : line_of (breaks t) (i + 1) ≡ line_of (breaks t) i
    plain_line =
        let law = every_text width width_rule t in
        omega (
          arith,
          law.before i out_plain,
          law.before (i + 1) next_plain,
          sym (length-append (breaks (take i t)) (breaks_by width 0 i (drop i t))) ∙ ap length (law.split i out_plain),
          sym (length-append (breaks (take (i + 1) t)) (breaks_by width 0 (i + 1) (drop (i + 1) t))) ∙ ap length (law.split (i + 1) next_plain),
          ap length rest,
        )

    pub plain_column : column_of (breaks t) (i + 1) ≡ column_of (breaks t) i + 1
    plain_column =
        let start = ap (λ k. unwrap_or (line_start_lem (breaks t) k) 0) plain_line in
        omega (arith, next_plain, out_plain, start, start_le t i)

  -- the last byte of a break: a new line
  module _ (last : width (drop i t) ≡ 1) where
    found : (p : ℕ) × (break_ending (breaks t) (line_of (breaks t) i) ≡ Some (record { start = p; end = i }))
    found = ⊎_elim
        (λ (pair : width (drop (i - 1) t) ≡ 2). ⊎_elim
        (λ some. (i - 1, ends_pair t i within some.1 pair))
        (λ first. (i, alone (λ some wide. omega (arith, some, first.1))))
        (leb_tells 1 i))
        (λ (single : width (drop (i - 1) t) ≡ 2 → ⊥). (i, alone (λ some wide. single wide)))
        (cases_eq (width (drop (i - 1) t)) 2)
      where
        alone : (0 < i → width (drop (i - 1) t) ≡ 2 → ⊥) → break_ending (breaks t) (line_of (breaks t) i) ≡ Some (record { start = i; end = i })
        alone none = ends_at t i within i (lowered_not t i none) (omega arith) (λ z. omega (arith, z, last)) (omega (arith, last))

    pub line_at_end : line_of (breaks t) (i + 1) ≡ line_of (breaks t) i + 1
    line_at_end = omega (arith, (lies 0 (breaks t) (length t) (rising t) (line_of (breaks t) i) (record { start = found.0; end = i }) found.1).next_line)

    pub ends_start : line_start_lem (breaks t) (line_of (breaks t) i + 1) ≡ Some (i + 1)
    ends_start =
        let next : line_of (breaks t) i + 1 ≡ suc (line_of (breaks t) i) = omega arith in
        ap (line_start_lem (breaks t)) next ∙ ap (option_map past) found.1

    pub ends_column : column_of (breaks t) (i + 1) ≡ 0
    ends_column =
        let out = out_next (λ pair. omega (arith, last, pair)) in
        let start = ap (λ s. unwrap_or s 0) (ap (line_start_lem (breaks t)) line_at_end ∙ ends_start) in
        omega (arith, out, start)
