-- A part of a text that ends outside every break has the places of the text. Assumes nothing.
use Rattle.std.proofs.Common.{◌≡◌, ℕ, zero, suc, ◌+◌, ◌-◌, ◌<◌, ◌≤◌, true, cond, leb, List, [], ◌∷◌, ◌++◌, length, take, drop, Some, None, unwrap_or, sym, refl, ap, ◌∙◌, subst, ⊎_elim, arith}
use Rattle.std.proofs.lemmas.List.{drop-drop, drop-take, length-drop, length-take-le}
use Rattle.std.proofs.lemmas.Bool.{cases_eq}
use Rattle.std.proofs.lemmas.Bool.Decides.{nat_tests, leb_tells}
use Rattle.lines.specs.Breaks.{breaks, breaks_by, past, line_start_lem, line_of, lowered, column_of, place_of, place}
use Rattle.lines.specs.LineRule.{width}
use Rattle.lines.specs.Payloads.{column_after, place_after_lem, look_up}
use Rattle.lines.specs.declared.records.LineBreak.{LineBreak}
use Rattle.lines.specs.declared.records.Place.{Place}
use Rattle.lines.specs.declared.records.Window.{Window}
use Rattle.lines.proofs.BreakLaws.{every_text, every_list}
use Rattle.lines.proofs.Finding.{lowered_in, two}
use Rattle.lines.proofs.WidthRule.{width_rule}
use Rattle.lines.proofs.Finding.{rising}
use Rattle.payloads.proofs.Stepping.{plain_line, plain_column, line_at_end, ends_column, pair_line, pair_column}
use Rattle.lines.proofs.Giving.{line_first}
use Rattle.payloads.proofs.Walking.{column_first, widest}

-- the first number on line 0, the second on any other
abbrev by_line : ℕ → ℕ → ℕ → ℕ
by_line zero first other = first
by_line (suc k) first other = other

-- the column after some breaks is counted from the last of them
column_after_lem : (r x : ℕ) (bs rest : List LineBreak) → column_after r x bs ≡ by_line (length bs) x (r - unwrap_or (line_start_lem (bs ++ rest) (length bs)) 0)
column_after_lem r x [] rest = refl
column_after_lem r x (b ∷ []) rest = refl
column_after_lem r x (b ∷ c ∷ bs) rest = column_after_lem r (r - past b) (c ∷ bs) rest

-- the place of an offset in data that begins on this line, in this column
module _ (d : List ℕ) (line column o : ℕ) where
  r : ℕ
  r = lowered (breaks d) o

  out : lowered (breaks d) (lowered (breaks d) o) ≡ lowered (breaks d) o
  out = (every_list (breaks d) (length d) (rising d)).lowered_out o

  count : length (breaks (take (lowered (breaks d) o) d)) ≡ line_of (breaks d) o
  count = sym ((every_text width width_rule d).before (lowered (breaks d) o) out) ∙ (every_list (breaks d) (length d) (rising d)).lowered_line o

  pub part_place : place_after_lem d line column (lowered (breaks d) o) ≡ record { line = line + line_of (breaks d) o; column = by_line (line_of (breaks d) o) (column + column_of (breaks d) o) (column_of (breaks d) o) }
  part_place =
      let low = lowered (breaks d) o in
      let front = breaks (take low d) in
      let rest = breaks_by width 0 low (drop low d) in
      let split : front ++ rest ≡ breaks d = (every_text width width_rule d).split low out in
      let col : column_after low (column + low) front ≡ by_line (line_of (breaks d) o) (column + low) (column_of (breaks d) o) =
      column_after_lem low (column + low) front rest
      ∙ ap (λ bs. by_line (length front) (column + low) (low - unwrap_or (line_start_lem bs (length front)) 0)) split
      ∙ ap (λ k. by_line k (column + low) (low - unwrap_or (line_start_lem (breaks d) k) 0)) count in
      let same : by_line (line_of (breaks d) o) (column + low) (column_of (breaks d) o) ≡ by_line (line_of (breaks d) o) (column + column_of (breaks d) o) (column_of (breaks d) o) = first_line (line_of (breaks d) o) refl in
      ap (λ n. record { line = line + n; column = column_after low (column + low) front }) count
      ∙ ap (λ n. record { line = line + line_of (breaks d) o; column = n }) (col ∙ same)
    where
      -- on line 0 the column is the lowered offset
      first_line : (k : ℕ) → line_of (breaks d) o ≡ k → by_line k (column + lowered (breaks d) o) (column_of (breaks d) o) ≡ by_line k (column + column_of (breaks d) o) (column_of (breaks d) o)
      first_line zero is = let begin = ap (λ k. unwrap_or (line_start_lem (breaks d) k) 0) is in omega (arith, begin)
      first_line (suc k) is = refl

-- a part of a text, from s, that ends outside every break
module _ (t : List ℕ) (s m : ℕ) (fits : s + m ≤ length t) (whole : lowered (breaks t) (s + m) ≡ s + m) where
  part_length : length (take m (drop s t)) ≡ m
  part_length = length-take-le m (drop s t) (omega (arith, length-drop s t))

  rest_of : (i : ℕ) → i ≤ m → drop i (take m (drop s t)) ≡ take (m - i) (drop (s + i) t)
  rest_of i le =
      let e : m ≡ i + (m - i) = omega arith in
      ap (λ m. drop i (take m (drop s t))) e ∙ drop-take i (m - i) (drop s t) ∙ ap (take (m - i)) (drop-drop i s t)

  -- the same breaks begin in the part and in the text
  same_width : (i : ℕ) → i < m → width (drop i (take m (drop s t))) ≡ width (drop (s + i) t)
  same_width i lt = ap width (rest_of i (omega arith)) ∙ width_rule.cut (drop (s + i) t) (m - i) (⊎_elim
      (λ short. short.1)
      (λ cut.
      let one : m ≡ i + 1 = (let two-le = widest_le in omega (arith, cut.1)) in
      let pair : width (drop (s + i) t) ≡ 2 = omega (arith, cut.1, widest_le) in
      let end : s + m ≡ s + i + 1 = omega arith in
      let back : s + i + 1 - 1 ≡ s + i = omega arith in
      let low : s + i + 1 - 1 ≡ lowered (breaks t) (s + i + 1) = lowered_in t (s + i + 1) (width (drop (s + i) t)) (omega arith) (ap (λ j. width (drop j t)) (sym back)) pair in
      absurd (omega (arith, low, ap (lowered (breaks t)) end, whole)))
      (leb_tells (width (drop (s + i) t)) (m - i)))
    where
      widest_le : width (drop (s + i) t) ≤ 2
      widest_le = two (drop (s + i) t)

  abbrev d : List ℕ
  d = take m (drop s t)

  -- from offset to offset the part and the text step alike
  pub record Alike (i : ℕ) : Type 0 where
    pub lines : line_of (breaks t) (s + i) ≡ line_of (breaks t) s + line_of (breaks d) i
    pub columns : column_of (breaks t) (s + i) ≡ by_line (line_of (breaks d) i) (column_of (breaks t) s + column_of (breaks d) i) (column_of (breaks d) i)

  module _ (i : ℕ) (lt : i < m) (h : Alike i) where
    at : s + (i + 1) ≡ s + i + 1
    at = omega arith

    in_text : s + i < length t
    in_text = omega arith

    in_part : i < length (take m (drop s t))
    in_part = omega (arith, part_length)

    -- the part's side, from its line and column after the step
    to : (k c : ℕ) → line_of (breaks d) (i + 1) ≡ k → column_of (breaks d) (i + 1) ≡ c → by_line (line_of (breaks d) (i + 1)) (column_of (breaks t) s + column_of (breaks d) (i + 1)) (column_of (breaks d) (i + 1)) ≡ by_line k (column_of (breaks t) s + c) c
    to k c line column =
        ap (λ c. by_line (line_of (breaks d) (i + 1)) (column_of (breaks t) s + c) c) column
        ∙ ap (λ k. by_line k (column_of (breaks t) s + c) c) line

    one_more : (k a c : ℕ) → by_line k (a + c) c + 1 ≡ by_line k (a + (c + 1)) (c + 1)
    one_more zero a c = omega arith
    one_more (suc k) a c = refl

    step_plain : width (drop i d) ≡ 0 → Alike (i + 1)
    step_plain v =
        let vt = sym (same_width i lt) ∙ v in
        let tl = ap (line_of (breaks t)) at ∙ plain_line t (s + i) in_text vt in
        let pl = plain_line d i in_part v in
        record {
          lines = omega (arith, tl, pl, h.lines);
          columns =
              ap (column_of (breaks t)) at ∙ plain_column t (s + i) in_text vt
              ∙ ap (λ c. c + 1) h.columns
              ∙ one_more (line_of (breaks d) i) (column_of (breaks t) s) (column_of (breaks d) i)
              ∙ sym (to (line_of (breaks d) i) (column_of (breaks d) i + 1) pl (plain_column d i in_part v));
        }

    step_ends : width (drop i d) ≡ 1 → Alike (i + 1)
    step_ends v =
        let vt = sym (same_width i lt) ∙ v in
        let tl = ap (line_of (breaks t)) at ∙ line_at_end t (s + i) in_text vt in
        let pl = line_at_end d i in_part v in
        let up : line_of (breaks d) (i + 1) ≡ suc (line_of (breaks d) i) = omega (arith, pl) in
        record {
          lines = omega (arith, tl, pl, h.lines);
          columns = ap (column_of (breaks t)) at ∙ ends_column t (s + i) in_text vt ∙ sym (to (suc (line_of (breaks d) i)) 0 up (ends_column d i in_part v));
        }

    step_pair : width (drop i d) ≡ 2 → Alike (i + 1)
    step_pair v =
        let vt = sym (same_width i lt) ∙ v in
        let tl = ap (line_of (breaks t)) at ∙ pair_line t (s + i) in_text vt in
        let pl = pair_line d i in_part v in
        record {
          lines = omega (arith, tl, pl, h.lines);
          columns = ap (column_of (breaks t)) at ∙ pair_column t (s + i) in_text vt ∙ h.columns ∙ sym (to (line_of (breaks d) i) (column_of (breaks d) i) pl (pair_column d i in_part v));
        }

    step : Alike (i + 1)
    step = ⊎_elim
        (λ (v : width (drop i d) ≡ 0). step_plain v)
        (λ (some : width (drop i d) ≡ 0 → ⊥). ⊎_elim
        (λ (v : width (drop i d) ≡ 1). step_ends v)
        (λ (more : width (drop i d) ≡ 1 → ⊥). step_pair (widest (drop i d) (width (drop i d)) refl some more))
        (cases_eq (width (drop i d)) 1))
        (cases_eq (width (drop i d)) 0)

  pub alike : (i : ℕ) → i ≤ m → Alike i
  alike zero le =
      let at : s + 0 ≡ s = omega arith in
      let first = line_first d in
      let begin = column_first d in
      record {
        lines = omega (arith, ap (line_of (breaks t)) at, first);
        columns = ap (column_of (breaks t)) at ∙ sym (ap (λ k. by_line k (column_of (breaks t) s + column_of (breaks d) 0) (column_of (breaks d) 0)) first ∙ omega (arith, begin));
      }
  alike (suc i) le = let next : i + 1 ≡ suc i = omega arith in subst Alike next (step i le (alike i (omega arith)))

-- so the look-up in a window's payload is the place by the text
module _ (t : List ℕ) (w : Window) (fits : w.start + w.length ≤ length t) (whole : lowered (breaks t) (w.start + w.length) ≡ w.start + w.length)
    (line : w.line ≡ line_of (breaks t) w.start) (column : w.column ≡ column_of (breaks t) w.start) where
  pub looks_up_lem : (x : ℕ) → w.start ≤ x → x ≤ w.start + w.length → look_up (record { numbers = w; bytes = take w.length (drop w.start t) }) x ≡ place t x
  looks_up_lem x from to =
      let bytes : List ℕ = take w.length (drop w.start t) in
      let i : ℕ = x - w.start in
      let back : w.start + i ≡ x = omega arith in
      let same = alike t w.start w.length fits whole i (omega arith) in
      let at : Place = place_after_lem bytes w.line w.column (lowered (breaks bytes) i) in
      let in_part : leb x (w.start + w.length) ≡ true = grind (arith, nat_tests) in
      let in_text : leb x (length t) ≡ true = grind (arith, nat_tests) in
      let lines : w.line + line_of (breaks bytes) i ≡ line_of (breaks t) x = omega (arith, line, same.lines, ap (line_of (breaks t)) back) in
      let columns : by_line (line_of (breaks bytes) i) (w.column + column_of (breaks bytes) i) (column_of (breaks bytes) i) ≡ column_of (breaks t) x =
      ap (λ c. by_line (line_of (breaks bytes) i) (c + column_of (breaks bytes) i) (column_of (breaks bytes) i)) column ∙ sym same.columns ∙ ap (column_of (breaks t)) back in
      let is : at ≡ place_of (breaks t) x =
      part_place bytes w.line w.column i
      ∙ ap (λ n. record { line = n; column = by_line (line_of (breaks bytes) i) (w.column + column_of (breaks bytes) i) (column_of (breaks bytes) i) }) lines
      ∙ ap (λ n. record { line = line_of (breaks t) x; column = n }) columns in
      ap (λ yes. cond yes (Some at) None) in_part ∙ ap Some is ∙ sym (ap (λ yes. cond yes (Some (place_of (breaks t) x)) None) in_text)
