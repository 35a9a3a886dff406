-- Where a window starts and ends, by what a walk comes to. Assumes nothing.
use Rattle.std.proofs.Common.{◌≡◌, ℕ, zero, suc, ◌+◌, ◌-◌, ◌<◌, ◌≤◌, min, true, false, ltb, leb, List, [], ◌∷◌, length, drop, Some, unwrap_or, sym, refl, ap, ◌∙◌, ⊎_elim, arith}
use Rattle.std.proofs.lemmas.List.{length-drop}
use Rattle.std.proofs.lemmas.Bool.Decides.{nat_tests, leb_tells}
use Rattle.std.specs.Option.{option_map}
use Rattle.lines.specs.Breaks.{breaks, break_ending, past, line_start_lem, line_of, lowered, column_of}
use Rattle.lines.specs.Laws.{Rising}
use Rattle.lines.specs.LineRule.{width}
use Rattle.lines.specs.Windows.{window_line, window_start, cut_after_lem, starting_from, window_end_lem}
use Rattle.lines.specs.declared.records.LineBreak.{LineBreak}
use Rattle.lines.proofs.BreakLaws.{line_none, lies, every_list}
use Rattle.lines.proofs.Finding.{lowered_not}
use Rattle.lines.proofs.WidthRule.{width_rule}
use Rattle.lines.proofs.Finding.{rising}
use Rattle.payloads.proofs.Passing.{lowered_le}
use Rattle.payloads.proofs.Stepping.{ends_pair, from_start}
use Rattle.payloads.proofs.Walking.{line_few}

-- outside a break nothing more is taken
cut_out : (bs : List LineBreak) (e : ℕ) → lowered bs e ≡ e → cut_after_lem bs e ≡ e
cut_out [] e out = refl
cut_out (b ∷ bs) e out = ⊎_elim
    (λ from. ⊎_elim
    (λ to. let x = from.0 in let y = to.0 in let at : lowered (b ∷ bs) e ≡ b.start = simp (x, y) in absurd (omega (arith, at, out, from.1)))
    (λ after.
    let y = after.0 in let lt = after.1 in
    let skip : lowered (b ∷ bs) e ≡ lowered bs e = grind (arith, nat_tests) in
    let rest = cut_out bs e (sym skip ∙ out) in grind (arith, nat_tests))
    (leb_tells e b.end))
    (λ before.
    let x = before.0 in
    let skip : lowered (b ∷ bs) e ≡ lowered bs e = simp x in
    simp x (cut_out bs e (sym skip ∙ out)))
    (leb_tells (suc b.start) e)

-- inside a break the rest of it is
pub cut_in : (i : ℕ) (bs : List LineBreak) (n : ℕ) → Rising i bs n → (k : ℕ) (b : LineBreak) → break_ending bs k ≡ Some b → (e : ℕ) → b.start < e → e ≤ b.end → cut_after_lem bs e ≡ past b
cut_in i [] n r k b is e lo hi = let z : ◌≡◌ {A = ℕ} 0 1 = cc in absurd (omega arith)
cut_in i (a ∷ bs) n r zero b is e lo hi =
    let same : a ≡ b = cc in
    let s = ap (λ (x : LineBreak). x.start) same in
    let t = ap (λ (x : LineBreak). x.end) same in
    let from : ltb a.start e ≡ true = grind (arith, nat_tests) in
    let to : leb e (past a) ≡ true = grind (arith, nat_tests) in
    simp (from, to) (omega arith)
cut_in i (a ∷ bs) n r (suc k) b is e lo hi =
    let on = (lies (past a) bs n r.3 k b is).from in
    let out : leb e (past a) ≡ false = grind (arith, nat_tests) in
    let rest = cut_in (past a) bs n r.3 k b is e lo hi in grind (arith, nat_tests)

pub cut_more : (t : List ℕ) (e w : ℕ) → 0 < e → w ≡ width (drop (e - 1) t) → w ≡ 2 → (e + 1 ≡ cut_after_lem (breaks t) e) × (e + 1 ≤ length t)
cut_more t e w some is pair =
    let fits : e + 1 ≤ length t = omega (arith, is, pair, width_rule.within (drop (e - 1) t), length-drop (e - 1) t) in
    (sym (cut_in 0 (breaks t) (length t) (rising t) (line_of (breaks t) e) (record { start = e - 1; end = e }) (ends_pair t e (omega arith) some (sym is ∙ pair)) e (omega arith) (omega arith)), fits)

pub cut_same : (t : List ℕ) (e : ℕ) → (0 < e → width (drop (e - 1) t) ≡ 2 → ⊥) → e ≡ cut_after_lem (breaks t) e
cut_same t e single = sym (cut_out (breaks t) e (sym (lowered_not t e single)))

-- a cut at or before i takes nothing of the breaks from i on, and all of them start after it
pub cut_none : (i : ℕ) (bs : List LineBreak) (n e : ℕ) → Rising i bs n → e ≤ i → (cut_after_lem bs e ≡ e) × (starting_from bs e ≡ bs)
cut_none i [] n e r le = (refl, refl)
cut_none i (b ∷ bs) n e r le =
    let x = r.0 in let y = r.1 in
    let rest = cut_none (past b) bs n e r.3 (omega arith) in
    let out : ltb b.start e ≡ false = grind (arith, nat_tests) in
    let on : leb e b.start ≡ true = grind (arith, nat_tests) in
    (simp out rest.0, simp on (ap (λ others. b ∷ others) rest.1))

-- a cut takes no less than what it is after
pub cut_ge : (bs : List LineBreak) (e : ℕ) → e ≤ cut_after_lem bs e
cut_ge [] e = omega arith
cut_ge (b ∷ bs) e = let rest = cut_ge bs e in grind (arith, nat_tests)

-- the breaks that start after the span are those from the line of its cut on
pub trailing : (i : ℕ) (bs : List LineBreak) (n e : ℕ) → Rising i bs n → starting_from bs e ≡ drop (line_of bs (cut_after_lem bs e)) bs
trailing i [] n e r = refl
trailing i (b ∷ bs) n e r = ⊎_elim
    (λ from. ⊎_elim
    (λ to.
    -- inside b, or right after it
    let x = from.0 in let lt = from.1 in let y = to.0 in let le = to.1 in let up = r.1 in
    let none = cut_none (past b) bs n e r.3 le in
    let cut : cut_after_lem (b ∷ bs) e ≡ past b = simp (x, y) in
    let out : leb e b.start ≡ false = grind (arith, nat_tests) in
    let zero-on = line_none (past b) bs n (past b) r.3 (omega arith) in
    let one : line_of (b ∷ bs) (past b) ≡ 1 = grind (arith, nat_tests) in
    let left : starting_from (b ∷ bs) e ≡ bs = simp out none.1 in
    left ∙ sym (ap (λ k. drop k (b ∷ bs)) (ap (line_of (b ∷ bs)) cut ∙ one)))
    (λ after.
    let x = from.0 in let lt = from.1 in let y = after.0 in let gt = after.1 in
    let rest = trailing (past b) bs n e r.3 in
    let cut : cut_after_lem (b ∷ bs) e ≡ cut_after_lem bs e = grind (arith, nat_tests) in
    let out : leb e b.start ≡ false = grind (arith, nat_tests) in
    let far = cut_ge bs e in
    let counted : ltb b.end (cut_after_lem bs e) ≡ true = grind (arith, nat_tests) in
    let more : line_of (b ∷ bs) (cut_after_lem bs e) ≡ suc (line_of bs (cut_after_lem bs e)) = simp counted (omega arith) in
    let left : starting_from (b ∷ bs) e ≡ starting_from bs e = simp out in
    left ∙ rest ∙ sym (ap (λ k. drop k (b ∷ bs)) (ap (line_of (b ∷ bs)) cut ∙ more)))
    (leb_tells e (past b)))
    (λ before.
    let x = before.0 in let le = before.1 in let up = r.1 in
    let none = cut_none b.start (b ∷ bs) n e (omega arith, r.1, r.2, r.3) (omega arith) in
    let zero-on = line_none b.start (b ∷ bs) n e (omega arith, r.1, r.2, r.3) (omega arith) in
    none.1 ∙ sym (ap (λ k. drop k (b ∷ bs)) (ap (line_of (b ∷ bs)) none.0 ∙ zero-on)))
    (leb_tells (suc b.start) e)

later : (bs : List LineBreak) (k j : ℕ) → break_ending (drop k bs) j ≡ break_ending bs (k + j)
later bs zero j = let same : 0 + j ≡ j = omega arith in sym (ap (break_ending bs) same)
later [] (suc k) j = refl
later (b ∷ bs) (suc k) j = let same : suc k + j ≡ suc (k + j) = omega arith in later bs k j ∙ sym (ap (break_ending (b ∷ bs)) same)

-- with lines after, a window ends where the line after these starts
pub end_trailing : (t : List ℕ) (e a : ℕ) → e ≤ length t → 0 < a → unwrap_or (line_start_lem (breaks t) (line_of (breaks t) (cut_after_lem (breaks t) e) + a + 1)) (length t) ≡ window_end_lem (length t) (breaks t) e a
end_trailing t e zero within some = absurd (omega arith)
end_trailing t e (suc a) within some =
    let inside-text : leb e (length t) ≡ true = grind (arith, nat_tests) in
    let k = line_of (breaks t) (cut_after_lem (breaks t) e) in
    let next : k + suc a + 1 ≡ suc (k + suc a) = omega arith in
    let same : break_ending (starting_from (breaks t) e) (suc a) ≡ break_ending (breaks t) (k + suc a) = ap (λ bs. break_ending bs (suc a)) (trailing 0 (breaks t) (length t) e (rising t)) ∙ later (breaks t) k (suc a) in
    ap (λ k. unwrap_or (line_start_lem (breaks t) k) (length t)) next ∙ sym (simp inside-text (ap (λ b. unwrap_or (option_map past b) (length t)) same))

-- past the end every break is counted
all_past : (i : ℕ) (bs : List LineBreak) (n o : ℕ) → Rising i bs n → n ≤ o → line_of bs o ≡ length bs
all_past i [] n o r le = refl
all_past i (b ∷ bs) n o r le =
    let within = (lies i (b ∷ bs) n r 0 b refl).within in
    let rest = all_past (past b) bs n o r.3 le in grind (arith, nat_tests)

pub line_min : (t : List ℕ) (o : ℕ) → line_of (breaks t) (min o (length t)) ≡ line_of (breaks t) o
line_min t o = ⊎_elim
    (λ within. let same : min o (length t) ≡ o = omega (arith, within.1) in ap (line_of (breaks t)) same)
    (λ out. all_past 0 (breaks t) (length t) (min o (length t)) (rising t) (omega (arith, out.1)) ∙ sym (all_past 0 (breaks t) (length t) o (rising t) (omega (arith, out.1))))
    (leb_tells o (length t))

-- a line up to that of an offset is there
pub line_there : (bs : List LineBreak) (k : ℕ) → k ≤ length bs → (s : ℕ) × (line_start_lem bs k ≡ Some s)
line_there bs zero le = (0, refl)
line_there [] (suc k) le = absurd (omega arith)
line_there (b ∷ bs) (suc zero) le = (past b, refl)
line_there (b ∷ bs) (suc (suc k)) le = line_there bs (suc k) (omega arith)

-- the opening of a window with lines before
module _ (t : List ℕ) (o b line r : ℕ) (some : b ≡ 0 → ⊥) (line_is : line ≡ window_line (breaks t) o b) (is : r ≡ unwrap_or (line_start_lem (breaks t) line) (length t)) where
  start_at : (s : ℕ) × (line_start_lem (breaks t) line ≡ Some s)
  start_at = line_there (breaks t) line (omega (arith, line_is, line_few (breaks t) o))

  r_is : r ≡ start_at.0
  r_is = is ∙ ap (λ s. unwrap_or s (length t)) start_at.1

  opens : (b : ℕ) → (b ≡ 0 → ⊥) → line ≡ window_line (breaks t) o b → r ≡ window_start (breaks t) o b
  opens zero none same = absurd (none refl)
  opens (suc b) more same = r_is ∙ sym (ap (λ s. unwrap_or s 0) (sym (ap (line_start_lem (breaks t)) same) ∙ start_at.1))

  pub open_start : r ≡ window_start (breaks t) o b
  open_start = opens b some line_is

  on_line : line_of (breaks t) start_at.0 ≡ line
  on_line = (every_list (breaks t) (length t) (rising t)).at_start line start_at.0 start_at.1

  pub open_line : line_of (breaks t) r ≡ line
  open_line = ap (line_of (breaks t)) r_is ∙ on_line

  pub open_column : 0 ≡ column_of (breaks t) (window_start (breaks t) o b)
  open_column =
      let begin : unwrap_or (line_start_lem (breaks t) (line_of (breaks t) start_at.0)) 0 ≡ start_at.0 = ap (λ k. unwrap_or (line_start_lem (breaks t) k) 0) on_line ∙ ap (λ s. unwrap_or s 0) start_at.1 in
      let zero-column : 0 ≡ column_of (breaks t) start_at.0 = omega (arith, begin, lowered_le t start_at.0) in
      zero-column ∙ ap (column_of (breaks t)) (sym r_is ∙ open_start)

  pub open_upto : r ≤ min o (length t)
  open_upto =
      let le = from_start t (min o (length t)) line (omega (arith, line_is, line_min t o)) in
      omega (arith, le, r_is, ap (λ s. unwrap_or s 0) start_at.1)
