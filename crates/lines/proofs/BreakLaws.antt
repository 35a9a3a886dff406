-- The laws of breaks and lines, by any line rule, from which all else is proved. Assumes nothing.
use Rattle.std.proofs.Common.{◌≡◌, ℕ, zero, suc, pred, ◌+◌, ◌<◌, ◌≤◌, true, false, ltb, leb, List, [], ◌∷◌, ◌++◌, length, take, drop, Some, None, Option, sym, refl, ap, ◌∙◌, subst, ⊎_elim, arith}
use Rattle.std.proofs.lemmas.Bool.Decides.{nat_tests, leb_tells}
use Rattle.std.specs.Option.{option_map}
use Rattle.lines.specs.Breaks.{opened, breaks_by, break_ending, past, line_start_lem, line_of, lowered}
use Rattle.lines.specs.Laws.{LineRule, Rising, EveryText, EveryList}
use Rattle.lines.specs.declared.records.LineBreak.{LineBreak}

pub rising_from : (i j : ℕ) (bs : List LineBreak) (n : ℕ) → i ≤ j → Rising j bs n → Rising i bs n
rising_from i j [] n le r = omega arith
rising_from i j (b ∷ bs) n le r = (omega (arith, r.0), r.1, r.2, r.3)

-- no break from i on ends before an offset up to i
pub line_none : (i : ℕ) (bs : List LineBreak) (n o : ℕ) → Rising i bs n → o ≤ i → line_of bs o ≡ 0
line_none i [] n o r le = refl
line_none i (b ∷ bs) n o r le =
    let x = r.0 in let y = r.1 in
    let rest = line_none (past b) bs n o r.3 (omega arith) in grind (arith, nat_tests)

-- an offset up to i lies inside no break from i on
pub lowered_none : (i : ℕ) (bs : List LineBreak) (n o : ℕ) → Rising i bs n → o ≤ i → lowered bs o ≡ o
lowered_none i [] n o r le = refl
lowered_none i (b ∷ bs) n o r le =
    let x = r.0 in let y = r.1 in
    let rest = lowered_none (past b) bs n o r.3 (omega arith) in
    let out : ltb b.start o ≡ false = grind (arith, nat_tests) in simp (out, rest)

module _ {rule : List ℕ → ℕ} (lawful : LineRule rule) where
  opened_rising : (i v n : ℕ) (others : List LineBreak) → v ≤ 3 → Rising (i + 1 + pred v) others n → Rising i (opened i v others) n
  opened_rising i zero n others few r = rising_from i (i + 1 + 0) others n (omega arith) r
  opened_rising i (suc v) n others few r = (omega arith, omega arith, omega arith, rising_from (i + v + 1) (i + 1 + v) others n (omega arith) r)

  pub rising_by : (k i : ℕ) (t : List ℕ) (n : ℕ) → i + length t ≡ n → k ≤ length t → Rising (i + k) (breaks_by rule k i t) n
  rising_by k i [] n e le = omega arith
  rising_by zero i (c ∷ t) n e le =
      let v = rule (c ∷ t) in
      let fits = lawful.within (c ∷ t) in
      rising_from (i + 0) i (opened i v (breaks_by rule (pred v) (i + 1) t)) n (omega arith)
      (opened_rising i v n (breaks_by rule (pred v) (i + 1) t) (lawful.narrow (c ∷ t)) (rising_by (pred v) (i + 1) t n (omega arith) (omega arith)))
  rising_by (suc k) i (c ∷ t) n e le = rising_from (i + suc k) (i + 1 + k) (breaks_by rule k (i + 1) t) n (omega arith) (rising_by k (i + 1) t n (omega arith) (omega arith))

  -- the two sides of a cut at j, of a text that begins at i inside a break
  pub record Split (k i : ℕ) (t : List ℕ) (j : ℕ) : Type 0 where
    pub halves : breaks_by rule k i (take j t) ++ breaks_by rule 0 (i + j) (drop j t) ≡ breaks_by rule k i t
    pub count : line_of (breaks_by rule k i t) (i + j) ≡ length (breaks_by rule k i (take j t))

  abbrev Outside : ℕ → ℕ → List ℕ → ℕ → Type 0
  Outside k i t j = lowered (breaks_by rule k i t) (i + j) ≡ i + j

  -- the same one byte on
  onward : (k i : ℕ) (t : List ℕ) (j : ℕ) → (Outside k (i + 1) t j → Split k (i + 1) t j) → lowered (breaks_by rule k (i + 1) t) (i + suc j) ≡ i + suc j
      → (breaks_by rule k (i + 1) (take j t) ++ breaks_by rule 0 (i + suc j) (drop j t) ≡ breaks_by rule k (i + 1) t) × (line_of (breaks_by rule k (i + 1) t) (i + suc j) ≡ length (breaks_by rule k (i + 1) (take j t)))
  onward k i t j rest out =
      let same : i + 1 + j ≡ i + suc j = omega arith in
      let s = rest (subst (λ (o : ℕ). lowered (breaks_by rule k (i + 1) t) o ≡ o) (sym same) out) in (
        subst (λ (o : ℕ). breaks_by rule k (i + 1) (take j t) ++ breaks_by rule 0 o (drop j t) ≡ breaks_by rule k (i + 1) t) same s.halves,
        subst (λ (o : ℕ). line_of (breaks_by rule k (i + 1) t) o ≡ length (breaks_by rule k (i + 1) (take j t))) same s.count,
      )

  -- a break of width v begins here
  first : (i c : ℕ) (t : List ℕ) (j : ℕ) → ((k : ℕ) → k ≤ length t → k ≤ j → Outside k (i + 1) t j → Split k (i + 1) t j) → (v : ℕ) → rule (c ∷ t) ≡ v
      → lowered (opened i v (breaks_by rule (pred v) (i + 1) t)) (i + suc j) ≡ i + suc j
      → (opened i (rule (c ∷ take j t)) (breaks_by rule (pred (rule (c ∷ take j t))) (i + 1) (take j t)) ++ breaks_by rule 0 (i + suc j) (drop j t) ≡ opened i v (breaks_by rule (pred v) (i + 1) t))
      × (line_of (opened i v (breaks_by rule (pred v) (i + 1) t)) (i + suc j) ≡ length (opened i (rule (c ∷ take j t)) (breaks_by rule (pred (rule (c ∷ take j t))) (i + 1) (take j t))))
  first i c t j rest zero e out =
      let kept : rule (c ∷ take j t) ≡ 0 = lawful.cut (c ∷ t) (suc j) (omega (arith, e)) ∙ e in
      subst (λ (v : ℕ). (opened i v (breaks_by rule (pred v) (i + 1) (take j t)) ++ breaks_by rule 0 (i + suc j) (drop j t) ≡ breaks_by rule 0 (i + 1) t) × (line_of (breaks_by rule 0 (i + 1) t) (i + suc j) ≡ length (opened i v (breaks_by rule (pred v) (i + 1) (take j t)))))
      (sym kept)
      (onward 0 i t j (rest 0 (omega arith) (omega arith)) out)
  first i c t j rest (suc m) e out = ⊎_elim
      (λ passed.
      let fits = lawful.within (c ∷ t) in
      let kept : rule (c ∷ take j t) ≡ suc m = lawful.cut (c ∷ t) (suc j) (omega (arith, e, passed.1)) ∙ e in
      let le = passed.1 in
      let free : leb (i + suc j) (i + m) ≡ false = grind (arith, nat_tests) in
      let ends : ltb (i + m) (i + suc j) ≡ true = grind (arith, nat_tests) in
      let out2 : lowered (breaks_by rule m (i + 1) t) (i + suc j) ≡ i + suc j = grind (arith, nat_tests) in
      let s = onward m i t j (rest m (omega (arith, e)) (omega (arith, passed.1))) out2 in
      let b : LineBreak = record { start = i; end = i + m } in
      subst (λ (v : ℕ). (opened i v (breaks_by rule (pred v) (i + 1) (take j t)) ++ breaks_by rule 0 (i + suc j) (drop j t) ≡ opened i (suc m) (breaks_by rule m (i + 1) t)) × (line_of (opened i (suc m) (breaks_by rule m (i + 1) t)) (i + suc j) ≡ length (opened i v (breaks_by rule (pred v) (i + 1) (take j t)))))
      (sym kept)
      (ap (λ bs. b ∷ bs) s.0, simp ends (omega (arith, s.1))))
      (λ within.
      let lt = within.1 in
      let low : ltb i (i + suc j) ≡ true = grind (arith, nat_tests) in
      let high : leb (i + suc j) (i + m) ≡ true = grind (arith, nat_tests) in
      let at : lowered (opened i (suc m) (breaks_by rule m (i + 1) t)) (i + suc j) ≡ i = simp (low, high) in
      absurd (omega (arith, at, out)))
      (leb_tells m j)

  pub split_by : (k i : ℕ) (t : List ℕ) (j n : ℕ) → i + length t ≡ n → k ≤ length t → k ≤ j → Outside k i t j → Split k i t j
  split_by k i [] zero n e le low out = record { halves = refl; count = refl }
  split_by k i [] (suc j) n e le low out = record { halves = refl; count = refl }
  split_by zero i (c ∷ t) zero n e le low out =
      let same : i + 0 ≡ i = omega arith in
      record {
        halves = ap (λ i. breaks_by rule 0 i (c ∷ t)) same;
        count = line_none (i + 0) (breaks_by rule 0 i (c ∷ t)) n (i + 0) (rising_by 0 i (c ∷ t) n e le) (omega arith);
      }
  split_by (suc k) i (c ∷ t) zero n e le low out = absurd (omega arith)
  split_by (suc k) i (c ∷ t) (suc j) n e le low out =
      let s = onward k i t j (split_by k (i + 1) t j n (omega arith) (omega arith) (omega arith)) out in
      record { halves = s.0; count = s.1 }
  split_by zero i (c ∷ t) (suc j) n e le low out =
      let s = first i c t j (λ k fits few. split_by k (i + 1) t j n (omega arith) fits few) (rule (c ∷ t)) refl out in
      record { halves = s.0; count = s.1 }

pub every_text : EveryText
every_text rule lawful t =
    let cut : (j : ℕ) → lowered (breaks_by rule 0 0 t) j ≡ j → Split lawful 0 0 t j =
    λ j out. (let same : 0 + j ≡ j = omega arith in split_by lawful 0 0 t j (length t) (omega arith) (omega arith) (omega arith) (subst (λ (o : ℕ). lowered (breaks_by rule 0 0 t) o ≡ o) (sym same) out)) in
    record {
      rising = rising_by lawful 0 0 t (length t) (omega arith) (omega arith);
      split = λ j out. (let same : 0 + j ≡ j = omega arith in subst (λ (o : ℕ). breaks_by rule 0 0 (take j t) ++ breaks_by rule 0 o (drop j t) ≡ breaks_by rule 0 0 t) same (cut j out).halves);
      before = λ j out. (let same : 0 + j ≡ j = omega arith in subst (λ (o : ℕ). line_of (breaks_by rule 0 0 t) o ≡ length (breaks_by rule 0 0 (take j t))) same (cut j out).count);
    }

never_falls : (bs : List LineBreak) (o p : ℕ) → o ≤ p → line_of bs o ≤ line_of bs p
never_falls [] o p le = omega arith
never_falls (b ∷ bs) o p le = let rest = never_falls bs o p le in grind (arith, nat_tests)

one_a_step : (i : ℕ) (bs : List LineBreak) (n o : ℕ) → Rising i bs n → line_of bs (o + 1) ≤ line_of bs o + 1
one_a_step i [] n o r = omega arith
one_a_step i (b ∷ bs) n o r = ⊎_elim
    (λ earlier. let lt = earlier.1 in let rest = one_a_step (past b) bs n o r.3 in grind (arith, nat_tests))
    (λ later. let le = later.1 in let rest = line_none (past b) bs n (o + 1) r.3 (omega arith) in grind (arith, nat_tests))
    (leb_tells (suc b.end) o)

-- where break k lies
pub record Lies (i : ℕ) (bs : List LineBreak) (n k : ℕ) (b : LineBreak) : Type 0 where
  pub from : i ≤ b.start
  pub up : b.start ≤ b.end
  pub short : b.end ≤ b.start + 2
  pub within : b.end < n
  -- its last byte is on line k, and what comes after it is not
  pub on_line : line_of bs b.end ≡ k
  pub next_line : line_of bs (past b) ≡ suc k

room : (i : ℕ) (bs : List LineBreak) (n : ℕ) → Rising i bs n → i ≤ n
room i [] n r = r
room i (b ∷ bs) n r = let rest = room (past b) bs n r.3 in let x = r.0 in let y = r.1 in omega arith

pub lies : (i : ℕ) (bs : List LineBreak) (n : ℕ) → Rising i bs n → (k : ℕ) (b : LineBreak) → break_ending bs k ≡ Some b → Lies i bs n k b
lies i [] n r k b is = let z : ◌≡◌ {A = ℕ} 0 1 = cc in absurd (omega arith)
lies i (a ∷ bs) n r zero b is =
    let same : a ≡ b = cc in
    let left = room (past a) bs n r.3 in
    let here = line_none (past a) bs n a.end r.3 (omega arith) in
    let next = line_none (past a) bs n (past a) r.3 (omega arith) in
    subst (Lies i (a ∷ bs) n 0) same (record { from = r.0; up = r.1; short = r.2; within = omega arith; on_line = grind (arith, nat_tests); next_line = grind (arith, nat_tests) })
lies i (a ∷ bs) n r (suc k) b is =
    let rest = lies (past a) bs n r.3 k b is in
    let from = rest.from in let up = rest.up in let x = r.0 in let y = r.1 in
    let here = rest.on_line in let next = rest.next_line in
    record { from = omega arith; up = up; short = rest.short; within = rest.within; on_line = grind (arith, nat_tests); next_line = grind (arith, nat_tests) }

-- break k is the first of those from k on
pub drop_some : (bs : List LineBreak) (k : ℕ) (b : LineBreak) → break_ending bs k ≡ Some b → drop k bs ≡ b ∷ drop (k + 1) bs
drop_some [] k b is = let z : ◌≡◌ {A = ℕ} 0 1 = cc in absurd (omega arith)
drop_some (a ∷ bs) zero b is = let same : a ≡ b = cc in ap (λ x. x ∷ bs) same
drop_some (a ∷ bs) (suc k) b is = let next : suc (k + 1) ≡ suc k + 1 = omega arith in drop_some bs k b is ∙ ap (λ j. b ∷ drop j (a ∷ bs)) next

pub drop_none : (bs : List LineBreak) (k : ℕ) → break_ending bs k ≡ None → drop k bs ≡ []
drop_none [] zero is = refl
drop_none [] (suc k) is = refl
drop_none (a ∷ bs) zero is = let z : ◌≡◌ {A = ℕ} 0 1 = cc in absurd (omega arith)
drop_none (a ∷ bs) (suc k) is = drop_none bs k is

-- there are no more breaks than bytes
pub few : (i : ℕ) (bs : List LineBreak) (n : ℕ) → Rising i bs n → i + length bs ≤ n
few i [] n r = omega arith
few i (b ∷ bs) n r = omega (arith, r.0, r.1, few (past b) bs n r.3)

pub start_of : (o : Option LineBreak) (s : ℕ) → option_map past o ≡ Some s → (b : LineBreak) × (o ≡ Some b) × (past b ≡ s)
start_of None s is = let z : ◌≡◌ {A = ℕ} 0 1 = cc in absurd (omega arith)
start_of (Some b) s is = (b, refl, (cc))

at_start : (bs : List LineBreak) (n : ℕ) → Rising 0 bs n → (k s : ℕ) → line_start_lem bs k ≡ Some s → line_of bs s ≡ k
at_start bs n r zero s is = let same : 0 ≡ s = cc in ap (line_of bs) (sym same) ∙ line_none 0 bs n 0 r (omega arith)
at_start bs n r (suc k) s is =
    let found = start_of (break_ending bs k) s is in
    ap (line_of bs) (sym found.2) ∙ (lies 0 bs n r k found.0 found.1).next_line

-- a lowered offset, from i on
pub record Lowered (i : ℕ) (bs : List LineBreak) (o : ℕ) : Type 0 where
  pub from : i ≤ lowered bs o
  pub to : lowered bs o ≤ o
  pub out : lowered bs (lowered bs o) ≡ lowered bs o
  pub on_line : line_of bs (lowered bs o) ≡ line_of bs o

-- nothing of what is said changes where no break reaches up to o
unlowered : (i : ℕ) (bs : List LineBreak) (o : ℕ) → i ≤ o → lowered bs o ≡ o → Lowered i bs o
unlowered i bs o le same = record { from = omega (arith, same); to = omega (arith, same); out = ap (lowered bs) same; on_line = ap (line_of bs) same }

pub lower_law : (i : ℕ) (bs : List LineBreak) (n o : ℕ) → Rising i bs n → i ≤ o → Lowered i bs o
lower_law i [] n o r le = unlowered i [] o le refl
lower_law i (b ∷ bs) n o r le = ⊎_elim
    (λ after.
    let lt = after.1 in let x = r.0 in let y = r.1 in
    let rest = lower_law (past b) bs n o r.3 (omega arith) in
    let from = rest.from in
    let skip : lowered (b ∷ bs) o ≡ lowered bs o = (let free : leb o b.end ≡ false = grind (arith, nat_tests) in grind (arith, nat_tests)) in
    let again : lowered (b ∷ bs) (lowered bs o) ≡ lowered bs (lowered bs o) = (let free : leb (lowered bs o) b.end ≡ false = grind (arith, nat_tests) in grind (arith, nat_tests)) in
    let here : ltb b.end o ≡ true = after.0 in
    let there : ltb b.end (lowered bs o) ≡ true = grind (arith, nat_tests) in
    record {
      from = omega (arith, skip);
      to = omega (arith, skip, rest.to);
      out = ap (lowered (b ∷ bs)) skip ∙ again ∙ rest.out ∙ sym skip;
      on_line = ap (line_of (b ∷ bs)) skip ∙ simp (here, there) (omega (arith, rest.on_line));
    })
    (λ upto. ⊎_elim
    (λ within.
    let le2 = upto.1 in let lt = within.1 in let x = r.0 in let y = r.1 in
    let at : lowered (b ∷ bs) o ≡ b.start = (let high : leb o b.end ≡ true = grind (arith, nat_tests) in let low = within.0 in simp (low, high)) in
    let late = lowered_none (past b) bs n b.start r.3 (omega arith) in
    let out : lowered (b ∷ bs) b.start ≡ b.start = (let low : ltb b.start b.start ≡ false = grind (arith, nat_tests) in simp (low, late)) in
    let none = line_none (past b) bs n o r.3 (omega arith) in
    let none2 = line_none (past b) bs n b.start r.3 (omega arith) in
    record {
      from = omega (arith, at);
      to = omega (arith, at);
      out = ap (lowered (b ∷ bs)) at ∙ out ∙ sym at;
      on_line = ap (line_of (b ∷ bs)) at ∙ grind (arith, nat_tests);
    })
    (λ out.
    let le2 = out.1 in
    let late = lowered_none (past b) bs n o r.3 (let y = r.1 in omega arith) in
    let low : ltb b.start o ≡ false = out.0 in
    unlowered i (b ∷ bs) o le (simp (low, late)))
    (leb_tells (suc b.start) o))
    (leb_tells (suc b.end) o)

pub every_list : EveryList
every_list bs n r = record {
  never_falls = never_falls bs;
  one_a_step = λ o. one_a_step 0 bs n o r;
  at_start = at_start bs n r;
  lowered_out = λ o. (lower_law 0 bs n o r (omega arith)).out;
  lowered_line = λ o. (lower_law 0 bs n o r (omega arith)).on_line;
}
