-- The place of an offset, from what a line map tells. Assumes nothing.
use Rattle.std.proofs.Common.{◌≡◌, ℕ, zero, suc, ◌-◌, ◌<◌, ◌≤◌, min, true, false, cond, leb, List, [], ◌∷◌, length, Some, None, unwrap_or, sym, refl, ap, ◌∙◌, ⊎_elim, arith}
use Rattle.std.proofs.lemmas.Bool.Decides.{nat_tests, leb_tells}
use Rattle.lines.specs.Breaks.{breaks, break_ending, past, line_start_lem, line_of, lowered, column_of, place_of, place}
use Rattle.lines.specs.Laws.{Rising}
use Rattle.lines.specs.Windows.{window_line, window_start}
use Rattle.lines.specs.declared.records.LineBreak.{LineBreak}
use Rattle.lines.proofs.BreakLaws.{line_none, lowered_none, every_list}
use Rattle.payloads.proofs.Ends.{line_there}
use Rattle.lines.proofs.Finding.{rising}
use Rattle.payloads.proofs.Stepping.{from_start}
use Rattle.payloads.proofs.Walking.{line_few}
use Rattle.line_maps.specs.Answers.{line_index}

-- an offset is lowered by the break that ends its line
record Low (bs : List LineBreak) (o : ℕ) : Type 0 where
  some : (b : LineBreak) → break_ending bs (line_of bs o) ≡ Some b → lowered bs o ≡ min o b.start
  none : break_ending bs (line_of bs o) ≡ None → lowered bs o ≡ o

low : (i : ℕ) (bs : List LineBreak) (n o : ℕ) → Rising i bs n → i ≤ o → Low bs o
low i [] n o r le = record { some = λ b is. (let z : ◌≡◌ {A = ℕ} 0 1 = cc in absurd (omega arith)); none = λ is. refl }
low i (a ∷ bs) n o r le = ⊎_elim
    (λ after.
    let t = after.0 in let lt = after.1 in
    let up : line_of (a ∷ bs) o ≡ suc (line_of bs o) = simp t (omega arith) in
    let free : leb o a.end ≡ false = grind (arith, nat_tests) in
    let skip : lowered (a ∷ bs) o ≡ lowered bs o = grind (arith, nat_tests) in
    let rest = low (past a) bs n o r.3 (omega arith) in
    record {
      some = λ b is. skip ∙ rest.some b (sym (ap (break_ending (a ∷ bs)) up) ∙ is);
      none = λ is. skip ∙ rest.none (sym (ap (break_ending (a ∷ bs)) up) ∙ is);
    })
    (λ upto.
    let t = upto.0 in let le2 = upto.1 in
    let rest-line = line_none (past a) bs n o r.3 (omega arith) in
    let rest-low = lowered_none (past a) bs n o r.3 (omega arith) in
    let zero-line : line_of (a ∷ bs) o ≡ 0 = grind (arith, nat_tests) in
    let at : lowered (a ∷ bs) o ≡ min o a.start = grind (arith, nat_tests) in
    record {
      some = λ b is. (let f : Some a ≡ Some b = sym (ap (break_ending (a ∷ bs)) zero-line) ∙ is in let same : a ≡ b = cc in at ∙ ap (λ (x : LineBreak). min o x.start) same);
      none = λ is. (let f : Some a ≡ None = sym (ap (break_ending (a ∷ bs)) zero-line) ∙ is in let z : ◌≡◌ {A = ℕ} 0 1 = cc in absurd (omega arith));
    })
    (leb_tells (suc a.end) o)

-- a line that was told, and an offset that it was told of
pub index_is : (t : List ℕ) (o k : ℕ) → line_index t o ≡ Some k → (o ≤ length t) × (k ≡ line_of (breaks t) o)
index_is t o k is = ⊎_elim
    (λ within. let f : Some (line_of (breaks t) o) ≡ Some k = sym (ap (λ yes. cond yes (Some (line_of (breaks t) o)) None) within.0) ∙ is in let same : line_of (breaks t) o ≡ k = cc in (within.1, sym same))
    (λ past_end. let f : None ≡ Some k = sym (ap (λ yes. cond yes (Some (line_of (breaks t) o)) None) past_end.0) ∙ is in let z : ◌≡◌ {A = ℕ} 0 1 = cc in absurd (omega arith))
    (leb_tells o (length t))

pub index_none : (t : List ℕ) (o : ℕ) → line_index t o ≡ None → length t < o
index_none t o is = ⊎_elim
    (λ within. let f : Some (line_of (breaks t) o) ≡ None = sym (ap (λ yes. cond yes (Some (line_of (breaks t) o)) None) within.0) ∙ is in let z : ◌≡◌ {A = ℕ} 0 1 = cc in absurd (omega arith))
    (λ past_end. past_end.1)
    (leb_tells o (length t))

-- a line up to that of an offset has a start
pub starts_above : (t : List ℕ) (o line : ℕ) → line ≤ line_of (breaks t) o → line_start_lem (breaks t) line ≡ None → ⊥
starts_above t o line le lacks =
    let s = line_there (breaks t) line (omega (arith, line_few (breaks t) o)) in
    let f : Some s.0 ≡ None = sym s.1 ∙ lacks in let z : ◌≡◌ {A = ℕ} 0 1 = cc in omega arith

module _ (t : List ℕ) (o line : ℕ) (on : line ≡ line_of (breaks t) o) where
  pub starts : line_start_lem (breaks t) line ≡ None → ⊥
  starts lacks = starts_above t o line (omega (arith, on)) lacks

  pub low_some : (b : LineBreak) → break_ending (breaks t) line ≡ Some b → min o b.start ≡ lowered (breaks t) o
  low_some b is = sym ((low 0 (breaks t) (length t) o (rising t) (omega arith)).some b (sym (ap (break_ending (breaks t)) on) ∙ is))

  pub low_none : break_ending (breaks t) line ≡ None → o ≡ lowered (breaks t) o
  low_none is = sym ((low 0 (breaks t) (length t) o (rising t) (omega arith)).none (sym (ap (break_ending (breaks t)) on) ∙ is))

  module _ (start at : ℕ) (first : line_start_lem (breaks t) line ≡ Some start) (low-at : at ≡ lowered (breaks t) o) where
    pub start_low : start ≤ at
    start_low =
        let same = (every_list (breaks t) (length t) (rising t)).lowered_line o in
        omega (arith, low-at, from_start t (lowered (breaks t) o) line (omega (arith, same, on)), ap (λ s. unwrap_or s 0) first)

    pub column_is : at - start ≡ column_of (breaks t) o
    column_is = omega (arith, low-at, sym (ap (λ s. unwrap_or s 0) first) ∙ ap (λ k. unwrap_or (line_start_lem (breaks t) k) 0) on)

    pub located : o ≤ length t → Some (record { line = line; column = at - start }) ≡ place t o
    located within =
        let inner : leb o (length t) ≡ true = grind (arith, nat_tests) in
        ap (λ k. Some (record { line = k; column = at - start })) on
        ∙ ap (λ c. Some (record { line = line_of (breaks t) o; column = c })) column_is
        ∙ sym (ap (λ yes. cond yes (Some (place_of (breaks t) o)) None) inner)

    -- with no lines before, a window starts at its span
    pub open_bare : (b : ℕ) → b ≡ 0 → (o ≡ window_start (breaks t) o b) × (line ≡ window_line (breaks t) o b) × (at - start ≡ column_of (breaks t) (window_start (breaks t) o b))
    open_bare zero none = (refl, omega (arith, on), column_is)
    open_bare (suc b) none = absurd (omega arith)
