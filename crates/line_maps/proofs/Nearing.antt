-- Going from break to break to the end of a window. Assumes nothing.
use Rattle.std.proofs.Common.{◌≡◌, ℕ, zero, suc, ◌+◌, ◌-◌, ◌<◌, ◌≤◌, min, max, true, false, ltb, leb, ◌⊎◌, List, [], ◌∷◌, length, drop, Some, None, unwrap_or, sym, refl, ap, ◌∙◌, inl, inr, ⊎_elim, arith}
use Rattle.std.proofs.lemmas.Bool.{cases_eq}
use Rattle.std.proofs.lemmas.Bool.Decides.{nat_tests, leb_tells}
use Rattle.std.specs.Option.{option_map}
use Rattle.lines.specs.Breaks.{breaks, break_ending, past, line_start_lem, line_of}
use Rattle.lines.specs.Laws.{Rising}
use Rattle.lines.specs.LineRule.{width}
use Rattle.lines.specs.Windows.{cut_after_lem, window_end_lem}
use Rattle.lines.specs.declared.records.LineBreak.{LineBreak}
use Rattle.lines.proofs.BreakLaws.{line_none, Lies, lies, few, every_list}
use Rattle.lines.proofs.Finding.{line_all}
use Rattle.payloads.proofs.Ends.{cut_ge, cut_none, cut_more, cut_same, end_trailing}
use Rattle.lines.proofs.Finding.{rising}
use Rattle.payloads.proofs.Stepping.{ends_pair, from_start, start_le}
use Rattle.payloads.proofs.Walking.{line_few, no_line}
use Rattle.payloads.proofs.Whole.{ended_cut}

-- with no break k there are at most k
none_length : (bs : List LineBreak) (k : ℕ) → break_ending bs k ≡ None → length bs ≤ k
none_length [] k is = omega arith
none_length (b ∷ bs) zero is = let z : ◌≡◌ {A = ℕ} 0 1 = cc in absurd (omega arith)
none_length (b ∷ bs) (suc k) is = omega (arith, none_length bs k is)

-- break k starts before e exactly if it is counted at the cut after e
starts_before : (i : ℕ) (bs : List LineBreak) (n e : ℕ) → Rising i bs n → (k : ℕ) (b : LineBreak) → break_ending bs k ≡ Some b → b.start < e → k < line_of bs (cut_after_lem bs e)
starts_before i [] n e r k b is lt = let z : ◌≡◌ {A = ℕ} 0 1 = cc in absurd (omega arith)
starts_before i (a ∷ bs) n e r zero b is lt =
    let same : a ≡ b = cc in
    let s = ap (λ (x : LineBreak). x.start) same in
    let from : ltb a.start e ≡ true = grind (arith, nat_tests) in
    let up = r.1 in
    let far = cut_ge bs e in
    grind (arith, nat_tests)
starts_before i (a ∷ bs) n e r (suc k) b is lt =
    let on = (lies (past a) bs n r.3 k b is).from in
    let up = r.1 in
    let out : leb e (past a) ≡ false = grind (arith, nat_tests) in
    let rest = starts_before (past a) bs n e r.3 k b is lt in
    let far = cut_ge bs e in
    grind (arith, nat_tests)

starts_later : (i : ℕ) (bs : List LineBreak) (n e : ℕ) → Rising i bs n → (k : ℕ) (b : LineBreak) → break_ending bs k ≡ Some b → e ≤ b.start → line_of bs (cut_after_lem bs e) ≤ k
starts_later i [] n e r k b is le = let z : ◌≡◌ {A = ℕ} 0 1 = cc in absurd (omega arith)
starts_later i (a ∷ bs) n e r zero b is le =
    let same : a ≡ b = cc in
    let s = ap (λ (x : LineBreak). x.start) same in
    let none = cut_none a.start (a ∷ bs) n e (omega arith, r.1, r.2, r.3) (omega arith) in
    let zero-line = line_none a.start (a ∷ bs) n e (omega arith, r.1, r.2, r.3) (omega arith) in
    omega (arith, ap (line_of (a ∷ bs)) none.0, zero-line)
starts_later i (a ∷ bs) n e r (suc k) b is le = ⊎_elim
    (λ from. ⊎_elim
    (λ to.
    let x = from.0 in let y = to.0 in let up = r.1 in
    let cut : cut_after_lem (a ∷ bs) e ≡ past a = simp (x, y) in
    let rest = line_none (past a) bs n (past a) r.3 (omega arith) in
    let one : line_of (a ∷ bs) (past a) ≡ 1 = grind (arith, nat_tests) in
    omega (arith, ap (line_of (a ∷ bs)) cut, one))
    (λ after.
    let x = from.0 in let y = after.0 in
    let cut : cut_after_lem (a ∷ bs) e ≡ cut_after_lem bs e = simp (x, y) in
    let rest = starts_later (past a) bs n e r.3 k b is le in
    let more : line_of (a ∷ bs) (cut_after_lem bs e) ≤ 1 + line_of bs (cut_after_lem bs e) = grind (arith, nat_tests) in
    omega (arith, ap (line_of (a ∷ bs)) cut, more))
    (leb_tells e (past a)))
    (λ before.
    let lt = before.1 in
    let none = cut_none a.start (a ∷ bs) n e (omega arith, r.1, r.2, r.3) (omega arith) in
    let zero-line = line_none a.start (a ∷ bs) n e (omega arith, r.1, r.2, r.3) (omega arith) in
    omega (arith, ap (line_of (a ∷ bs)) none.0, zero-line))
    (leb_tells (suc a.start) e)

module _ (t : List ℕ) (e : ℕ) where
  -- how many breaks start before e
  abbrev pub span_lines : ℕ
  span_lines = line_of (breaks t) (cut_after_lem (breaks t) e)

  -- the cut is the start of the line after these, or e
  cut_is : cut_after_lem (breaks t) e ≡ max e (unwrap_or (line_start_lem (breaks t) span_lines) 0)
  cut_is = ⊎_elim
      (λ some. ⊎_elim
      (λ (pair : width (drop (e - 1) t) ≡ 2).
      let cut = cut_more t e (width (drop (e - 1) t)) some.1 refl pair in
      let break-at = ends_pair t e (omega (arith, cut.1)) some.1 pair in
      let next = (lies 0 (breaks t) (length t) (rising t) (line_of (breaks t) e) (record { start = e - 1; end = e }) break-at).next_line in
      let line : span_lines ≡ suc (line_of (breaks t) e) = ap (line_of (breaks t)) (sym cut.0) ∙ next in
      let start : unwrap_or (line_start_lem (breaks t) span_lines) 0 ≡ e + 1 = ap (λ k. unwrap_or (line_start_lem (breaks t) k) 0) line ∙ ap (λ b. unwrap_or (option_map past b) 0) break-at in
      omega (arith, cut.0, start))
      (λ (single : width (drop (e - 1) t) ≡ 2 → ⊥). alone (λ _ pair. single pair))
      (cases_eq (width (drop (e - 1) t)) 2))
      (λ none. alone (λ some pair. omega (arith, some, none.1)))
      (leb_tells 1 e)
    where
      alone : (0 < e → width (drop (e - 1) t) ≡ 2 → ⊥) → cut_after_lem (breaks t) e ≡ max e (unwrap_or (line_start_lem (breaks t) span_lines) 0)
      alone single =
          let cut = cut_same t e single in
          let start = ap (λ k. unwrap_or (line_start_lem (breaks t) k) 0) (ap (line_of (breaks t)) (sym cut)) in
          omega (arith, cut, start, start_le t e)

  -- k breaks are passed: those of the span, or some after it as well
  pub record Near (after k cut left : ℕ) : Type 0 where
    pub there : k ≤ length (breaks t)
    pub where_at : ((k ≤ span_lines) × (left ≡ after) × (cut ≡ max e (unwrap_or (line_start_lem (breaks t) k) 0))) ⊎ ((span_lines < k) × (0 < after) × (left + k ≡ after + span_lines))

  pub near_first : (after line : ℕ) → line ≤ line_of (breaks t) e → Near after line e after
  near_first after line le =
      let up = (every_list (breaks t) (length t) (rising t)).never_falls e (cut_after_lem (breaks t) e) (cut_ge (breaks t) e) in
      let low = from_start t e line le in
      record { there = omega (arith, line_few (breaks t) e); where_at = inl (omega arith, refl, omega arith) }

  module _ {after k cut left : ℕ} (h : Near after k cut left) where
    module _ (b : LineBreak) (is : break_ending (breaks t) k ≡ Some b) where
      lie : Lies 0 (breaks t) (length t) k b
      lie = lies 0 (breaks t) (length t) (rising t) k b is

      next_start : unwrap_or (line_start_lem (breaks t) (k + 1)) 0 ≡ past b
      next_start = let next : k + 1 ≡ suc k = omega arith in ap (λ k. unwrap_or (line_start_lem (breaks t) k) 0) next ∙ ap (λ b. unwrap_or (option_map past b) 0) is

      pub few_breaks : k + 1 ≤ length t
      few_breaks = omega (arith, lie.next_line, line_few (breaks t) (past b), few 0 (breaks t) (length t) (rising t))

      pub below : k < length (breaks t)
      below = omega (arith, lie.next_line, line_few (breaks t) (past b))

      -- a break of the span
      pub near_span : b.start < e → Near after (k + 1) (max cut (past b)) left
      near_span lt =
          let counted = starts_before 0 (breaks t) (length t) e (rising t) k b is lt in
          let low = from_start t b.end k (omega (arith, lie.on_line)) in
          ⊎_elim
          (λ span. record { there = omega (arith, below); where_at = inl (omega arith, span.1, omega (arith, span.2, next_start, low)) })
          (λ behind. absurd (omega (arith, behind.0, counted)))
          h.where_at

      -- a break after it
      pub near_after : e ≤ b.start → (after ≡ 0 → ⊥) → (left ≡ 0 → ⊥) → Near after (k + 1) cut (left - 1)
      near_after le some more =
          let counted = starts_later 0 (breaks t) (length t) e (rising t) k b is le in
          ⊎_elim
          (λ span. record { there = omega (arith, below); where_at = inr (omega arith, omega arith, omega (arith, span.0, span.1, counted)) })
          (λ behind. record { there = omega (arith, below); where_at = inr (omega (arith, behind.0), omega arith, omega (arith, behind.2)) })
          h.where_at

      module _ (le : e ≤ b.start) where
        inner : e ≤ length t
        inner = omega (arith, lie.up, lie.within)

        counted_later : span_lines ≤ k
        counted_later = starts_later 0 (breaks t) (length t) e (rising t) k b is le

        -- with no lines after, the window ends at the cut
        pub ends_cut : after ≡ 0 → (cut ≡ window_end_lem (length t) (breaks t) e after) × (k ≡ line_of (breaks t) (window_end_lem (length t) (breaks t) e after)) × (cut ≤ length t)
        ends_cut none = ⊎_elim
            (λ span.
            let line : k ≡ span_lines = omega (arith, span.0, counted_later) in
            let at : cut ≡ cut_after_lem (breaks t) e = span.2 ∙ ap (λ k. max e (unwrap_or (line_start_lem (breaks t) k) 0)) line ∙ sym cut_is in
            let yes-in : leb e (length t) ≡ true = (let i = inner in grind (arith, nat_tests)) in
            let end : window_end_lem (length t) (breaks t) e after ≡ cut_after_lem (breaks t) e = ap (window_end_lem (length t) (breaks t) e) none ∙ simp yes-in in
            (at ∙ sym end, line ∙ ap (line_of (breaks t)) (sym end), omega (arith, at, (ended_cut t e inner).within)))
            (λ behind. absurd (omega (arith, behind.1, none)))
            h.where_at

        -- with lines after, it ends past the last of these
        pub ends_after : (after ≡ 0 → ⊥) → left ≡ 0 → (past b ≡ window_end_lem (length t) (breaks t) e after) × (k + 1 ≡ line_of (breaks t) (window_end_lem (length t) (breaks t) e after))
        ends_after some none =
            let line : k ≡ span_lines + after = ⊎_elim (λ span. absurd (some (sym span.1 ∙ none))) (λ behind. omega (arith, behind.2)) h.where_at in
            let next : k + 1 ≡ span_lines + after + 1 = omega arith in
            let start : line_start_lem (breaks t) (k + 1) ≡ Some (past b) = (let n : k + 1 ≡ suc k = omega arith in ap (line_start_lem (breaks t)) n ∙ ap (option_map past) is) in
            let end : past b ≡ window_end_lem (length t) (breaks t) e after =
            sym (ap (λ s. unwrap_or s (length t)) start) ∙ ap (λ k. unwrap_or (line_start_lem (breaks t) k) (length t)) next ∙ end_trailing t e after inner (omega (arith, some)) in
            (end, omega (arith, lie.next_line) ∙ ap (line_of (breaks t)) end)

    -- no break is left
    module _ (is : break_ending (breaks t) k ≡ None) where
      all : length (breaks t) ≡ k
      all = omega (arith, none_length (breaks t) k is, h.there)

      at_end : k ≡ line_of (breaks t) (length t)
      at_end = omega (arith, all, line_all 0 (breaks t) (length t) (rising t))

      past_end : (a : ℕ) → length t < e → window_end_lem (length t) (breaks t) e a ≡ length t
      past_end a out = let no-in : leb e (length t) ≡ false = grind (arith, nat_tests) in simp no-in

      pub none_cut : after ≡ 0 → (min cut (length t) ≡ window_end_lem (length t) (breaks t) e after) × (k ≡ line_of (breaks t) (window_end_lem (length t) (breaks t) e after))
      none_cut none = ⊎_elim
          (λ span.
          let line : k ≡ span_lines = omega (arith, span.0, all, line_few (breaks t) (cut_after_lem (breaks t) e)) in
          let at : cut ≡ cut_after_lem (breaks t) e = span.2 ∙ ap (λ k. max e (unwrap_or (line_start_lem (breaks t) k) 0)) line ∙ sym cut_is in
          ⊎_elim
          (λ within.
          let holds = within.0 in
          let end : window_end_lem (length t) (breaks t) e after ≡ cut_after_lem (breaks t) e = ap (window_end_lem (length t) (breaks t) e) none ∙ simp holds in
          (omega (arith, at, end, (ended_cut t e within.1).within), line ∙ ap (line_of (breaks t)) (sym end)))
          (λ out.
          let end = past_end after out.1 in
          (omega (arith, at, end, cut_ge (breaks t) e, out.1), at_end ∙ ap (line_of (breaks t)) (sym end)))
          (leb_tells e (length t)))
          (λ behind. absurd (omega (arith, behind.1, none)))
          h.where_at

      pub none_all : (after ≡ 0 → ⊥) → (length t ≡ window_end_lem (length t) (breaks t) e after) × (k ≡ line_of (breaks t) (window_end_lem (length t) (breaks t) e after))
      none_all some =
          let end : length t ≡ window_end_lem (length t) (breaks t) e after = ⊎_elim
          (λ within.
          let few-left : length (breaks t) < span_lines + after + 1 = ⊎_elim (λ span. omega (arith, span.0, all)) (λ behind. omega (arith, behind.2, all)) h.where_at in
          sym (ap (λ s. unwrap_or s (length t)) (no_line (breaks t) (span_lines + after + 1) few-left)) ∙ end_trailing t e after within.1 (omega (arith, some)))
          (λ out. sym (past_end after out.1))
          (leb_tells e (length t)) in
          (end, at_end ∙ ap (line_of (breaks t)) end)
