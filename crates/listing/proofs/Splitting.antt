-- A line of a text, and the lines after it. Assumes nothing.
use Rattle.std.proofs.Common.{◌≡◌, ℕ, zero, suc, ◌+◌, ◌-◌, ◌^◌, ◌<◌, ◌≤◌, List, [], ◌∷◌, length, drop, Option, option_map, IfSome, Some, None, sym, ap, ◌∙◌, subst, add-one, length-drop, arith}
use Rattle.std.specs.Iterator.{MakesProgress, item_count}
use Rattle.lines.specs.Breaks.{seen, breaks, break_ending, past, line_start_lem, next_break_lem}
use Rattle.lines.specs.Laws.{Rising}
use Rattle.lines.specs.declared.records.LineBreak.{LineBreak}
use Rattle.lines.proofs.BreakLaws.{Lies, lies, drop_some, drop_none, few, start_of, every_list}
use Rattle.lines.proofs.Finding.{rising, seen_whole}
use Rattle.listing.specs.Table.{ending_of_lem, lines_from}
use Rattle.listing.specs.Left.{lines_at, lines_left}
use Rattle.listing.specs.declared.line.Ending.{Ending}
use Rattle.listing.specs.declared.line.Line.{Line}
use Rattle.listing.specs.declared.split.Lines.{Lines}

-- the breaks after break k
rising_past : (i : ℕ) (bs : List LineBreak) (n : ℕ) → Rising i bs n → (k : ℕ) (b : LineBreak) → break_ending bs k ≡ Some b → Rising (past b) (drop (suc k) bs) n
rising_past i [] n r k b is = let z : ◌≡◌ {A = ℕ} 0 1 = cc in absurd (omega arith)
rising_past i (a ∷ bs) n r zero b is = let same : a ≡ b = cc in subst (λ b. Rising (past b) bs n) same r.3
rising_past i (a ∷ bs) n r (suc k) b is = rising_past (past a) bs n r.3 k b is

-- the breaks from line k on, which starts at s
rising_at : (t : List ℕ) (k s : ℕ) → line_start_lem (breaks t) k ≡ Some s → Rising s (drop k (breaks t)) (length t)
rising_at t zero s is = let same : 0 ≡ s = cc in subst (λ s. Rising s (breaks t) (length t)) same (rising t)
rising_at t (suc k) s is =
    let found = start_of (break_ending (breaks t) k) s is in
    subst (λ s. Rising s (drop (suc k) (breaks t)) (length t)) found.2 (rising_past 0 (breaks t) (length t) (rising t) k found.0 found.1)

module _ (l : Lines) (t : List ℕ) (text : t ≡ l.text.slice.now) (s : ℕ) (was : l.start ≡ Some s) where
  abbrev bs : List LineBreak
  bs = breaks l.text.slice.now

  starts : line_start_lem bs l.number ≡ Some s
  starts = subst (λ start. IfSome start (λ s. line_start_lem bs l.number ≡ Some s)) was l.starts

  all : lines_left l ≡ lines_from l.text.slice.now (drop l.number bs) l.number s
  all = ap (lines_at l.text.slice.now l.number) was

  left : Rising s (drop l.number bs) (length l.text.slice.now)
  left = rising_at l.text.slice.now l.number s starts

  pub at_within : s ≤ length l.text.slice.now
  at_within = omega (arith, few s (drop l.number bs) (length l.text.slice.now) left)

  -- what a search from the line's start tells
  told_is : (r : Option LineBreak) → r ≡ next_break_lem (breaks (seen t)) s → break_ending bs l.number ≡ r
  told_is r told = sym (told ∙ ap (λ t. next_break_lem (breaks t) s) (ap seen text ∙ seen_whole l.text.slice.now l.text.short) ∙ ap (break_ending bs) ((every_list bs (length l.text.slice.now) (rising l.text.slice.now)).at_start l.number s starts))

  module _ (b : LineBreak) (told : Some b ≡ next_break_lem (breaks (seen t)) s) where
    lie : Lies 0 bs (length l.text.slice.now) l.number b
    lie = lies 0 bs (length l.text.slice.now) (rising l.text.slice.now) l.number b (told_is (Some b) told)

    first : drop l.number bs ≡ b ∷ drop (l.number + 1) bs
    first = drop_some bs l.number b (told_is (Some b) told)

    pub from : s ≤ b.start
    from = (subst (λ bs. Rising s bs (length l.text.slice.now)) first left).0

    pub within : b.start < length t
    within = omega (arith, ap length text, lie.up, lie.within)

    pub next_within : past b ≤ length l.text.slice.now
    next_within = omega (arith, lie.within)

    pub next_number : l.number + 1 < 2 ^ 32
    next_number = omega (arith, l.text.short, ap length first, length-drop l.number bs, few 0 bs (length l.text.slice.now) (rising l.text.slice.now))

    pub next_starts : line_start_lem bs (l.number + 1) ≡ Some (past b)
    next_starts = ap (line_start_lem bs) (add-one l.number) ∙ ap (option_map past) (told_is (Some b) told)

    pub steps : (e : Ending) (p : ℕ) → e ≡ ending_of_lem t b → p ≡ past b
        → lines_left l ≡ record { number = l.number; start = s; length = b.start - s; ending = Some e } ∷ lines_at l.text.slice.now (l.number + 1) (Some p)
    steps e p e_is p_is = all ∙ ap (λ bs. lines_from l.text.slice.now bs l.number s) first
        ∙ (λ i. record { number = l.number; start = s; length = b.start - s; ending = Some (sym (e_is ∙ ap (λ t. ending_of_lem t b) text) i) } ∷ lines_from l.text.slice.now (drop (l.number + 1) bs) (l.number + 1) (sym p_is i))

  pub ends : None ≡ next_break_lem (breaks (seen t)) s → (n : ℕ) → n ≡ length l.text.slice.now → lines_left l ≡ record { number = l.number; start = s; length = n - s; ending = None } ∷ []
  ends told n n_is = all ∙ ap (λ bs. lines_from l.text.slice.now bs l.number s) (drop_none bs l.number (told_is None told)) ∙ (λ i. record { number = l.number; start = s; length = sym n_is i - s; ending = None } ∷ [])

-- a call that gave a line
pub goes : (old new : Lines) (line : Line) → lines_left old ≡ line ∷ lines_left new → MakesProgress (λ _. Unit {0}) (item_count lines_left) old (Some line) new
goes old new line step = record { on = λ _. (tt, tt, omega (arith, ap length step)); keeps = tt; rests = λ _. tt }
