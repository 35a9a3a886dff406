-- What is left of the breaks after the next one. Assumes nothing.
use Rattle.std.proofs.Common.{◌≡◌, ℕ, zero, suc, ◌+◌, ◌≤◌, nat_lt, Bool, false, List, [], ◌∷◌, length, drop, Some, None, Option, sym, refl, ap, ◌∙◌, arith}
use Rattle.std.specs.List.{prefix_len, slice_get}
use Rattle.std.specs.Option.{option_map}
use Rattle.std.proofs.lemmas.Iterator.{YieldsList, items_from_drains}
use Rattle.std.proofs.lemmas.Iterator.Consumers.{YieldsList-from_shown, nth_from_yields_List}
use Rattle.std.proofs.lemmas.Iterator.Search.{YieldsList-from_take_while}
use Rattle.std.proofs.lemmas.List.Folds.{length-prefix_len}
use denote.Param.Members.{Mut}
use lib.ListN.{length-map}
use Rattle.std.proofs.lemmas.Bool.Decides.{nat_tests}
use Rattle.std.specs.Borrow.{Bor}
use Rattle.std.specs.Fn.{CalledAt}
use Rattle.std.specs.Iterator.{YieldsFirst, MakesProgress, SkipsThenYields, Drains, item_count}
use Rattle.std.specs.Iterator.Adapters.{take_while_source, take_while_callee, take_while_done, take_while_steps}
use Rattle.std.specs.declared.iter.TakeWhile.{TakeWhile}
use Rattle.lines.specs.Breaks.{breaks, break_ending, past, line_of, next_break_lem, breaks_left}
use Rattle.lines.specs.Cursor.{to_come, Gives}
use Rattle.lines.specs.Laws.{Rising}
use Rattle.lines.specs.declared.cursor.LineBreaks.{LineBreaks}
use Rattle.lines.specs.declared.records.LineBreak.{LineBreak}
use Rattle.lines.proofs.BreakLaws.{line_none, drop_some, drop_none}
use Rattle.lines.proofs.Finding.{rising, over, next_lies}

-- no line begins before 0
pub line_first : (t : List ℕ) → line_of (breaks t) 0 ≡ 0
line_first t = line_none 0 (breaks t) (length t) 0 (rising t) (omega arith)

pub all_left : (t : List ℕ) → breaks_left (breaks t) 0 ≡ breaks t
all_left t = ap (λ k. drop k (breaks t)) (line_first t)

module _ (t : List ℕ) (o : ℕ) where
  pub gives_next : (b : LineBreak) → Some b ≡ next_break_lem (breaks t) o → breaks_left (breaks t) o ≡ b ∷ breaks_left (breaks t) (past b)
  gives_next b told =
      let bs = breaks t in
      let next : line_of bs (past b) ≡ line_of bs o + 1 = omega (arith, (next_lies t o b told).next_line) in
      drop_some bs (line_of bs o) b (sym told) ∙ ap (λ k. b ∷ drop k bs) (sym next)

  none_left : None ≡ next_break_lem (breaks t) o → breaks_left (breaks t) o ≡ []
  none_left told = drop_none (breaks t) (line_of (breaks t) o) (sym told)

-- none is left, and none comes at the end
pub gives_none : (t : List ℕ) (o n : ℕ) → None ≡ next_break_lem (breaks t) o → n ≡ length t → (breaks_left (breaks t) o ≡ []) × (breaks_left (breaks t) n ≡ [])
gives_none t o n told end = (none_left t o told, ap (breaks_left (breaks t)) end ∙ none_left t (length t) (sym (over t)))

-- and so each call leaves less to come
pub progress : (s t : LineBreaks) (r : Option LineBreak) → YieldsFirst to_come s r t → MakesProgress (λ _. Unit {0}) (item_count to_come) s r t
progress s t (Some b) gives = record { on = λ _. (tt, tt, omega (arith, ap length gives)); keeps = tt; rests = λ _. tt }
progress s t None gives = record { on = λ _. tt; keeps = tt; rests = λ _. tt }

-- every run of calls gives the breaks to come, in order
pub yields : (cursor : LineBreaks) → YieldsList Gives (λ b. b) cursor (to_come cursor)
yields = YieldsList-from_shown Gives (λ b. b) to_come (λ old new gives. ap length gives.first.0) (λ old b new gives. gives.first)

itself : (r : Option LineBreak) → r ≡ option_map (λ b. b) r
itself None = refl
itself (Some b) = refl

-- break k is what stands at place k
pub break_at : (bs : List LineBreak) (k : ℕ) → slice_get bs k ≡ break_ending bs k
break_at [] k = refl
break_at (b ∷ bs) zero = refl
break_at (b ∷ bs) (suc k) = break_at bs k

-- of breaks that rise, those that end before an offset stand in front
pub ended_in_front : (i : ℕ) (bs : List LineBreak) (n : ℕ) → Rising i bs n → (o : ℕ) → prefix_len (λ b. nat_lt b.end o) bs ≡ line_of bs o
ended_in_front i [] n rising o = refl
ended_in_front i (b ∷ bs) n rising o =
    let rest = ended_in_front (past b) bs n rising.3 o in
    let after : o ≤ past b → line_of bs o ≡ 0 = line_none (past b) bs n o rising.3 in
    grind (arith, nat_tests)

-- what nth skips to is the break at that place
pub nth_to_come : (cursor left : LineBreaks) (k : ℕ) (r : Option LineBreak) → SkipsThenYields Gives cursor k r left → r ≡ break_ending (to_come cursor) k
nth_to_come cursor left k r ran = itself r ∙ nth_from_yields_List r left k ran (yields cursor) ∙ break_at (to_come cursor) k

-- how many come while a test holds
pub count_while : {F : Type 0} (g : Mut F (Bor LineBreak × Unit {0}) Bool) (test : LineBreak → Bool) (f : F) (s : TakeWhile LineBreaks F) (n : ℕ) → (xs : List LineBreak) × Drains (take_while_steps Gives g) s xs × (n ≡ length xs)
    → take_while_callee s ≡ f → take_while_done s ≡ false → ((b : LineBreak) (holds : Bool) (q : F) → CalledAt g f b holds q → (q ≡ f) × (holds ≡ test b)) → n ≡ prefix_len test (to_come (take_while_source s))
count_while g test f s n ran callee done tests =
    let bs = to_come (take_while_source s) in
    let end = ran.1.0 in
    ran.2
    ∙ sym (length-map ran.0 (λ b. b))
    ∙ ap length (items_from_drains ran.0 (ran.1.1.0, ran.1.1.1, λ _. (end, ran.1.1.2)) (YieldsList-from_take_while g test (yields (take_while_source s)) callee done tests))
    ∙ length-prefix_len test bs
