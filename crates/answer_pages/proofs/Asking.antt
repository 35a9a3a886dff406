-- The calls so far, and the label lines that are left. Assumes nothing.
use Rattle.std.proofs.Common.{◌≡◌, ℕ, ◌<◌, ◌≤◌, List, [], ◌∷◌, ◌++◌, length, drop, Some, Option, sym, ap, ◌∙◌, subst, append-nil, arith}
use Rattle.std.proofs.lemmas.List.{drop_more, drop_all}
use Rattle.lines.specs.Breaks.{breaks, past}
use Rattle.lines.specs.Laws.{Rising}
use Rattle.lines.specs.declared.records.LineBreak.{LineBreak}
use Rattle.lines.proofs.BreakLaws.{few}
use Rattle.lines.proofs.Finding.{rising}
use Rattle.answer_pages.specs.Pages.{last_label, labels_from, labels_in}
use Rattle.answer_pages.specs.Slots.{slot, Asked, slots_from}

-- the first k lines are asked for, the next one starts at `at`, and these breaks are to come
pub record Asking (t : List ℕ) (asked : List (Option Asked)) (k at : ℕ) (bs : List LineBreak) : Type 0 where
  pub slots : asked ++ slots_from k (labels_from t bs at) ≡ slots_from 0 (labels_in t)
  pub left : Rising at bs (length t)
  pub few : k ≤ at

pub asking_first : (t : List ℕ) (asked : List (Option Asked)) (k : ℕ) (bs : List LineBreak) → asked ≡ [] → k ≡ 0 → bs ≡ breaks t → Asking t asked k 0 bs
asking_first t asked k bs none zero_of all = record {
  slots = ap (λ asked. asked ++ slots_from k (labels_from t bs 0)) none ∙ ap (λ k. slots_from k (labels_from t bs 0)) zero_of ∙ ap (λ bs. slots_from 0 (labels_from t bs 0)) all;
  left = subst (λ bs. Rising 0 bs (length t)) (sym all) (rising t);
  few = omega arith;
}

-- a break that is to come lies in the text
module _ {t : List ℕ} {asked : List (Option Asked)} {k at : ℕ} {bs : List LineBreak} (h : Asking t asked k at bs) (b : LineBreak) (others : List LineBreak) (is : bs ≡ b ∷ others) where
  rest : Rising at (b ∷ others) (length t)
  rest = subst (λ bs. Rising at bs (length t)) is h.left

  pub within : b.start ≤ length t
  within = omega (arith, rest.1, few (past b) others (length t) rest.3)

-- the last line, which no break ends
module _ {t : List ℕ} {asked : List (Option Asked)} {k at : ℕ} {bs : List LineBreak} (h : Asking t asked k at bs) (is : bs ≡ []) where
  pub inside : at ≤ length t
  inside = subst (λ bs. Rising at bs (length t)) is h.left

  last : asked ++ slots_from k (last_label (drop at t)) ≡ slots_from 0 (labels_in t)
  last = sym (ap (λ bs. asked ++ slots_from k (labels_from t bs at)) is) ∙ h.slots

  -- it is a label
  pub asked_last : at < length t → (line : List ℕ) (more : List (Option Asked)) → line ≡ drop at t → more ≡ asked ++ Some (record { line = line; part = slot k }) ∷ [] → more ≡ slots_from 0 (labels_in t)
  asked_last within line more line_is more-is =
      let some = drop_more t at 0 within in
      more-is ∙ ap (λ l. asked ++ Some (record { line = l; part = slot k }) ∷ []) (line_is ∙ some)
      ∙ ap (λ l. asked ++ slots_from k (last_label l)) (sym some)
      ∙ last

  -- or it is empty, and none
  pub asked_all : length t ≤ at → asked ≡ slots_from 0 (labels_in t)
  asked_all past_end = sym (append-nil asked) ∙ ap (λ l. asked ++ slots_from k (last_label l)) (sym (drop_all at t past_end)) ∙ last
