-- The first i calls of a run are served. Assumes nothing.
use Rattle.std.proofs.Common.{◌≡◌, ℕ, ◌+◌, ◌<◌, ◌≤◌, List, [], ◌∷◌, ◌++◌, length, take, drop, set, sym, ap, ◌∙◌, subst, append_assoc, append-nil, arith}
use Rattle.std.proofs.lemmas.List.{take_more_set, drop_all, drop-set-lt}
use Rattle.std.proofs.lemmas.Grind.{drop_more_same}
use Rattle.call_runs.specs.Reference.{reference, handed_in, page_after, tells, page_left, Moved, Went}
use Rattle.call_runs.specs.declared.calls.Call.{Call}
use Rattle.call_runs.specs.declared.calls.Told.{Told}

-- the page was `before` and is now `page`, what is told stood in `old` and stands in `told`, and the frontier was `was`
-- and is now `is`: what the reference does with the calls that are left makes up what it does with all of them
pub record Served (t before page : List ℕ) (calls : List Call) (old told : List Told) (was is i : ℕ) : Type 0 where
  pub done : take i told ++ tells t page (drop i calls) ≡ tells t before calls
  pub left : page_left t page (drop i calls) ≡ page_left t before calls
  pub rest : drop i told ≡ drop i old
  pub way : (f : ℕ) → Went (drop i calls) is f → Went calls was f

module _ {t before page : List ℕ} {calls : List Call} {old told : List Told} {was is i : ℕ} (s : Served t before page calls old told was is i) where
  pub served_more : (c : Call) → drop i calls ≡ c ∷ drop (i + 1) calls → i < length told → (u : List ℕ) → u ≡ t → (x : Told) (next : List ℕ) (f : ℕ) → x ≡ reference u (handed_in page c) c → next ≡ page_after u page c → Moved c is f → Served t before next calls old (set told i x) was f (i + 1)
  served_more c here within u same x next f told_is next_is moved = record {
    done =
        let front = take_more_set told i x within in
        let apart = append_assoc (take i told) (x ∷ []) (tells t next (drop (i + 1) calls)) in
        let others : tells t page (drop i calls) ≡ reference t (handed_in page c) c ∷ tells t (page_after t page c) (drop (i + 1) calls) = ap (tells t page) here in
        (cc s.done);
    left =
        let others : page_left t page (drop i calls) ≡ page_left t (page_after t page c) (drop (i + 1) calls) = ap (page_left t page) here in
        (cc s.left);
    rest = drop-set-lt (i + 1) told i x (omega arith) ∙ drop_more_same told old i s.rest;
    way = λ g on. s.way g (subst (λ cs. Went cs is g) (sym here) (f, moved, on));
  }

  module _ (all : length calls ≤ i) where
    pub all_told : take i told ≡ tells t before calls
    all_told = sym (append-nil (take i told)) ∙ sym (ap (λ cs. take i told ++ tells t page cs) (drop_all i calls all)) ∙ s.done

    pub all_left : page ≡ page_left t before calls
    all_left = sym (ap (page_left t page) (drop_all i calls all)) ∙ s.left
