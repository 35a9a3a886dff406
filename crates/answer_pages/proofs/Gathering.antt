-- What a page takes over. Assumes nothing.
use Rattle.std.proofs.Common.{◌≡◌, ℕ, ◌<◌, ◌≤◌, cond, min, List, [], ◌∷◌, ◌++◌, length, take, drop, Some, None, Option, unwrap_or, inl, inr, sym, refl, ap, ◌∙◌, ◌⊎◌, append_assoc, arith}
use Rattle.std.proofs.lemmas.List.{take_min, drop_min, take_at, drop_at}
use Rattle.std.proofs.lemmas.Bool.{le-leb}
use Rattle.answers.specs.Written.{filled, count_in}
use Rattle.call_runs.specs.declared.calls.Told.{Told}
use Rattle.answer_pages.specs.Slots.{shown_by, gathered}

-- the first slot, and what is left of the slots
pub gathered_cons : (slots : List ℕ) (one : Told) (others : List Told) → 0 < length slots → gathered slots (one ∷ others) ≡ shown_by (take 55 slots) one ++ gathered (drop 55 slots) others
gathered_cons [] one others some = absurd (omega arith)
gathered_cons (b ∷ bs) one others some = refl

gathered_first : (slots slot rest : List ℕ) (one : Told) (others : List Told) → slots ≡ slot ++ rest → length slot ≡ min 55 (length slots) → 0 < length slots → gathered slots (one ∷ others) ≡ shown_by slot one ++ gathered rest others
gathered_first slots slot rest one others is long some =
    let front : take 55 slots ≡ slot = sym (take_min 55 slots) ∙ ap (take (min 55 (length slots))) is ∙ take_at slot rest (min 55 (length slots)) long in
    let back : drop 55 slots ≡ rest = sym (drop_min 55 slots) ∙ ap (drop (min 55 (length slots))) is ∙ drop_at slot rest (min 55 (length slots)) long in
    gathered_cons slots one others some ∙ ap (λ l. shown_by l one ++ gathered (drop 55 slots) others) front ∙ ap (λ l. shown_by slot one ++ gathered l others) back

-- slot by slot
pub gathered_more : (page more slots slot rest whole : List ℕ) (told others : List Told) (one : Told) → page ++ gathered slots told ≡ whole → slots ≡ slot ++ rest → length slot ≡ min 55 (length slots) → 0 < length slots → told ≡ one ∷ others → more ≡ page ++ shown_by slot one → more ++ gathered rest others ≡ whole
gathered_more page more slots slot rest whole told others one so_far is long some first more-is =
    ap (λ l. l ++ gathered rest others) more-is
    ∙ append_assoc page (shown_by slot one) (gathered rest others)
    ∙ sym (ap (λ l. page ++ l) (ap (gathered slots) first ∙ gathered_first slots slot rest one others is long some))
    ∙ so_far

-- nothing is left
pub gathered_all : (slots : List ℕ) (told : List Told) → (length slots ≡ 0) ⊎ (length told ≡ 0) → gathered slots told ≡ []
gathered_all [] [] none = refl
gathered_all [] (x ∷ xs) none = refl
gathered_all (b ∷ bs) [] none = refl
gathered_all (b ∷ bs) (x ∷ xs) (inl none) = absurd (omega arith)
gathered_all (b ∷ bs) (x ∷ xs) (inr none) = absurd (omega arith)

-- a text that a buffer has room for stands at its front
pub written : (out text after : List ℕ) (count : ℕ) (r : Option ℕ) → length text ≤ length out → r ≡ count_in out text → after ≡ filled out text → count ≡ unwrap_or r 0 → take count after ≡ text
written out text after count r room told after_is count-is =
    let fits = le-leb (length text) (length out) room in
    let long : count ≡ length text = count-is ∙ ap (λ o. unwrap_or o 0) (told ∙ ap (λ b. cond b (Some (length text)) None) fits) in
    ap (λ n. take n after) long
    ∙ ap (take (length text)) (after_is ∙ ap (λ b. cond b (text ++ drop (length text) out) out) fits)
    ∙ take_at text (drop (length text) out) (length text) refl
