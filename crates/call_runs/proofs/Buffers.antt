-- A part of a page, cut to the page. Assumes nothing.
use Rattle.std.proofs.Common.{◌≡◌, ℕ, ◌+◌, ◌-◌, min, List, ◌++◌, length, take, drop, ap, ◌∙◌, arith}
use borrow.Rule.Slice.PartMut.{put_mid}
use Rattle.std.proofs.lemmas.List.{take_min, drop_min, drop-drop, length-drop}
use Rattle.call_runs.specs.Reference.{buffer_at, with_buffer_lem}
use Rattle.call_runs.specs.declared.calls.PagePart.{PagePart}

module _ (page : List ℕ) (part : PagePart) (from to : ℕ) (from_is : from ≡ min part.start (length page)) (to_is : to ≡ min (part.start + part.length) (length page)) where
  -- the bytes that are lent are those of the part
  pub lent : take (to - from) (drop from page) ≡ buffer_at page part
  lent =
      let many : to - from ≡ min part.length (length (drop from page)) = omega (arith, length-drop from page) in
      ap (λ n. take n (drop from page)) many
      ∙ take_min part.length (drop from page)
      ∙ ap (take part.length) (ap (λ n. drop n page) from_is ∙ drop_min part.start page)

  -- the page, once they are given back
  pub given_back : (out : List ℕ) → put_mid from (to - from) page out ≡ with_buffer_lem page part out
  given_back out =
      let past : from + (to - from) ≡ min (part.start + part.length) (length page) = omega arith in
      ap (λ l. l ++ (out ++ drop (to - from) (drop from page))) (ap (λ n. take n page) from_is ∙ take_min part.start page)
      ∙ ap (λ l. take part.start page ++ (out ++ l)) (drop-drop (to - from) from page ∙ ap (λ n. drop n page) past ∙ drop_min (part.start + part.length) page)
