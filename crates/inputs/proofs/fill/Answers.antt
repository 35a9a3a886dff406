use Rattle.std.proofs.Common.{◌≡◌, ℕ, ◌+◌, ◌≤◌, List, ◌++◌, rules, arith, length, take, sym, ap, ◌∙◌, subst, length-take-le}
use Rattle.std.proofs.KnownBytes.{Consumes-trans}
use Rattle.std.proofs.lemmas.List.{take-append-le}
use Rattle.std.proofs.Math.Seq.{take-append-add}
use Rattle.std.specs.Io.KnownBytes.{Consumes}
use borrow.Rule.Slice.PartMut.{put_mid}
use Rattle.inputs.proofs.fill.Goals as goal

-- after a read of n bytes into the part of xs from a on, which then holds ys
take_more : (a n k : ℕ) (xs ys : List ℕ) → a ≤ length xs → n ≤ length ys → take a xs ++ take n ys ≡ take (a + n) (put_mid a k xs ys)
take_more a n k xs ys within fits =
    let front : length (take a xs) + n ≡ a + n = omega (arith, length-take-le a xs within) in
    sym (ap (λ m. take m (put_mid a k xs ys)) (sym front) ∙ take-append-add (take a xs) _ n ∙ ap (λ l. take a xs ++ l) (take-append-le n ys _ fits))

pub loop-count-preserved : goal.loop-count-preserved
loop-count-preserved g c = record {
  within = search rules;
  so_far = subst (Consumes _ _) (take_more c.loop-count.count c.in_ok-got.got _ c.loop-count.buf c.read.new.buf c.loop-count.invariant.within c.in_ok-got.ensures.bound.0) (Consumes-trans _ _ _ _ _ c.loop-count.invariant.so_far c.in_ok-got.ensures.bytes.0);
}
