use Rattle.std.proofs.Common.{◌≡◌, [], ◌++◌, min, length, inl, inr, sym, ap, ◌∙◌, ⊎_elim, append-nil}
use Rattle.answer_pages.specs.Slots.{gathered}
use Rattle.answer_pages.proofs.Gathering.{gathered_more, gathered_all}
use Rattle.answer_pages.proofs.page.gather.Goals as goal

pub loop-slot-preserved : goal.loop-slot-preserved
loop-slot-preserved c =
    let step = c.in-Some.ensures.steps in
    let so_far = c.loop-slot.invariant.so_far in
    let size = c.loop-slot.invariant.size in
    record {
      so_far = gathered_more _ _ _ _ _ _ _ _ _ so_far step.0.1.0 (step.0.1.1 ∙ ap (λ n. min n (length c.loop-slot.slot-iterator.a.rest.now)) size) step.0.1.2 step.1 c.in_ok-push_told.ensures;
      size = step.0.0 ∙ size;
    }

pub returns : goal.returns
returns c =
    let slots = c.loop-slot.slot-iterator.a.rest.now in
    let told = c.loop-slot.slot-iterator.b.rest.now in
    let nothing : gathered slots told ≡ [] = gathered_all slots told (⊎_elim (λ s. inl s.1.1.0) (λ s. inr s.1.0) c.in-None.ensures.steps) in
    sym (append-nil c.loop-slot.page.items) ∙ sym (ap (λ l. c.loop-slot.page.items ++ l) nothing) ∙ c.loop-slot.invariant.so_far
