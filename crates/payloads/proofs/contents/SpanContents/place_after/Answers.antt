use Rattle.std.proofs.Common.{arith}
use Rattle.payloads.proofs.Passing.{passing_few}
use Rattle.payloads.proofs.contents.SpanContents.place_after.Goals as goal

pub overflow_add-place-in-loop-found : goal.overflow_add-place-in-loop-found
overflow_add-place-in-loop-found c =
    omega (arith, (passing_few c.loop-found.invariant.1 c.in-Some.found c.in-Some.ensures.steps.told).0, c.loop-found.found-iterator.input.short)
