use Rattle.std.proofs.Common.{◌≡◌, ◌++◌, vec_items}
use Rattle.answer_pages.specs.Slots.{gathered}
use Rattle.answer_pages.proofs.page.gather.Given as goal

abbrev pub invariant-loop-slot : goal.invariant-loop-slot
invariant-loop-slot l = record {
  so_far : vec_items l.page ++ gathered l.slot-iterator.a.rest.now l.slot-iterator.b.rest.now ≡ gathered l.slots l.told;
  size : l.slot-iterator.a.size ≡ 55;
}
