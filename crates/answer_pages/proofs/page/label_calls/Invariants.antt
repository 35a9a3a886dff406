use Rattle.std.proofs.Common.{map, vec_items, vec_len}
use Rattle.lines.specs.Cursor.{to_come}
use Rattle.answer_pages.specs.Slots.{asked_by}
use Rattle.answer_pages.proofs.Asking.{Asking}
use Rattle.answer_pages.proofs.page.label_calls.Given as goal

abbrev pub invariant-loop-found : goal.invariant-loop-found
invariant-loop-found l = Asking l.bytes (map asked_by (vec_items l.calls)) (vec_len l.calls) l.start (to_come l.found-iterator)
