use Rattle.std.proofs.Common.{◌≤◌, map, length, vec_items, vec_len, sym, ap, ◌∙◌, arith}
use Rattle.std.proofs.lemmas.List.{take_rest}
use Rattle.lines.specs.Breaks.{breaks}
use Rattle.lines.specs.Cursor.{to_come}
use Rattle.answer_pages.specs.Pages.{labels_in}
use Rattle.answer_pages.specs.Slots.{slots_from, asked_by}
use Rattle.answer_pages.proofs.Asking.{asking_first, within, inside, asked_last, asked_all}
use Rattle.answer_pages.proofs.page.label_calls.Goals as goal
use Rattle.answer_pages.proofs.page.label_calls.Goals.{then-start-bytes+in_ok-push_call-2, else-start-bytes}

pub loop-found-init : goal.loop-found-init
loop-found-init c =
    asking_first _ _ _ _ (ap (map asked_by) c.new-calls.ensures.items) c.new-calls.ensures.len (ap to_come c.into_iter-found-iterator.ensures.into_iter_gives ∙ c.breaks-found-items.ensures.all ∙ sym (ap breaks c.bytes-bytes.ensures))

pub slice_bounds-push_call-end : goal.slice_bounds-push_call-end
slice_bounds-push_call-end c = within c.loop-found.invariant c.in-Some.found _ c.in-Some.ensures.steps.first

pub returns : goal.returns
returns c =
    let asking = c.loop-found.invariant in
    let none = c.in-None.ensures.steps.first.0 in
    let all = ap (λ t. slots_from 0 (labels_in t)) (c.bytes-bytes.ensures ∙ c.new-text.ensures) in
    let few : vec_len c.loop-found.calls ≤ 4294967295 = omega (arith, asking.few, inside asking none, ap length c.bytes-bytes.ensures, c.new-text.result.short) in
    elim c.if-start-bytes.branch [
      | then-start-bytes+in_ok-push_call-2 w ↦ (
        ap (λ v. map asked_by (vec_items v)) w.calls-is ∙ asked_last asking none w.if-start-bytes.true _ _ (take_rest _ c.loop-found.start) w.in_ok-push_call-2.ensures.0 ∙ all,
        omega (arith, ap vec_len w.calls-is, w.in_ok-push_call-2.ensures.1, few),
      )
      | else-start-bytes w ↦ (
        ap (λ v. map asked_by (vec_items v)) w.calls-is ∙ asked_all asking none w.if-start-bytes.false ∙ all,
        omega (arith, ap vec_len w.calls-is, few),
      )
    ]
