use Rattle.std.proofs.Common.{◌≡◌, ◌*◌, ◌≤◌, map, length, ap, ◌∙◌, arith}
use Rattle.std.proofs.lemmas.List.{take_at}
use Rattle.std.proofs.lemmas.Result.{IfOk-weaker}
use Rattle.lines.specs.Breaks.{seen}
use Rattle.answer_pages.specs.Pages.{labels_in}
use Rattle.answer_pages.specs.Slots.{asked_by, slots_from, gathered}
use Rattle.answer_pages.proofs.Lengths.{line_short}
use Rattle.answer_pages.proofs.Slotting.{page_of, onward_of}
use Rattle.answer_pages.proofs.page.answer_page.Goals as goal

pub returns : goal.returns
returns g c =
    let m = g.M.LineMap in
    let t = m.text c.args.map.now in
    let calls = c.deref.result.now in
    let told = c.run.new.told in
    let lines = labels_in (seen c.args.input.now) in
    let asked : map asked_by calls ≡ slots_from 0 lines = ap (map asked_by) c.deref.ensures.value ∙ c.in_ok-calls.ensures.0 in
    let slots_are : c.deref-2.result.now ≡ c.run.new.page = c.deref-2.ensures.value ∙ take_at c.run.new.page _ _ (omega (arith, c.run.auto.page, c.deref_mut.ensures.len)) in
    let told_are : c.deref-3.result.now ≡ told = c.deref-3.ensures.value ∙ take_at told _ _ (omega (arith, c.run.auto.told, c.deref_mut-2.ensures.len)) in
    let room : length calls * 55 ≤ length c.deref_mut.result.now = omega (arith, c.deref.ensures.len, c.deref_mut.ensures.len, c.in_ok-slots.ensures.len, c.len-2.ensures) in
    let places : length c.deref_mut-2.result.now ≡ length calls = omega (arith, c.deref.ensures.len, c.deref_mut-2.ensures.len, c.in_ok-told.ensures.len, c.len.ensures) in
    let all_calls : length calls ≤ c.run.result = omega (arith, c.run.ensures.count) in
    record {
      page = IfOk-weaker c.gather.result _ _
          (λ page is. is
          ∙ ap (λ slots. gathered slots c.deref-3.result.now) slots_are
          ∙ ap (gathered c.run.new.page) told_are
          ∙ page_of t _ c.run.new.page calls told c.run.result lines asked all_calls (λ line text. line_short t line text (m.short c.args.map.now)) room (omega (arith, c.run.ensures.count, c.run.auto.told)) c.run.ensures.law)
          c.gather.ensures;
      kept = c.run.ensures.kept;
      onward = onward_of t c.deref_mut.result.now c.run.new.page calls told c.run.result lines asked all_calls _ _ c.run.ensures.went;
    }
