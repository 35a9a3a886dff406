use Rattle.std.proofs.Common.{◌≡◌, ℕ, Ok, Err, Result, ap, ◌∙◌, rules}
use Rattle.std.specs.Result.{MatchResult, IsErrAnd, result_map_both}
use Rattle.lines.specs.declared.records.Fault.{Fault}
use Rattle.answers.specs.Faults.{answer_numbers}
use Rattle.answers.specs.Written.{line_for, answered, buffer_after}
use Rattle.answers.specs.declared.faults.AnswerFault.{AnswerFault}
use Rattle.call_runs.proofs.Buffers.{lent, given_back}
use Rattle.call_runs.specs.Reference.{with_buffer_lem}
use Rattle.call_runs.proofs.run.answer_into.Goals as goal

-- a fault goes on by its numbers
numbered : (r : Result ℕ AnswerFault) (s : Result ℕ Fault) → MatchResult r (λ n. s ≡ Ok n) (λ e. IsErrAnd s (λ f. f ≡ answer_numbers e)) → s ≡ result_map_both (λ n. n) answer_numbers r
numbered (Ok n) s is = is
numbered (Err e) (Ok n) is = absurd is
numbered (Err e) (Err f) is = ap Err is

pub returns-clause-told : goal.returns-clause-told
returns-clause-told g c =
    let line = line_for (g.M.LineMap.text c.args.map.now) c.args.line.now in
    numbered c.answer.result c.map_err.result (search rules)
    ∙ c.answer.ensures.told
    ∙ ap (λ out. answered out line) (lent c.args.page.now c.args.part _ _ c.within-places.ensures.start c.within-places.ensures.end)

pub returns-clause-page : goal.returns-clause-page
returns-clause-page g c =
    let line = line_for (g.M.LineMap.text c.args.map.now) c.args.line.now in
    given_back c.args.page.now c.args.part _ _ c.within-places.ensures.start c.within-places.ensures.end c.answer.new.out
    ∙ ap (with_buffer_lem c.args.page.now c.args.part) (c.answer.ensures.out ∙ ap (λ out. buffer_after out line) (lent c.args.page.now c.args.part _ _ c.within-places.ensures.start c.within-places.ensures.end))
