use Rattle.std.proofs.Common.{rules, ◌≡◌, nat_lt, length, inl, ap, ◌∙◌, arith}
use Rattle.std.specs.List.{prefix_len}
use Rattle.lines.specs.Breaks.{breaks, line_of}
use Rattle.lines.specs.Cursor.{to_come}
use Rattle.lines.proofs.BreakLaws.{few}
use Rattle.lines.proofs.Giving.{count_while, ended_in_front}
use Rattle.lines.proofs.Finding.{rising}
use Rattle.payloads.proofs.Walking.{line_few}
use Rattle.line_maps.proofs.plain.line_of.Goals as goal

pub count-requires-clause-fits : goal.count-requires-clause-fits
count-requires-clause-fits c =
    let t = c.args.text.slice.now in
    let all : to_come c.take_while.result.iter ≡ breaks t = ap to_come c.take_while.ensures.source ∙ c.breaks.ensures.all in
    inl (omega (arith, ap length all, few 0 (breaks t) (length t) (rising t), c.args.text.short))

is : (c : goal.After-count) → c.count.result ≡ line_of (breaks c.args.text.slice.now) c.args.offset
is c =
    let t = c.args.text.slice.now in
    count_while _ (λ b. nat_lt b.end c.args.offset) _ c.take_while.result c.count.result c.count.ensures.ran c.take_while.ensures.closure c.take_while.ensures.done (search rules)
    ∙ ap (λ cursor. prefix_len (λ b. nat_lt b.end c.args.offset) (to_come cursor)) c.take_while.ensures.source
    ∙ ap (prefix_len (λ b. nat_lt b.end c.args.offset)) c.breaks.ensures.all
    ∙ ended_in_front 0 (breaks t) (length t) (rising t) c.args.offset

pub overflow_cast-result : goal.overflow_cast-result
overflow_cast-result c =
    let t = c.args.text.slice.now in
    omega (arith, is c, line_few (breaks t) c.args.offset, few 0 (breaks t) (length t) (rising t), c.args.text.short)

pub returns : goal.returns
returns c = is c
