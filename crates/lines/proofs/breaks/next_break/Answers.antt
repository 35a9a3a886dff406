use Rattle.std.proofs.Common.{ap, ◌∙◌}
use Rattle.lines.specs.Breaks.{breaks, next_break_lem}
use Rattle.lines.proofs.Finding.{finds_none, finds_some}
use Rattle.lines.proofs.breaks.next_break.Goals as goal

pub returns-then-width-eq0 : goal.returns-then-width-eq0
returns-then-width-eq0 c =
    finds_none c.seen_bytes-text.result.now c.args.from _ _ c.lower.ensures c.next_ending-start.ensures _ c.break_width-width.ensures c.if-width-eq0.true
    ∙ ap (λ t. next_break_lem (breaks t) c.args.from) c.seen_bytes-text.ensures

pub returns : goal.returns
returns c =
    finds_some c.seen_bytes-text.result.now c.args.from _ _ c.lower.ensures c.next_ending-start.ensures _ c.break_width-width.ensures c.if-width-eq0.false
    ∙ ap (λ t. next_break_lem (breaks t) c.args.from) c.seen_bytes-text.ensures
