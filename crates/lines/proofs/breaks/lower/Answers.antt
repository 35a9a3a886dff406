use Rattle.std.proofs.Common.{◌∙◌, arith}
use Rattle.lines.proofs.Finding.{lowered_in, lowered_not}
use Rattle.lines.proofs.breaks.lower.Goals as goal
use Rattle.lines.proofs.breaks.lower.Goals.{else-offset-gt0-via-then-offset-gt0+else-break_width-eq2, else-offset-gt0-via-else-offset-gt0}

pub returns-then-break_width-eq2 : goal.returns-then-break_width-eq2
returns-then-break_width-eq2 c = lowered_in c.args.text.now c.args.offset _ (omega arith) c.break_width.ensures c.if-break_width-eq2.true

pub returns : goal.returns
returns c =
    lowered_not c.args.text.now c.args.offset
    (λ some wide. elim c.else-offset-gt0.branch [
      | else-offset-gt0-via-then-offset-gt0+else-break_width-eq2 w ↦ w.if-break_width-eq2.false (w.break_width.ensures ∙ wide)
      | else-offset-gt0-via-else-offset-gt0 w ↦ omega (arith, w.if-offset-gt0.false, some)
    ])
