use Rattle.std.proofs.Common.{◌∙◌, arith}
use Rattle.payloads.proofs.Ends.{cut_more, cut_same}
use Rattle.payloads.proofs.reader.cut_after.Goals as goal
use Rattle.payloads.proofs.reader.cut_after.Goals.{else-end-gt0-via-then-end-gt0+else-break_width-eq2, else-end-gt0-via-else-end-gt0}

pub returns-then-break_width-eq2 : goal.returns-then-break_width-eq2
returns-then-break_width-eq2 c =
    let cut = cut_more c.args.text.now c.args.end _ (omega arith) c.break_width.ensures c.if-break_width-eq2.true in
    record { cut = cut.0; from = omega arith; within = cut.1 }

pub returns : goal.returns
returns c = record {
  cut = cut_same c.args.text.now c.args.end
      (λ some wide. elim c.else-end-gt0.branch [
        | else-end-gt0-via-then-end-gt0+else-break_width-eq2 w ↦ w.if-break_width-eq2.false (w.break_width.ensures ∙ wide)
        | else-end-gt0-via-else-end-gt0 w ↦ omega (arith, w.if-end-gt0.false, some)
      ]);
  from = omega arith;
  within = c.requires;
}
