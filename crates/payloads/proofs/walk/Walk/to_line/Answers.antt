use Rattle.std.proofs.Common.{length, unwrap_or, sym, ap, ◌∙◌, subst, arith}
use Rattle.lines.specs.Breaks.{breaks, line_start_lem}
use Rattle.payloads.proofs.Walking.{Nearing, nearing_more, nearing_done}
use Rattle.payloads.proofs.walk.Walk.to_line.Goals as goal

pub loop-self-preserved : goal.loop-self-preserved
loop-self-preserved c =
    let self = c.loop-self.self in
    let more = nearing_more self.text.slice.now c.args.line self.at (omega (arith, c.if-self-bytes.true, ap length c.bytes.ensures)) (omega (arith, self.line_is, c.loop-self-test.true)) in (
      c.step.ensures.text ∙ c.loop-self.invariant.0,
      omega (arith, c.step.ensures.at, c.loop-self.invariant.1),
      subst (λ t. Nearing t c.args.line c.step.new.self.at) (sym c.step.ensures.text) (subst (λ at. Nearing self.text.slice.now c.args.line at) (sym c.step.ensures.at) more),
    )

pub returns-else-self-bytes : goal.returns-else-self-bytes
returns-else-self-bytes c =
    let self = c.loop-self.self in
    let done = nearing_done self.text.slice.now c.args.line self.at c.loop-self.invariant.2 self.within (λ before. omega (arith, c.if-self-bytes.false, ap length c.bytes.ensures)) in
    record { text = c.loop-self.invariant.0; at = done ∙ ap (λ t. unwrap_or (line_start_lem (breaks t) c.args.line) (length t)) c.loop-self.invariant.0; onward = c.loop-self.invariant.1 }
