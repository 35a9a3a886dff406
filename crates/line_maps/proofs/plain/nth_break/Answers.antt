use Rattle.std.proofs.Common.{ap, ◌∙◌}
use Rattle.lines.specs.Breaks.{break_ending}
use Rattle.lines.proofs.Giving.{nth_to_come}
use Rattle.line_maps.proofs.plain.nth_break.Goals as goal

pub returns : goal.returns
returns c = nth_to_come c.breaks.result _ c.args.number c.nth.result c.nth.ensures.ran ∙ ap (λ bs. break_ending bs c.args.number) c.breaks.ensures.all
