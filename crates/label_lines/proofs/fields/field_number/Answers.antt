use Rattle.std.proofs.Common.{sym, arith}
use Rattle.std.proofs.lemmas.Grind.{common_steps}
use Rattle.std.proofs.lemmas.List.Sums.{prefix_len-drop_yes}
use Rattle.label_lines.specs.Fields.{is_digit}
use Rattle.label_lines.proofs.Numbers.{number_step, fits}
use Rattle.label_lines.proofs.fields.field_number.Goals as goal

pub loop-i-preserved : goal.loop-i-preserved
loop-i-preserved c = (
  omega (arith, prefix_len-drop_yes is_digit c.args.bytes.now c.loop-i.i 0 c.loop-i-test.true (sym c.if-not-is_ascii_digit.ensures.value)),
  omega (arith, number_step c.args.bytes.now c.loop-i.i c.loop-i-test.true),
)

pub returns-in-Ok : goal.returns-in-Ok
returns-in-Ok c = grind (arith, common_steps, fits)
