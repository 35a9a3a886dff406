use Rattle.lines.proofs.BreakLaws.{every_text, every_list}
use Rattle.lines.proofs.WidthRule.{width_rule}
use Rattle.lines.proofs.laws.line_laws_hold.Goals as goal

pub returns : goal.returns
returns c = record { rule = width_rule; texts = every_text; lists = every_list }
