use Rattle.lines.proofs.Giving.{all_left}
use Rattle.lines.proofs.text.Text.breaks.Goals as goal

pub returns-clause-all : goal.returns-clause-all
returns-clause-all c = all_left c.args.self.now.slice.now
