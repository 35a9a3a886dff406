use Rattle.std.proofs.Common.{lit≤}
use Rattle.lines.proofs.Lanes16.{mask_of}
use Rattle.lines.proofs.endings.endings_mask.Goals as goal

pub returns : goal.returns
returns c = mask_of c.args.block.now 16 c.told-block (lit≤ tt)
