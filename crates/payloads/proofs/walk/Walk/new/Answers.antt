use Rattle.std.proofs.Common.{sym, arith}
use Rattle.lines.proofs.Giving.{line_first}
use Rattle.payloads.proofs.Walking.{column_first}
use Rattle.payloads.proofs.walk.Walk.new.Goals as goal

pub invariant_of-result : goal.invariant_of-result
invariant_of-result c = record {
  within = omega arith;
  line_is = sym (line_first c.args.text.slice.now);
  column_is = sym (column_first c.args.text.slice.now);
}
