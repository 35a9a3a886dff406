use Rattle.std.proofs.Common.{◌≡◌}
use Rattle.call_runs.proofs.Served.{Served}
use Rattle.call_runs.proofs.run.run.Given as goal

abbrev pub invariant-loop-i : goal.invariant-loop-i
invariant-loop-i g l = let m = g.M.LineMap in record {
  kept : m.text l.map ≡ m.text l.initial.map;
  served : Served (m.text l.initial.map) l.initial.page l.page l.asked l.initial.told l.told (m.frontier l.initial.map) (m.frontier l.map) l.i;
}
