use Rattle.std.proofs.Common.{◌≡◌, ◌-◌, ◌≤◌, length}
use Rattle.lines.specs.Breaks.{breaks, break_ending}
use Rattle.line_maps.proofs.Nearing.{Near}
use Rattle.line_maps.proofs.reading.close.Given as goal

abbrev pub invariant-loop-next : goal.invariant-loop-next
invariant-loop-next g l = let m = g.M.LineMap in (m.text l.map ≡ m.text l.initial.map) × (m.frontier l.initial.map ≤ m.frontier l.map) × (l.next ≡ break_ending (breaks (m.text l.initial.map)) l.passed) × Near (m.text l.initial.map) l.end l.after l.passed l.cut l.left

abbrev pub decreases-loop-next : goal.decreases-loop-next
decreases-loop-next g l = let m = g.M.LineMap in length (breaks (m.text l.initial.map)) - l.passed
