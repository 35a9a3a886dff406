use Rattle.std.proofs.Common.{◌≡◌, ◌-◌, ◌≤◌, length}
use Rattle.payloads.proofs.Walking.{Nearing}
use Rattle.payloads.proofs.walk.Walk.to_line.Given as goal

abbrev pub invariant-loop-self : goal.invariant-loop-self
invariant-loop-self l = (l.self.text.slice.now ≡ l.initial.self.text.slice.now) × (l.initial.self.at ≤ l.self.at) × Nearing l.self.text.slice.now l.line l.self.at

abbrev pub decreases-loop-self : goal.decreases-loop-self
decreases-loop-self l = length l.self.text.slice.now - l.self.at
