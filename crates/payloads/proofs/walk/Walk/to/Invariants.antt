use Rattle.std.proofs.Common.{◌≡◌, min, max, length}
use Rattle.payloads.proofs.walk.Walk.to.Given as goal

abbrev pub invariant-loop : goal.invariant-loop
invariant-loop l =
    (l.self.text.slice.now ≡ l.initial.self.text.slice.now)
    × (l.self.at ≡ l.counter)
    × (max l.self.at (min l.offset (length l.self.text.slice.now)) ≡ max l.initial.self.at (min l.offset (length l.initial.self.text.slice.now)))
