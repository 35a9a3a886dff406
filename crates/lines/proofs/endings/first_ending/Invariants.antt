use Rattle.std.proofs.Common.{◌≡◌, ℕ, ◌<◌, false, slice_index}
use Rattle.lines.specs.LineRule.{ends_line_lem}
use Rattle.lines.proofs.endings.first_ending.Given as goal

abbrev pub invariant-loop-i : goal.invariant-loop-i
invariant-loop-i l = (k : ℕ) → k < l.i → ends_line_lem (slice_index l.bytes k) ≡ false
