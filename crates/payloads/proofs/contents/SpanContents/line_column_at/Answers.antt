use Rattle.std.proofs.Common.{arith}
use Rattle.payloads.proofs.Passing.{lowered_le}
use Rattle.payloads.proofs.contents.SpanContents.line_column_at.Goals as goal

pub place_after-requires : goal.place_after-requires
place_after-requires c = omega (arith, c.lower.ensures, lowered_le c.data.result.now c.saturating_sub-at.result, c.saturating_sub-at.ensures, c.ranges.offset)
