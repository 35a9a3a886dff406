use Rattle.std.proofs.Common.{◌≡◌, take}
use Rattle.payloads.proofs.Passing.{Passing}
use Rattle.payloads.proofs.contents.SpanContents.place_after.Given as goal

abbrev pub invariant-loop-found : goal.invariant-loop-found
invariant-loop-found l =
    let cursor = l.found-iterator in
    (cursor.input.slice.now ≡ take l.count l.self.bytes.now) × Passing cursor.input.slice.now l.count l.self.numbers.line l.self.numbers.column l.place cursor.at
