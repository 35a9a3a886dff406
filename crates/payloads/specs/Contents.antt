-- What a SpanContents stands for. Assumes nothing.
use Rattle.lines.specs.Payloads.{Payload}
use Rattle.payloads.specs.declared.contents.SpanContents.{SpanContents}

-- the payload: the numbers of its window, and its bytes
abbrev pub shown : SpanContents → Payload
shown p = record { numbers = p.numbers; bytes = p.bytes.now }
