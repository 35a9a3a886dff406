-- What a reading of one span answers. Assumes nothing.
use Rattle.std.specs.Prelude.{ℕ, List, Option}
use Rattle.std.specs.Option.{option_map, option_flatten}
use Rattle.lines.specs.Payloads.{Payload, payload}
use Rattle.lines.specs.Windows.{window}
use Rattle.lines.specs.declared.records.Context.{Context}
use Rattle.lines.specs.declared.records.SourceSpan.{SourceSpan}

-- the payload of the span's window, none where there is no window
abbrev pub reading : List ℕ → SourceSpan → Context → Option Payload
reading t span context = option_flatten (option_map (payload t) (window t span context))
