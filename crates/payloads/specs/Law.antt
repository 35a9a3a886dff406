-- What holds of every fresh reading, in the words of its reader. Assumes nothing.
use Rattle.std.specs.Prelude.{◌≡◌, ℕ, ◌+◌, ◌-◌, ◌≤◌, List, take, drop}
use Rattle.std.specs.Option.{option_map}
use Rattle.lines.specs.Breaks.{place}
use Rattle.lines.specs.Payloads.{Payload, look_up}
use Rattle.lines.specs.Spans.{span_of}
use Rattle.lines.specs.declared.records.Context.{Context}
use Rattle.lines.specs.declared.records.Place.{Place}
use Rattle.lines.specs.declared.records.SourceSpan.{SourceSpan}
use Rattle.payloads.specs.Readings.{reading}

-- no lines before and none after
abbrev pub bare : Context
bare = record { before = 0; after = 0 }

-- the line and column that a payload says it starts at
abbrev pub start_place : Payload → Place
start_place p = record { line = p.numbers.line; column = p.numbers.column }

-- an offset from the payload's start to its end
pub record Within (p : Payload) (x : ℕ) : Type 0 where
  pub from : p.numbers.start ≤ x
  pub to : x ≤ p.numbers.start + p.numbers.length

-- at every offset of the payload, its look-up, the place by the text, and what a fresh reading of no length without
-- context says there are one
pub record Agrees (t : List ℕ) (p : Payload) : Type 0 where
  pub looked_up : (x : ℕ) → Within p x → look_up p x ≡ place t x
  pub read_there : (x : ℕ) → Within p x → option_map start_place (reading t (span_of x 0) bare) ≡ place t x

-- the payload holds every byte of the span
pub record Holds (t : List ℕ) (span : SourceSpan) (p : Payload) : Type 0 where
  pub from : p.numbers.start ≤ span.offset
  pub to : span.offset + span.length ≤ p.numbers.start + p.numbers.length
  pub each : take span.length (drop (span.offset - p.numbers.start) p.bytes) ≡ take span.length (drop span.offset t)
