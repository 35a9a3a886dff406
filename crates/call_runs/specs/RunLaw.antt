-- The law of runs: what holds of all that was told. Assumes nothing.
use Rattle.std.specs.Prelude.{◌≡◌, ℕ, ◌+◌, ◌≤◌, List, [], map, length, take, Some, None, Ok, Option}
use Rattle.std.specs.Borrow.{Bor}
use Rattle.std.specs.List.{All, slice_get}
use Rattle.std.specs.Option.{option_map, option_flatten}
use Rattle.lines.specs.Payloads.{Payload, payload, look_up}
use Rattle.lines.specs.Spans.{span_of}
use Rattle.lines.specs.declared.records.Context.{Context}
use Rattle.lines.specs.declared.records.SourceSpan.{SourceSpan}
use Rattle.lines.specs.declared.records.Window.{Window}
use Rattle.payloads.specs.Law.{bare, start_place, Within, Holds}
use Rattle.payloads.specs.Readings.{reading}
use Rattle.label_lines.specs.Labels.{label_of}
use Rattle.label_lines.specs.declared.label.Label.{Label}
use Rattle.answers.specs.Written.{line_or, answered}
use Rattle.call_runs.specs.Reference.{reference, HasNoBuffer, handed_in, tells, page_left}
use Rattle.call_runs.specs.declared.calls.Call.{Call}
use Rattle.call_runs.specs.declared.calls.Call.TheVariants.{Read, Locate, Answer}
use Rattle.call_runs.specs.declared.calls.PagePart.{PagePart}
use Rattle.call_runs.specs.declared.calls.Told.{Told}
use Rattle.call_runs.specs.declared.calls.Told.TheVariants.{Shown, Located, Answered}

-- the window's numbers in a payload
abbrev pub numbers_of : Payload → Window
numbers_of p = p.numbers

-- call i was a read of this span and context, and this window was told
pub record WasRead (calls : List Call) (told : List Told) (i : ℕ) (span : SourceSpan) (context : Context) (w : Option Window) : Type 0 where
  pub asked : slice_get calls i ≡ Some (Read span context)
  pub answered : slice_get told i ≡ Some (Shown w)

-- t is the text, and the page was `page` before the calls and is `left` after them
pub record Lawful (t page left : List ℕ) (calls : List Call) (told : List Told) : Type 0 where
  -- each call tells what the reference tells, and leaves its buffer as the reference does
  pub each : told ≡ tells t page calls
  pub buffers : left ≡ page_left t page calls
  -- of calls that have no buffer each tells what the reference tells of it alone, and the page stays as it came
  pub alone : All HasNoBuffer calls → told ≡ map (reference t []) calls
  pub untouched : All HasNoBuffer calls → left ≡ page
  -- what a read told gives, from the source, exactly the payload of a fresh reading: none exactly where that is none
  pub fresh : (i : ℕ) (span : SourceSpan) (context : Context) (w : Option Window) → WasRead calls told i span context w → option_flatten (option_map (payload t) w) ≡ reading t span context
  pub both_none : (i : ℕ) (span : SourceSpan) (context : Context) (w : Option Window) → WasRead calls told i span context w → reading t span context ≡ None → w ≡ None
  -- at each offset of that payload its look-up and a fresh reading there say the same, and so does a locate anywhere in the run
  pub agree : (i : ℕ) (span : SourceSpan) (context : Context) (w : Option Window) (p : Payload) (x : ℕ) → WasRead calls told i span context w → option_flatten (option_map (payload t) w) ≡ Some p → Within p x → option_map start_place (reading t (span_of x 0) bare) ≡ look_up p x
  pub located : (i j : ℕ) (span : SourceSpan) (context : Context) (w : Option Window) (p : Payload) (x : ℕ) → WasRead calls told i span context w → option_flatten (option_map (payload t) w) ≡ Some p → Within p x → slice_get calls j ≡ Some (Locate x) → slice_get told j ≡ Some (Located (look_up p x))
  -- a span wholly inside the source is answered, with data that holds every byte of it
  pub holds : (i : ℕ) (span : SourceSpan) (context : Context) (w : Option Window) → WasRead calls told i span context w → span.offset + span.length ≤ length t → (p : Payload) × (option_flatten (option_map (payload t) w) ≡ Some p) × Holds t span p
  -- what a label is answered is the line of its fresh reading's window, by the buffer as it was handed in
  pub answers : (i : ℕ) (line : Bor (List ℕ)) (part : PagePart) (label : Label) → slice_get calls i ≡ Some (Answer line part) → label_of line.now ≡ Ok label → slice_get told i ≡ Some (Answered (answered (handed_in (page_left t page (take i calls)) (Answer line part)) (line_or (option_map numbers_of (reading t label.span label.context)))))
