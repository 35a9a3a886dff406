use Rattle.std.proofs.Common.{◌≡◌, ℕ, ◌+◌, ◌≤◌, List, length, IfSome, Some, None, Option, ap, ◌∙◌, MatchOption}
use Rattle.std.specs.Option.{option_map}
use Rattle.lines.specs.Breaks.{seen}
use Rattle.lines.specs.declared.records.Context.{Context}
use Rattle.lines.specs.declared.records.SourceSpan.{SourceSpan}
use Rattle.payloads.specs.Contents.{shown}
use Rattle.payloads.specs.Law.{Agrees, Holds}
use Rattle.payloads.specs.Readings.{reading}
use Rattle.payloads.specs.declared.contents.SpanContents.{SpanContents}
use Rattle.payloads.proofs.Whole.{read_agrees, read_answers, read_holds}
use Rattle.payloads.proofs.reader.fresh_reading.Goals as goal

-- by what was answered
module _ (t : List ℕ) (span : SourceSpan) (context : Context) where
  agrees : (r : Option SpanContents) → option_map shown r ≡ reading t span context → IfSome r (λ p. Agrees t (shown p))
  agrees None is = tt
  agrees (Some p) is = read_agrees t span context (shown p) is

  holds : span.offset + span.length ≤ length t → (r : Option SpanContents) → option_map shown r ≡ reading t span context → MatchOption r ⊥ (λ p. Holds t span (shown p))
  holds inner None is = read_answers t span context inner is
  holds inner (Some p) is = read_holds t span context inner (shown p) is

pub returns : goal.returns
returns c =
    let t = seen c.args.source.now in
    let told : option_map shown c.read.result ≡ reading t c.args.span c.args.context =
    c.read.ensures
    ∙ ap (λ t. reading t c.new.result.span c.new.result.context) c.new.ensures.input
    ∙ ap (λ s. reading t s c.new.result.context) c.new.ensures.span
    ∙ ap (reading t c.args.span) c.new.ensures.context in
    record { told = told; agrees = agrees t c.args.span c.args.context c.read.result told; holds = λ inner. holds t c.args.span c.args.context inner c.read.result told }
