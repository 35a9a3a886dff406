use Rattle.std.proofs.Common.{◌≡◌, ◌-◌, length, unwrap_or, sym, ap, ◌∙◌, arith}
use Rattle.lines.specs.Breaks.{breaks, line_start_lem, lowered}
use Rattle.lines.specs.Windows.{window_line}
use Rattle.payloads.proofs.Ends.{open_start, open_column}
use Rattle.line_maps.proofs.Spots.{starts, starts_above, low_some, low_none, start_low, open_bare}
use Rattle.line_maps.proofs.reading.open.Given as given
use Rattle.line_maps.proofs.reading.open.Goals as goal
use Rattle.line_maps.proofs.reading.open.Goals.{in-Some, in-None}

pub returns-in_err-start : goal.returns-in_err-start
returns-in_err-start g c = absurd (starts (g.M.LineMap.text c.args.map.now) c.args.offset c.args.line c.requires.line (sym c.line_start_of.ensures ∙ c.in_err-start.was))

low : (g : given.Over) (c : goal.After-row_known-1 g) → c.match-found.at ≡ lowered (breaks (g.M.LineMap.text c.args.map.now)) c.args.offset
low g c =
    let t = g.M.LineMap.text c.args.map.now in
    elim c.match-found.branch [
      | in-Some w ↦ w.at-is ∙ w.min-at.ensures ∙ low_some t c.args.offset c.args.line c.requires.line _ (sym c.requires.found ∙ w.in-Some.is)
      | in-None w ↦ w.at-is ∙ low_none t c.args.offset c.args.line c.requires.line (sym c.requires.found ∙ w.in-None.is)
    ]

pub overflow_sub-result : goal.overflow_sub-result
overflow_sub-result g c = start_low (g.M.LineMap.text c.args.map.now) c.args.offset c.args.line c.requires.line _ _ (sym c.line_start_of.ensures ∙ c.in_ok-start.was) (low g c)

pub returns-then-before-eq0 : goal.returns-then-before-eq0
returns-then-before-eq0 g c = record { told = open_bare (g.M.LineMap.text c.args.map.now) c.args.offset c.args.line c.requires.line _ _ (sym c.line_start_of.ensures ∙ c.in_ok-start.was) (low g c) c.args.before c.if-before-eq0.true }

pub returns-in_err-start-2 : goal.returns-in_err-start-2
returns-in_err-start-2 g c =
    absurd (starts_above (g.M.LineMap.text c.args.map.now) c.args.offset _ (omega (arith, c.saturating_sub-first.ensures, c.requires.line)) (sym c.line_start_of-2.ensures ∙ c.in_err-start-2.was))

pub returns : goal.returns
returns g c =
    let t = g.M.LineMap.text c.args.map.now in
    let line : c.saturating_sub-first.result ≡ window_line (breaks t) c.args.offset c.args.before = c.saturating_sub-first.ensures ∙ ap (λ k. k - c.args.before) c.requires.line in
    let start : c.in_ok-start-2.start ≡ unwrap_or (line_start_lem (breaks t) c.saturating_sub-first.result) (length t) = sym (ap (λ s. unwrap_or s (length t)) (sym c.line_start_of-2.ensures ∙ c.in_ok-start-2.was)) in
    record {
      told = (open_start t c.args.offset c.args.before _ _ c.if-before-eq0.false line start, line, open_column t c.args.offset c.args.before _ _ c.if-before-eq0.false line start);
    }
