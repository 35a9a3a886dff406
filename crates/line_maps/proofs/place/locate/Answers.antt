use Rattle.std.proofs.Common.{◌≡◌, sym, ◌∙◌}
use Rattle.lines.specs.Breaks.{breaks, lowered, line_of}
use Rattle.line_maps.proofs.Spots.{index_is, starts, low_some, low_none, start_low, located}
use Rattle.line_maps.proofs.place.locate.Given as given
use Rattle.line_maps.proofs.place.locate.Goals as goal
use Rattle.line_maps.proofs.place.locate.Goals.{in-Some, in-None}

pub returns-in_err-start : goal.returns-in_err-start
returns-in_err-start g c =
    let t = g.M.LineMap.text c.args.map.now in
    absurd (starts t c.args.offset _ (index_is t c.args.offset _ (sym c.line_index_of.ensures ∙ c.in_ok-line.was)).1 (sym c.line_start_of.ensures ∙ c.in_err-start.was))

on_line : (g : given.Over) (c : goal.After-row_known-1 g) → c.in_ok-line.line ≡ line_of (breaks (g.M.LineMap.text c.args.map.now)) c.args.offset
on_line g c = (index_is (g.M.LineMap.text c.args.map.now) c.args.offset _ (sym c.line_index_of.ensures ∙ c.in_ok-line.was)).1

low : (g : given.Over) (c : goal.After-row_known-1 g) → c.match-break_ending_line.at ≡ lowered (breaks (g.M.LineMap.text c.args.map.now)) c.args.offset
low g c =
    let t = g.M.LineMap.text c.args.map.now in
    elim c.match-break_ending_line.branch [
      | in-Some w ↦ w.at-is ∙ w.min-at.ensures ∙ low_some t c.args.offset _ (on_line g c) _ (sym c.break_ending_line.ensures.told ∙ w.in-Some.is)
      | in-None w ↦ w.at-is ∙ low_none t c.args.offset _ (on_line g c) (sym c.break_ending_line.ensures.told ∙ w.in-None.is)
    ]

pub overflow_sub-result : goal.overflow_sub-result
overflow_sub-result g c = start_low (g.M.LineMap.text c.args.map.now) c.args.offset _ (on_line g c) _ _ (sym c.line_start_of.ensures ∙ c.in_ok-start.was) (low g c)

pub returns : goal.returns
returns g c =
    let t = g.M.LineMap.text c.args.map.now in
    record {
      told = located t c.args.offset _ (on_line g c) _ _ (sym c.line_start_of.ensures ∙ c.in_ok-start.was) (low g c) (index_is t c.args.offset _ (sym c.line_index_of.ensures ∙ c.in_ok-line.was)).0;
      kept = c.break_ending_line.ensures.kept;
      onward = c.break_ending_line.ensures.onward;
    }
