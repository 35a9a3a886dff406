use Rattle.std.proofs.Common.{◌≡◌, ◌+◌, min, max, length, Some, sym, refl, ap, ◌∙◌, subst, arith}
use Rattle.lines.specs.Breaks.{breaks, break_ending, line_of, past}
use Rattle.lines.specs.Windows.{window_end_lem}
use Rattle.payloads.proofs.Whole.{ended}
use Rattle.line_maps.proofs.Nearing.{Near, near_first, near_span, near_after, few_breaks, below, ends_cut, ends_after, none_cut, none_all}
use Rattle.line_maps.proofs.reading.close.Given as given
use Rattle.line_maps.proofs.reading.close.Goals as goal
use Rattle.line_maps.proofs.reading.close.Goals.{In-Some, then-found-end, else-found-end+else-after-eq0-2+else-left-eq0, in-None+then-after-eq0, in-None+else-after-eq0, in-Some+else-found-end+then-after-eq0-2, in-Some+else-found-end+else-after-eq0-2+then-left-eq0}

pub loop-next-init : goal.loop-next-init
loop-next-init g c = (refl, omega arith, c.requires.found, near_first (g.M.LineMap.text c.args.map.now) c.args.end c.args.after c.args.line c.requires.line)

-- the break at hand
is : (g : given.Over) (c : In-Some g) → break_ending (breaks (g.M.LineMap.text c.args.map.now)) c.loop-next.passed ≡ Some c.in-Some.found
is g c = sym c.loop-next.invariant.2 ∙ c.in-Some.is

pub overflow_add-passed : goal.overflow_add-passed
overflow_add-passed g c = let t = g.M.LineMap.text c.args.map.now in omega (arith, g.M.LineMap.short c.args.map.now, few_breaks t c.args.end c.loop-next.invariant.3 c.in-Some.found (is g (goal.at.overflow_add-passed g c).In-Some))

pub overflow_add-passed-in-loop-next : goal.overflow_add-passed-in-loop-next
overflow_add-passed-in-loop-next g c = let t = g.M.LineMap.text c.args.map.now in omega (arith, g.M.LineMap.short c.args.map.now, few_breaks t c.args.end c.loop-next.invariant.3 c.in-Some.found (is g (goal.at.overflow_add-passed-in-loop-next g c).In-Some))

pub loop-next-smaller : goal.loop-next-smaller
loop-next-smaller g c = let t = g.M.LineMap.text c.args.map.now in omega (arith, below t c.args.end c.loop-next.invariant.3 c.in-Some.found (is g (goal.at.loop-next-smaller g c).In-Some))

pub loop-next-preserved : goal.loop-next-preserved
loop-next-preserved g c =
    let t = g.M.LineMap.text c.args.map.now in
    let at = is g (goal.at.loop-next-preserved g c).In-Some in
    let old = c.loop-next.invariant in (
      c.break_ending_line-next.ensures.kept ∙ old.0,
      omega (arith, old.1, c.break_ending_line-next.ensures.onward),
      c.break_ending_line-next.ensures.told ∙ ap (λ t. break_ending (breaks t) (c.loop-next.passed + 1)) old.0,
      elim c.if-found-end.branch [
        | then-found-end w ↦
            subst (λ cut. Near t c.args.end c.args.after (c.loop-next.passed + 1) cut c.if-found-end.left) (sym (w.cut-is ∙ w.max-cut.ensures ∙ ap (max c.loop-next.cut) w.next_line_start.ensures))
            (subst (λ left. Near t c.args.end c.args.after (c.loop-next.passed + 1) (max c.loop-next.cut (past c.in-Some.found)) left) (sym w.left-is) (near_span t c.args.end old.3 c.in-Some.found at w.if-found-end.true))
        | else-found-end+else-after-eq0-2+else-left-eq0 w ↦
            subst (λ cut. Near t c.args.end c.args.after (c.loop-next.passed + 1) cut c.if-found-end.left) (sym w.cut-is)
            (subst (λ left. Near t c.args.end c.args.after (c.loop-next.passed + 1) c.loop-next.cut left) (sym w.left-is) (near_after t c.args.end old.3 c.in-Some.found at w.if-found-end.false w.if-after-eq0-2.false w.if-left-eq0.false))
      ],
    )

-- what the search yielded
closed : (g : given.Over) (c : goal.After-row_known-1 g) → (c.match-next.window_end ≡ window_end_lem (length (g.M.LineMap.text c.args.map.now)) (breaks (g.M.LineMap.text c.args.map.now)) c.args.end c.args.after) × (c.match-next.passed ≡ line_of (breaks (g.M.LineMap.text c.args.map.now)) (window_end_lem (length (g.M.LineMap.text c.args.map.now)) (breaks (g.M.LineMap.text c.args.map.now)) c.args.end c.args.after))
closed g c =
    let t = g.M.LineMap.text c.args.map.now in
    let old = c.loop-next.invariant in
    elim c.match-next.branch [
      | in-None+then-after-eq0 w ↦
          (let end = none_cut t c.args.end old.3 (sym old.2 ∙ w.in-None.is) w.if-after-eq0.true in
          (w.window_end-is ∙ w.min.ensures ∙ ap (min c.loop-next.cut) c.requires.total ∙ end.0, w.passed-is ∙ end.1))
      | in-None+else-after-eq0 w ↦
          (let end = none_all t c.args.end old.3 (sym old.2 ∙ w.in-None.is) w.if-after-eq0.false in
          (w.window_end-is ∙ c.requires.total ∙ end.0, w.passed-is ∙ end.1))
      | in-Some+else-found-end+then-after-eq0-2 w ↦
          (let end = ends_cut t c.args.end old.3 w.in-Some.found (sym old.2 ∙ w.in-Some.is) w.if-found-end.false w.if-after-eq0-2.true in
          (w.window_end-is ∙ end.0, w.passed-is ∙ end.1))
      | in-Some+else-found-end+else-after-eq0-2+then-left-eq0 w ↦
          (let end = ends_after t c.args.end old.3 w.in-Some.found (sym old.2 ∙ w.in-Some.is) w.if-found-end.false w.if-after-eq0-2.false w.if-left-eq0.true in
          (w.window_end-is ∙ w.next_line_start-then-left-eq0.ensures ∙ end.0, w.passed-is ∙ end.1))
    ]

pub overflow_cast-result : goal.overflow_cast-result
overflow_cast-result g c = let t = g.M.LineMap.text c.args.map.now in omega (arith, (closed g c).0, (ended t c.args.end c.args.after).within, g.M.LineMap.short c.args.map.now)

pub returns : goal.returns
returns g c =
    let t = g.M.LineMap.text c.args.map.now in
    let end = closed g c in
    record { end = end.0; lines = end.1 ∙ ap (line_of (breaks t)) (sym end.0); kept = c.loop-next.invariant.0; onward = c.loop-next.invariant.1 }
