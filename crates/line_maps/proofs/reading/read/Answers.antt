use Rattle.std.proofs.Common.{◌≡◌, ◌+◌, ◌≤◌, length, sym, ap, ◌∙◌, arith}
use Rattle.lines.specs.Breaks.{breaks, break_ending}
use Rattle.lines.specs.Windows.{window_start, window_end_lem}
use Rattle.line_maps.proofs.WindowRead.{line_kept, line_below, start_end}
use Rattle.line_maps.proofs.reading.read.Given as given
use Rattle.line_maps.proofs.reading.read.Goals as goal
use Rattle.line_maps.proofs.reading.read.Goals.{else-context-eq0-via-then-context-eq0+else-offset-length, else-context-eq0-via-else-context-eq0}

pub open-requires : goal.open-requires
open-requires g c = let m = g.M.LineMap in record {
  line = line_kept (m.text c.args.map.now) (m.text c.cover.new.self) (m.text c.break_ending_line-found.new.self) c.offset-offset.result c.length-length.result c.min.result c.in_ok-line.line c.length-length.ensures c.cover.ensures.kept c.break_ending_line-found.ensures.kept c.min.ensures (sym c.line_index_of.ensures ∙ c.in_ok-line.was);
  found = c.break_ending_line-found.ensures.told ∙ ap (λ t. break_ending (breaks t) c.in_ok-line.line) (sym c.break_ending_line-found.ensures.kept);
}

pub close-last-requires : goal.close-last-requires
close-last-requires g c =
    let m = g.M.LineMap in
    let on = line_kept (m.text c.args.map.now) (m.text c.cover.new.self) (m.text c.break_ending_line-found.new.self) c.offset-offset.result c.length-length.result c.min.result c.in_ok-line.line c.length-length.ensures c.cover.ensures.kept c.break_ending_line-found.ensures.kept c.min.ensures (sym c.line_index_of.ensures ∙ c.in_ok-line.was) in
    record {
      total = c.length-length.ensures ∙ ap length (sym (c.break_ending_line-found.ensures.kept ∙ c.cover.ensures.kept));
      end = c.if-end-length.false;
      line = line_below (m.text c.break_ending_line-found.new.self) c.offset-offset.result _ c.in_ok-line.line (omega arith) on;
      found = c.break_ending_line-found.ensures.told ∙ ap (λ t. break_ending (breaks t) c.in_ok-line.line) (sym c.break_ending_line-found.ensures.kept);
    }

-- the texts are one, and the spans too
start_is : (g : given.Over) (c : goal.After-struct_known-3-1 g) → c.in_ok-first.first.start ≡ window_start (breaks (g.M.LineMap.text c.args.map.now)) c.args.span.offset c.args.context.before
start_is g c =
    c.in_ok-first.ensures.told.0
    ∙ ap (λ t. window_start (breaks t) c.offset-offset.result c.args.context.before) (c.break_ending_line-found.ensures.kept ∙ c.cover.ensures.kept)
    ∙ ap (λ o. window_start (breaks (g.M.LineMap.text c.args.map.now)) o c.args.context.before) c.offset-offset.ensures

end_is : (g : given.Over) (c : goal.After-struct_known-3-1 g) → c.close-last.result.end ≡ window_end_lem (length (g.M.LineMap.text c.args.map.now)) (breaks (g.M.LineMap.text c.args.map.now)) (c.args.span.offset + c.args.span.length) c.args.context.after
end_is g c =
    let t = g.M.LineMap.text c.args.map.now in
    c.close-last.ensures.end
    ∙ ap (λ t. window_end_lem (length t) (breaks t) (c.offset-offset.result + c.len.result) c.args.context.after) (c.break_ending_line-found.ensures.kept ∙ c.cover.ensures.kept)
    ∙ ap (λ o. window_end_lem (length t) (breaks t) (o + c.len.result) c.args.context.after) c.offset-offset.ensures
    ∙ ap (λ l. window_end_lem (length t) (breaks t) (c.args.span.offset + l) c.args.context.after) c.len.ensures

fits : (g : given.Over) (c : goal.After-struct_known-3-1 g) → c.args.span.offset + c.args.span.length ≤ length (g.M.LineMap.text c.args.map.now) + 1
fits g c = omega (arith, c.if-end-length.false, c.offset-offset.ensures, c.len.ensures, c.length-length.ensures)

inner : (g : given.Over) (c : goal.After-struct_known-3-1 g) → c.args.context.before ≡ 0 → c.args.span.offset ≤ length (g.M.LineMap.text c.args.map.now)
inner g c none = elim c.else-context-eq0.branch [
  | else-context-eq0-via-then-context-eq0+else-offset-length w ↦ omega (arith, w.if-offset-length.false, c.offset-offset.ensures, c.length-length.ensures)
  | else-context-eq0-via-else-context-eq0 w ↦ absurd (w.if-context-eq0.false none)
]

pub overflow_sub-result : goal.overflow_sub-result
overflow_sub-result g c = start_end (g.M.LineMap.text c.args.map.now) c.args.span c.args.context (fits g c) (inner g c) c.in_ok-first.first.start 0 0 c.close-last.result.end 0 (start_is g c) (end_is g c)
