use Rattle.std.proofs.Common.{length, sym, ◌∙◌, arith}
use Rattle.lines.specs.Breaks.{breaks}
use Rattle.lines.proofs.BreakLaws.{lies}
use Rattle.lines.proofs.Finding.{rising}
use Rattle.line_maps.proofs.plain.PlainScanLineMap.line_start_of.Goals as goal

pub overflow_add-result : goal.overflow_add-result
overflow_add-result c =
    let source = c.args.self.now.source in
    let t = source.slice.now in
    omega (arith, source.short, (lies 0 (breaks t) (length t) (rising t) _ _ (sym c.nth_break.ensures ∙ c.in_ok-found.was)).within)
