use Rattle.std.proofs.Common.{◌≡◌, ◌-◌, ap, ◌∙◌, arith}
use Rattle.lines.specs.Breaks.{breaks, line_of}
use Rattle.lines.specs.Windows.{window_line}
use Rattle.payloads.proofs.Ends.{line_min, open_start, open_column, open_upto}
use Rattle.payloads.proofs.reader.open.Goals as goal

pub returns : goal.returns
returns c =
    let walk = c.args.walk.now in
    let t = walk.text.slice.now in
    let line : c.saturating_sub-line.result ≡ window_line (breaks t) c.args.offset c.args.before =
    c.saturating_sub-line.ensures ∙ ap (λ k. k - c.args.before) (walk.line_is ∙ ap (line_of (breaks t)) c.requires.at ∙ line_min t c.args.offset) in
    record {
      start = open_start t c.args.offset c.args.before _ _ c.if-before-eq0.false line c.line_start.ensures;
      line = line;
      column = open_column t c.args.offset c.args.before _ _ c.if-before-eq0.false line c.line_start.ensures;
      upto = omega (arith, c.requires.at, open_upto t c.args.offset c.args.before _ _ c.if-before-eq0.false line c.line_start.ensures);
    }
