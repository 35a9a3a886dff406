use Rattle.std.proofs.Common.{ap, ◌∙◌, arith}
use Rattle.lines.specs.Breaks.{breaks, line_of}
use Rattle.lines.proofs.Giving.{line_first}
use Rattle.payloads.proofs.reader.line_start.Goals as goal

pub to_line-requires : goal.to_line-requires
to_line-requires c =
    let walk = c.new-walk.result in
    omega (arith, walk.line_is ∙ ap (line_of (breaks walk.text.slice.now)) c.new-walk.ensures.at, line_first walk.text.slice.now, c.if-line-eq0.false)
