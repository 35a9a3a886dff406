use Rattle.std.proofs.Common.{◌<◌, ◌≤◌, map, length, sym, ap, ◌∙◌, arith}
use lib.Count.{count_trailing_zeros}
use lib.Lanes.{mask_l}
use Rattle.std.proofs.lemmas.Simd.{trailing_mask_l, leading_from_mask_l}
use Rattle.lines.specs.LineRule.{ends_line_lem}
use Rattle.lines.proofs.endings.plain_front.Goals as goal

pub returns-then-endings-eq0 : goal.returns-then-endings-eq0
returns-then-endings-eq0 c = sym (leading_from_mask_l ends_line_lem c.args.block.now (sym c.endings_mask-endings.ensures ∙ c.if-endings-eq0.true) ∙ c.told-block)

pub returns-else-endings-eq0 : goal.returns-else-endings-eq0
returns-else-endings-eq0 c =
    let is = c.endings_mask-endings.ensures in
    let short : length c.args.block.now ≤ 64 = omega (arith, c.told-block) in
    let some : 0 < mask_l (map ends_line_lem c.args.block.now) = omega (arith, is, c.if-endings-eq0.false) in
    ap (count_trailing_zeros 64) is ∙ trailing_mask_l ends_line_lem 64 c.args.block.now short some
