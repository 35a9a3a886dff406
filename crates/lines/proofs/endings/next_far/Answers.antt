use Rattle.std.proofs.Common.{◌≡◌, ◌+◌, ◌≤◌, min, length, ◌∙◌, arith}
use Rattle.lines.specs.Endings.{next_ending_lem}
use Rattle.lines.proofs.Seeking.{in_part, passes_to}
use Rattle.lines.proofs.endings.next_far.Goals as goal

pub returns-then-found-near : goal.returns-then-found-near
returns-then-found-near c =
    let n = c.min.result in
    omega (arith, c.next_by_16-found.ensures, in_part c.args.text.now c.args.from n (omega (arith, c.min.ensures, c.requires)), c.if-found-near.true)

pub returns : goal.returns
returns c =
    let t = c.args.text.now in
    let i = c.args.from in
    let n = c.min.result in
    let fits : i + n ≤ length t = omega (arith, c.min.ensures, c.requires) in
    let found : c.next_by_16-found.result ≡ min (next_ending_lem t i) (i + n) = c.next_by_16-found.ensures ∙ in_part t i n fits in
    c.next_by_16.ensures ∙ c.skip_blocks.ensures.passed ∙ passes_to t i n _ fits found (omega (arith, c.if-found-near.false))
