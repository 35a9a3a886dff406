use Rattle.std.proofs.Common.{◌≡◌, ◌+◌, ◌≤◌, length, take, ap, ◌∙◌, arith}
use Rattle.std.specs.List.{prefix_len}
use Rattle.std.proofs.lemmas.List.{take_rest, length-drop}
use Rattle.lines.specs.Endings.{is_plain}
use Rattle.lines.proofs.Seeking.{in_front, passes_to}
use Rattle.lines.proofs.endings.next_ending.Goals as goal

pub returns : goal.returns
returns c =
    let t = c.args.text.now in
    let i = c.args.from in
    let chunk = c.in-Some.ensures.cases in
    let fits : i + 16 ≤ length t = omega (arith, chunk.enough, ap length (take_rest t i), length-drop i t, c.if-from-text.false) in
    let front = in_front t i 16 c.plain_front-front.result fits (c.plain_front-front.ensures ∙ ap (prefix_len is_plain) (chunk.same ∙ ap (take 16) (take_rest t i))) in
    c.next_far.ensures ∙ passes_to t i 16 _ fits front (omega (arith, c.if-front-lt16.false))
