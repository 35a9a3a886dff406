use Rattle.std.proofs.Common.{rules, ◌≡◌, ◌<◌, ◌^◌, ◌*◌, ◌+◌, length, sym, ap, ◌∙◌, arith}
use Rattle.lines.specs.Endings.{next_ending_lem}
use Rattle.lines.proofs.Blocks.{block_hit, last_hit, last_miss}
use Rattle.lines.proofs.endings.next_by_16.Goals as goal

at : (c : goal.After-plain_front) → c.args.from + 16 * c.in-Some.i + c.plain_front.result ≡ next_ending_lem c.args.text.now c.args.from
at c =
    ap (λ n. c.args.from + 16 * c.in-Some.i + n) c.plain_front.ensures
    ∙ block_hit c.args.text.now c.args.from c.requires _ c.as_chunks.ensures.front c.in-Some.i (sym c.first_block.ensures ∙ c.in-Some.is)

pub overflow_add-result-in-Some : goal.overflow_add-result-in-Some
overflow_add-result-in-Some c =
    let short : length c.args.text.now < 2 ^ 64 = search rules in
    omega (arith, at c, short)

pub returns-in-Some : goal.returns-in-Some
returns-in-Some c = at c

pub returns-in-Some-first_ending : goal.returns-in-Some-first_ending
returns-in-Some-first_ending c =
    last_hit c.args.text.now c.args.from c.requires _ c.as_chunks.ensures.front _ c.as_chunks.ensures.back (sym c.first_block.ensures ∙ c.in_default.is) _ (sym c.first_ending.ensures ∙ c.in-Some-first_ending.is)

pub returns-in-None : goal.returns-in-None
returns-in-None c =
    last_miss c.args.text.now c.args.from c.requires _ c.as_chunks.ensures.front _ c.as_chunks.ensures.back (sym c.first_block.ensures ∙ c.in_default.is) (sym c.first_ending.ensures ∙ c.in-None.is)
