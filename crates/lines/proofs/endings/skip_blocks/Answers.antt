use Rattle.std.proofs.Common.{rules, ◌*◌, ◌≤◌, ◌<◌, ◌+◌, ◌^◌, length, arith}
use Rattle.lines.proofs.Blocks.{clear_within, clear_passed}
use Rattle.lines.proofs.endings.skip_blocks.Goals as goal

within : (c : goal.After-clear_blocks) → c.args.from + 256 * c.clear_blocks.result ≤ length c.args.text.now
within c = clear_within c.args.text.now c.args.from c.requires _ c.as_chunks.ensures.front _ c.clear_blocks.ensures

short : (c : goal.After-clear_blocks) → length c.args.text.now < 2 ^ 64
short c = search rules

pub overflow_mul-result : goal.overflow_mul-result
overflow_mul-result c = omega (arith, within c, short c)

pub overflow_add-result : goal.overflow_add-result
overflow_add-result c = omega (arith, within c, short c)

pub returns-clause-within : goal.returns-clause-within
returns-clause-within c = within c

pub returns-clause-passed : goal.returns-clause-passed
returns-clause-passed c = clear_passed c.args.text.now c.args.from c.requires _ c.as_chunks.ensures.front _ c.clear_blocks.ensures
