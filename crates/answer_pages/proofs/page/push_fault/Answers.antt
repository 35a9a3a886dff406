use Rattle.std.proofs.Common.{replicate, arith, rules}
use Rattle.answers.specs.Written.{fault_text}
use Rattle.answer_pages.proofs.Gathering.{written}
use Rattle.answer_pages.proofs.Lengths.{fault_short}
use Rattle.answer_pages.proofs.page.push_fault.Goals as goal

pub returns : goal.returns
returns c =
    let short = fault_short c.args.fault (omega arith) (omega arith) (omega arith) (omega arith) in
    let text = written (replicate 55 0) (fault_text c.args.fault) _ _ _ short c.write_fault.ensures.count c.write_fault.ensures.out c.unwrap_or-count.ensures in
    let items = rw text at c.extend_from_slice.ensures.items in
    search rules
