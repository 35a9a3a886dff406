use Rattle.std.proofs.Common.{◌∙◌, Some, ap, sym, arith}
use Rattle.listing.proofs.Splitting.{at_within, from, within, next_within, next_number, next_starts, steps, ends, goes}
use Rattle.listing.proofs.split.LinesIterator.next.Goals as goal

-- at a break
pub overflow_add-self : goal.overflow_add-self
overflow_add-self c = omega (arith, next_number c.args.self.now _ c.bytes-text.ensures _ c.in_ok-start.was _ c.in-Some.ensures)

pub overflow_cast-self : goal.overflow_cast-self
overflow_cast-self c = omega (arith, c.args.self.now.text.short, c.next_line_start.ensures, next_within c.args.self.now _ c.bytes-text.ensures _ c.in_ok-start.was _ c.in-Some.ensures)

pub invariant_of-self : goal.invariant_of-self
invariant_of-self c = record { starts = next_starts c.args.self.now _ c.bytes-text.ensures _ c.in_ok-start.was _ c.in-Some.ensures ∙ ap Some (sym c.next_line_start.ensures) }

pub overflow_sub-result : goal.overflow_sub-result
overflow_sub-result c = from c.args.self.now _ c.bytes-text.ensures _ c.in_ok-start.was _ c.in-Some.ensures

pub ending_of-requires : goal.ending_of-requires
ending_of-requires c = within c.args.self.now _ c.bytes-text.ensures _ c.in_ok-start.was _ c.in-Some.ensures

pub returns-in-Some-clause-steps : goal.returns-in-Some-clause-steps
returns-in-Some-clause-steps c = steps c.args.self.now _ c.bytes-text.ensures _ c.in_ok-start.was _ c.in-Some.ensures _ _ c.ending_of.ensures c.next_line_start.ensures

pub returns-in-Some-clause-goes : goal.returns-in-Some-clause-goes
returns-in-Some-clause-goes c = goes c.args.self.now _ _ (steps c.args.self.now _ c.bytes-text.ensures _ c.in_ok-start.was _ c.in-Some.ensures _ _ c.ending_of.ensures c.next_line_start.ensures)

-- at the end
pub overflow_sub-result-in-None : goal.overflow_sub-result-in-None
overflow_sub-result-in-None c = omega (arith, c.len.ensures, at_within c.args.self.now _ c.bytes-text.ensures _ c.in_ok-start.was)

pub returns-in-None-clause-steps : goal.returns-in-None-clause-steps
returns-in-None-clause-steps c = ends c.args.self.now _ c.bytes-text.ensures _ c.in_ok-start.was c.in-None.ensures _ c.len.ensures

pub returns-in-None-clause-goes : goal.returns-in-None-clause-goes
returns-in-None-clause-goes c = goes c.args.self.now _ _ (ends c.args.self.now _ c.bytes-text.ensures _ c.in_ok-start.was c.in-None.ensures _ c.len.ensures)
