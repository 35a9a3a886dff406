use Rattle.std.proofs.Common.{rules}
use Rattle.lower_hex.proofs.Pairs.{digits_of_more, no_digit_left}
use Rattle.lower_hex.proofs.decode.Goals as goal

pub loop-pair-preserved : goal.loop-pair-preserved
loop-pair-preserved c = record {
  size = search rules;
  so_far = digits_of_more _ _ _ c.in-Some.pair.now _ _ c.in_ok-byte.byte c.loop-pair.invariant.so_far c.in-Some.ensures.steps.1.0 (search rules) (search rules) (search rules) c.in_ok-push.ensures.items;
}

pub returns-clause-ok : goal.returns-clause-ok
returns-clause-ok c = no_digit_left _ _ _ c.loop-pair.invariant.so_far (search rules) c.if-digits-ne0.false
