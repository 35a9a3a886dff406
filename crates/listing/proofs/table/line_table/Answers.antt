use Rattle.std.proofs.Common.{◌^◌, ◌∷◌, [], ◌++◌, sym, ap, ◌∙◌, subst, append_assoc, arith}
use Rattle.std.proofs.lemmas.Grind.{common_steps}
use Rattle.lines.proofs.Finding.{few_seen}
use Rattle.lines.specs.Breaks.{seen}
use Rattle.listing.specs.Table.{IsBelow, counted}
use Rattle.listing.proofs.Counting.{tally_of_more, counts_fit}
use Rattle.listing.proofs.table.line_table.Goals as goal

pub count-requires : goal.count-requires
count-requires c = subst (IsBelow (2 ^ 33)) (sym c.loop-line.invariant.counts) (counts_fit (seen c.args.source.now) c.loop-line.yielded _ (few_seen c.args.source.now) c.loop-line.invariant.all)

pub loop-line-preserved : goal.loop-line-preserved
loop-line-preserved c = record {
  all = append_assoc c.loop-line.yielded (c.in-Some.line ∷ []) _ ∙ ap (λ left. c.loop-line.yielded ++ left) (sym c.in-Some.ensures.steps) ∙ c.loop-line.invariant.all;
  rows = grind (arith, common_steps, c.loop-line.invariant.rows, c.in_ok-writeln.ensures.bytes);
  counts = c.count.ensures ∙ ap (λ tally. counted tally c.in-Some.line.ending) c.loop-line.invariant.counts ∙ tally_of_more c.loop-line.yielded c.in-Some.line;
}
