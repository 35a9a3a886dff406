use Rattle.std.proofs.Common.{◌≡◌, take, sym, ap, ◌∙◌, arith, rules}
use Rattle.std.proofs.lemmas.List.{drop_more, length-take}
use Rattle.call_runs.specs.declared.calls.Call.{Call}
use Rattle.call_runs.proofs.Lawfully.{lawful}
use Rattle.call_runs.proofs.Served.{served_more, all_told, all_left}
use Rattle.call_runs.proofs.run.run.Goals as goal

pub loop-i-preserved : goal.loop-i-preserved
loop-i-preserved g c = record {
  kept = c.serve.ensures.kept ∙ c.loop-i.invariant.kept;
  served = served_more c.loop-i.invariant.served _ (search (rules, drop_more)) (omega (arith, length-take {A = Call})) _ c.loop-i.invariant.kept _ _ _ c.serve.ensures.told c.serve.ensures.page c.serve.ensures.moved;
}

pub returns-clause-law : goal.returns-clause-law
returns-clause-law g c =
    let all : c.loop-i.i ≡ c.min-count.result = omega (arith, length-take {A = Call}) in
    lawful _ _ _ _ _ (sym (ap (λ i. take i c.loop-i.told) all) ∙ all_told c.loop-i.invariant.served c.loop-i-test.false) (all_left c.loop-i.invariant.served c.loop-i-test.false)
