use Rattle.std.proofs.Common.{take, sym, ap, ◌∙◌}
use Rattle.std.proofs.lemmas.List.{take_all}
use Rattle.std.proofs.lemmas.List.Sums.{fold_more}
use Rattle.c_boundary.specs.Rows.{hashed, hash_of}
use Rattle.c_boundary.proofs.hash.Goals as goal

pub loop-byte-preserved : goal.loop-byte-preserved
loop-byte-preserved c =
    ap (λ h. hashed h c.from.result) c.loop-byte.invariant
    ∙ ap (hashed (hash_of (take c.loop-byte.byte-index c.args.bytes.now))) c.from.ensures
    ∙ sym (fold_more hashed 2166136261 c.args.bytes.now c.loop-byte.byte-index 0 c.loop-byte-test.true)

pub returns : goal.returns
returns c = c.loop-byte.invariant ∙ ap hash_of (take_all _ _ c.loop-byte-test.false)
