use Rattle.std.proofs.Common.{◌≡◌, ◌+◌, ◌*◌, ◌≤◌, ◌++◌, length, take, codes, decimal}
use Rattle.std.specs.List.{flat_map}
use Rattle.answers.proofs.row.row.Given as goal

abbrev pub invariant-loop-number : goal.invariant-loop-number
invariant-loop-number l = record {
  text : l.row.bytes ≡ l.first ++ flat_map (λ n. codes "," ++ decimal n) (take l.number-index l.fn.numbers);
  len : length l.row.bytes ≤ 10 + 11 * l.number-index;
}
