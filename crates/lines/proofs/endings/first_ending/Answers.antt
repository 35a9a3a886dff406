use Rattle.std.proofs.Common.{◌≡◌, ℕ, true, false, cond, nat_lt, length, Some, None, sym, ap, ◌∙◌, arith}
use Rattle.std.specs.List.{position_or_len}
use Rattle.std.proofs.lemmas.Bool.Decides.{nat_tests}
use Rattle.std.proofs.lemmas.List.Sums.{position_or_len_is}
use Rattle.lines.specs.LineRule.{ends_line_lem}
use Rattle.lines.proofs.endings.first_ending.Goals as goal

pub returns-then-ends_line : goal.returns-then-ends_line
returns-then-ends_line c =
    let bs = c.args.bytes.now in
    let at : position_or_len ends_line_lem bs ≡ c.loop-i.i = position_or_len_is ends_line_lem bs c.loop-i.i 0 (omega (arith, c.loop-i-test.true)) c.loop-i.invariant (λ _. sym c.ends_line.ensures ∙ c.if-ends_line.true) in
    let few : nat_lt (position_or_len ends_line_lem bs) (length bs) ≡ true = grind (arith, nat_tests, at, c.loop-i-test.true) in
    sym (ap (λ few. cond few (Some (position_or_len ends_line_lem bs)) None) few ∙ ap Some at)

pub returns : goal.returns
returns c =
    let bs = c.args.bytes.now in
    let all : c.loop-i.i ≡ length bs = omega (arith, c.loop-i-test.false) in
    let at : position_or_len ends_line_lem bs ≡ c.loop-i.i = position_or_len_is ends_line_lem bs c.loop-i.i 0 (omega (arith, all)) c.loop-i.invariant (λ lt. absurd (omega (arith, lt, all))) in
    let few : nat_lt (position_or_len ends_line_lem bs) (length bs) ≡ false = grind (arith, nat_tests, at, all) in
    sym (ap (λ few. cond few (Some (position_or_len ends_line_lem bs)) None) few)
