use Rattle.std.proofs.Common.{rules, ◌≡◌, ℕ, ◌+◌, List, drop, sym, ap, ◌∙◌, arith}
use Rattle.lines.specs.LineRule.{width}
use Rattle.payloads.proofs.Stepping.{plain_line, plain_column, line_at_end, ends_column, pair_line, pair_column}
use Rattle.payloads.proofs.Walking.{column_le, line_le, widest}
use Rattle.payloads.proofs.walk.Walk.step.Goals as goal

-- the width that was asked of the text's bytes is that of the text
wide : (w at : ℕ) (bytes text : List ℕ) → w ≡ width (drop at bytes) → bytes ≡ text → width (drop at text) ≡ w
wide w at bytes text asked same = sym (asked ∙ ap (λ t. width (drop at t)) same)

pub overflow_add-self-in-0 : goal.overflow_add-self-in-0
overflow_add-self-in-0 c = let self = c.args.self.now in omega (arith, self.column_is, column_le self.text.slice.now self.at, self.text.short, c.requires)

pub overflow_add-self-in-1 : goal.overflow_add-self-in-1
overflow_add-self-in-1 c =
    let self = c.args.self.now in
    let last : width (drop self.at self.text.slice.now) ≡ 1 = wide _ _ _ _ c.break_width-width.ensures c.bytes.ensures ∙ c.in-1.is in
    omega (arith, self.line_is, line_at_end self.text.slice.now self.at c.requires last, line_le self.text.slice.now (self.at + 1), self.text.short)

pub invariant_of-self : goal.invariant_of-self
invariant_of-self c =
    let self = c.args.self.now in
    let plain = wide _ _ _ _ c.break_width-width.ensures c.bytes.ensures ∙ c.in-0.is in
    record {
      within = omega (arith, c.requires);
      line_is = self.line_is ∙ sym (plain_line self.text.slice.now self.at c.requires plain);
      column_is = ap (λ n. n + 1) self.column_is ∙ sym (plain_column self.text.slice.now self.at c.requires plain);
    }

pub invariant_of-self-in-1 : goal.invariant_of-self-in-1
invariant_of-self-in-1 c =
    let self = c.args.self.now in
    let last = wide _ _ _ _ c.break_width-width.ensures c.bytes.ensures ∙ c.in-1.is in
    record {
      within = omega (arith, c.requires);
      line_is = ap (λ n. n + 1) self.line_is ∙ sym (line_at_end self.text.slice.now self.at c.requires last);
      column_is = sym (ends_column self.text.slice.now self.at c.requires last);
    }

pub invariant_of-self-in_default : goal.invariant_of-self-in_default
invariant_of-self-in_default c =
    let self = c.args.self.now in
    let pair = widest (drop self.at self.text.slice.now) _ (sym (wide _ _ _ _ c.break_width-width.ensures c.bytes.ensures)) (search rules) (search rules) in
    record {
      within = omega (arith, c.requires);
      line_is = self.line_is ∙ sym (pair_line self.text.slice.now self.at c.requires pair);
      column_is = self.column_is ∙ sym (pair_column self.text.slice.now self.at c.requires pair);
    }
