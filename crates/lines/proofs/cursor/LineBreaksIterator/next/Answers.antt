use Rattle.std.proofs.Common.{◌∷◌, length, None, refl, sym, ap, ◌∙◌, arith}
use Rattle.lines.specs.Breaks.{seen, breaks, next_break_lem, breaks_left}
use Rattle.lines.proofs.Finding.{told_whole_lem, ends_within, over}
use Rattle.lines.proofs.Giving.{gives_next, gives_none, progress}
use Rattle.lines.proofs.cursor.LineBreaksIterator.next.Goals as goal

pub invariant_of-self-2 : goal.invariant_of-self-2
invariant_of-self-2 c =
    let self = c.args.self.now in
    let told = c.in-Some.ensures ∙ ap (λ t. next_break_lem (breaks (seen t)) self.at) c.bytes.ensures in
    record { within = omega (arith, c.next_line_start-self.ensures, ends_within self.input.slice.now self.at self.input.short c.in-Some.found told) }

pub returns-in_default : goal.returns-in_default
returns-in_default c =
    let self = c.args.self.now in
    let t = self.input.slice.now in
    let told = told_whole_lem t self.at self.input.short _ (c.in_default.ensures ∙ ap (λ t. next_break_lem (breaks (seen t)) self.at) c.bytes.ensures) in
    let end = ap length c.bytes-in_default.ensures in
    let first = gives_none t self.at _ told end in
    record {
      steps = record { first = first; told = told; stands = end; over = ap (next_break_lem (breaks t)) end ∙ over t; input = refl };
      goes = progress _ _ None first;
    }

pub returns : goal.returns
returns c =
    let self = c.args.self.now in
    let t = self.input.slice.now in
    let told = told_whole_lem t self.at self.input.short _ (c.in-Some.ensures ∙ ap (λ t. next_break_lem (breaks (seen t)) self.at) c.bytes.ensures) in
    let first = gives_next t self.at c.in-Some.found told ∙ ap (λ at. c.in-Some.found ∷ breaks_left (breaks t) at) (sym c.next_line_start-self.ensures) in
    record {
      steps = record { first = first; told = told; stands = c.next_line_start-self.ensures; over = tt; input = refl };
      goes = progress _ _ _ first;
    }
