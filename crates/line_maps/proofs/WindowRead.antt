-- What a read has found of a window, and that this is the window. Assumes nothing.
use Rattle.std.proofs.Common.{◌≡◌, ℕ, ◌+◌, ◌-◌, ◌≤◌, min, false, cond, ◌&&◌, eqb, ltb, List, length, Some, None, sym, ap, ◌∙◌, arith}
use Rattle.std.proofs.lemmas.Bool.Decides.{nat_tests}
use Rattle.lines.specs.Breaks.{breaks, line_of, column_of}
use Rattle.lines.specs.Windows.{has_none, window_line, window_start, window_end_lem, window_at, window}
use Rattle.lines.specs.declared.records.Context.{Context}
use Rattle.lines.specs.declared.records.SourceSpan.{SourceSpan}
use Rattle.lines.proofs.BreakLaws.{every_list}
use Rattle.payloads.proofs.Ends.{line_min}
use Rattle.lines.proofs.Finding.{rising}
use Rattle.payloads.proofs.Whole.{started, ended}
use Rattle.line_maps.specs.Answers.{line_index}
use Rattle.line_maps.proofs.Spots.{index_is, index_none}

-- the line of the span, asked for at an offset no further than the end
pub line_is : (t : List ℕ) (o n at k : ℕ) → n ≡ length t → at ≡ min o n → line_index t at ≡ Some k → k ≡ line_of (breaks t) o
line_is t o n at k whole is told = (index_is t at k told).1 ∙ ap (line_of (breaks t)) (is ∙ ap (min o) whole) ∙ line_min t o

-- the same by a text that is still that one
pub line_kept : (t t1 t2 : List ℕ) (o n at k : ℕ) → n ≡ length t → t1 ≡ t → t2 ≡ t1 → at ≡ min o n → line_index t1 at ≡ Some k → k ≡ line_of (breaks t2) o
line_kept t t1 t2 o n at k whole one two is told = line_is t1 o n at k (whole ∙ ap length (sym one)) is told ∙ ap (λ t. line_of (breaks t) o) (sym two)

pub line_told : (t : List ℕ) (o n at : ℕ) → n ≡ length t → at ≡ min o n → line_index t at ≡ None → ⊥
line_told t o n at whole is told = omega (arith, index_none t at told, whole, is)

pub line_below : (t : List ℕ) (o e k : ℕ) → o ≤ e → k ≡ line_of (breaks t) o → k ≤ line_of (breaks t) e
line_below t o e k le on = omega (arith, on, (every_list (breaks t) (length t) (rising t)).never_falls o e le)

module _ (t : List ℕ) (span : SourceSpan) (context : Context) (fits : span.offset + span.length ≤ length t + 1) (inner : context.before ≡ 0 → span.offset ≤ length t) where
  some_window : has_none (length t) span.offset span.length context.before ≡ false
  some_window =
      let past_end : ltb (length t + 1) (span.offset + span.length) ≡ false = grind (arith, nat_tests) in
      let edge : (eqb context.before 0 && eqb span.length 0 && eqb span.offset (length t + 1)) ≡ false = grind (arith, nat_tests) in
      simp (past_end, edge)

  module _ (start line column end count : ℕ) (start_is : start ≡ window_start (breaks t) span.offset context.before) (end_is : end ≡ window_end_lem (length t) (breaks t) (span.offset + span.length) context.after) where
    pub start_end : start ≤ end
    start_end = omega (arith, start_is, end_is, (started t span.offset context.before inner).upto, (ended t (span.offset + span.length) context.after).from (min span.offset (length t)) (omega arith) (omega arith))

    pub window_is : line ≡ window_line (breaks t) span.offset context.before → column ≡ column_of (breaks t) (window_start (breaks t) span.offset context.before) → count ≡ line_of (breaks t) end → Some (record { start = start; length = end - start; line = line; column = column; line_count = count }) ≡ window t span context
    window_is line_eq column-eq count-eq =
        let bs = breaks t in
        let s = window_start bs span.offset context.before in
        let e = window_end_lem (length t) bs (span.offset + span.length) context.after in
        ap (λ x. Some (record { start = x; length = end - x; line = line; column = column; line_count = count })) start_is
        ∙ ap (λ x. Some (record { start = s; length = x - s; line = line; column = column; line_count = count })) end_is
        ∙ ap (λ x. Some (record { start = s; length = e - s; line = x; column = column; line_count = count })) line_eq
        ∙ ap (λ x. Some (record { start = s; length = e - s; line = window_line bs span.offset context.before; column = x; line_count = count })) column-eq
        ∙ ap (λ x. Some (record { start = s; length = e - s; line = window_line bs span.offset context.before; column = column_of bs s; line_count = x })) (count-eq ∙ ap (line_of bs) end_is)
        ∙ sym (ap (λ none. cond none None (Some (window_at bs (window_line bs span.offset context.before) s e))) some_window)
