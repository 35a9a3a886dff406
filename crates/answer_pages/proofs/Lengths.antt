-- No line to write has more than 55 bytes. Assumes nothing.
use Rattle.std.proofs.Common.{◌≡◌, ℕ, ◌+◌, ◌^◌, ◌<◌, ◌≤◌, true, false, Bool, cond, List, [], ◌∷◌, ◌++◌, length, Some, None, Ok, Err, codes, decimal, Option, Result, sym, refl, ap, ◌∙◌, subst, arith}
use Rattle.std.proofs.lemmas.List.{length-append}
use Rattle.lines.specs.Breaks.{breaks, line_of}
use Rattle.lines.specs.Windows.{has_none, window_end_lem, window}
use Rattle.lines.specs.declared.records.Context.{Context}
use Rattle.lines.specs.declared.records.Fault.{Fault}
use Rattle.lines.specs.declared.records.SourceSpan.{SourceSpan}
use Rattle.lines.specs.declared.records.Window.{Window}
use Rattle.lines.proofs.BreakLaws.{few}
use Rattle.lines.proofs.Finding.{rising}
use Rattle.payloads.proofs.Passing.{lowered_le}
use Rattle.payloads.proofs.Walking.{line_few}
use Rattle.payloads.proofs.Whole.{the_window, fits}
use Rattle.label_lines.specs.Labels.{followed, label_of}
use Rattle.label_lines.specs.declared.label.Label.{Label}
use Rattle.answers.specs.Written.{window_text, fault_text, line_or, line_for}
use Rattle.answers.proofs.Spelling.{ten_at_most}

row_length : (x a b c d : List ℕ) → length x ≤ 10 → length a ≤ 10 → length b ≤ 10 → length c ≤ 10 → length d ≤ 10 → length (x ++ (44 ∷ (a ++ (44 ∷ (b ++ (44 ∷ (c ++ (44 ∷ (d ++ (10 ∷ [])))))))))) ≤ 55
row_length x a b c d hx ha hb hc hd = simp length-append (omega arith)

pub fault_short : (f : Fault) → f.number < 2 ^ 32 → f.layer < 2 ^ 32 → f.field < 2 ^ 32 → f.place < 2 ^ 32 → length (fault_text f) ≤ 55
fault_short f number layer field place =
    row_length (codes "fault") (decimal f.number) (decimal f.layer) (decimal f.field) (decimal f.place) (omega arith) (ten_at_most _ number) (ten_at_most _ layer) (ten_at_most _ field) (ten_at_most _ place)

pub window_short : (w : Window) → w.start < 2 ^ 32 → w.length < 2 ^ 32 → w.line < 2 ^ 32 → w.column < 2 ^ 32 → w.line_count < 2 ^ 32 → length (window_text w) ≤ 55
window_short w start long line column count =
    row_length (decimal w.start) (decimal w.length) (decimal w.line) (decimal w.column) (decimal w.line_count) (ten_at_most _ start) (ten_at_most _ long) (ten_at_most _ line) (ten_at_most _ column) (ten_at_most _ count)

-- a window that is shown is the one that there is
shown_as : (lacks : Bool) (v w : Window) → cond lacks None (Some v) ≡ Some w → (lacks ≡ false) × (v ≡ w)
shown_as true v w is = absurd cc
shown_as false v w is = (refl, cc)

-- every number of a window is at most the length of its text
module _ (t : List ℕ) (span : SourceSpan) (context : Context) where
  -- a line number is
  line_in : (o : ℕ) → line_of (breaks t) o ≤ length t
  line_in o = omega (arith, line_few (breaks t) o, few 0 (breaks t) (length t) (rising t))

  module _ (w : Window) (is : window t span context ≡ Some w) where
    pub short_text : length t ≤ 4294967295 → length (window_text w) ≤ 55
    short_text short =
        let v = the_window t span context in
        let shown = shown_as (has_none (length t) span.offset span.length context.before) v w is in
        let inside = fits t span context shown.0 in
        let column : v.column ≤ length t = omega (arith, inside, lowered_le t v.start) in
        subst (λ w. length (window_text w) ≤ 55) shown.1
        (window_short v (omega (arith, inside)) (omega (arith, inside)) (omega (arith, line_in span.offset)) (omega (arith, column)) (omega (arith, line_in (window_end_lem (length t) (breaks t) (span.offset + span.length) context.after))))

-- the line that answers a label line
pub line_short : (t line text : List ℕ) → length t ≤ 4294967295 → line_for t line ≡ Ok text → length text ≤ 55
line_short t line text short is = by_label (label_of line) refl
  where
    by_window : (label : Label) (w : Option Window) → window t label.span label.context ≡ w → line_or w ≡ Ok text → length text ≤ 55
    by_window label None shown told = absurd cc
    by_window label (Some w) shown told =
        let same : window_text w ≡ text = cc in
        subst (λ l. length l ≤ 55) same (short_text t label.span label.context w shown short)

    by_label : (r : Result Label Fault) → label_of line ≡ r → length text ≤ 55
    by_label (Err e) read =
        let told : Err e ≡ Ok text = sym (ap (λ r. followed r (λ label. line_or (window t label.span label.context))) read) ∙ is in
        absurd cc
    by_label (Ok label) read = by_window label (window t label.span label.context) refl (sym (ap (λ r. followed r (λ label. line_or (window t label.span label.context))) read) ∙ is)
