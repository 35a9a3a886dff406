-- Every window lies in its text and ends outside every break, so the law holds of every reading. Assumes nothing.
use Rattle.std.proofs.Common.{◌≡◌, ℕ, zero, suc, ◌+◌, ◌-◌, ◌<◌, ◌≤◌, min, true, false, cond, leb, List, length, take, drop, Some, None, Option, unwrap_or, sym, refl, ap, ◌∙◌, subst, ⊎_elim, arith}
use Rattle.std.proofs.lemmas.List.{drop-drop, drop-take, length-drop, length-take, take-take}
use Rattle.std.proofs.lemmas.Bool.{cases_Bool, cases_eq}
use Rattle.std.proofs.lemmas.Bool.Decides.{nat_tests, leb_tells}
use Rattle.std.specs.Option.{option_map, option_flatten}
use Rattle.lines.specs.Breaks.{breaks, break_ending, line_start_lem, line_of, lowered, column_of, place_of, place}
use Rattle.lines.specs.LineRule.{width}
use Rattle.lines.specs.Payloads.{Payload, payload, look_up}
use Rattle.lines.specs.Spans.{span_of}
use Rattle.lines.specs.Windows.{has_none, window_line, window_start, cut_after_lem, window_end_lem, window_at}
use Rattle.lines.specs.declared.records.Context.{Context}
use Rattle.lines.specs.declared.records.SourceSpan.{SourceSpan}
use Rattle.lines.specs.declared.records.Window.{Window}
use Rattle.lines.proofs.BreakLaws.{lies, start_of, every_list}
use Rattle.lines.proofs.Finding.{lowered_not}
use Rattle.lines.proofs.WidthRule.{width_rule}
use Rattle.payloads.specs.Law.{bare, start_place, Agrees, Holds}
use Rattle.payloads.specs.Readings.{reading}
use Rattle.payloads.proofs.Agreement.{looks_up_lem}
use Rattle.payloads.proofs.Ends.{cut_more, cut_same, end_trailing, open_start, open_line, open_upto}
use Rattle.lines.proofs.Finding.{rising}
use Rattle.payloads.proofs.Passing.{lowered_le}
use Rattle.payloads.proofs.Stepping.{after_pair, from_start}

-- the end of a text is outside every break
pub out_end : (t : List ℕ) → lowered (breaks t) (length t) ≡ length t
out_end t = sym (lowered_not t (length t) (λ some pair. omega (arith, pair, width_rule.within (drop (length t - 1) t), length-drop (length t - 1) t)))

-- so is the start of a line, which lies in the text
module _ (t : List ℕ) (k s : ℕ) (is : line_start_lem (breaks t) k ≡ Some s) where
  pub on_line : line_of (breaks t) s ≡ k
  on_line = (every_list (breaks t) (length t) (rising t)).at_start k s is

  pub out_start : lowered (breaks t) s ≡ s
  out_start =
      let same = (every_list (breaks t) (length t) (rising t)).lowered_line s in
      omega (arith, lowered_le t s, from_start t (lowered (breaks t) s) k (omega (arith, same, on_line)), ap (λ s. unwrap_or s 0) is)

  pub start_in : s ≤ length t
  start_in = go k is
    where
      go : (k : ℕ) → line_start_lem (breaks t) k ≡ Some s → s ≤ length t
      go zero is = let z : 0 ≡ s = cc in omega arith
      go (suc k) is = let b = start_of (break_ending (breaks t) k) s is in omega (arith, b.2, (lies 0 (breaks t) (length t) (rising t) k b.0 b.1).within)

-- where a window ends
pub record Ended (t : List ℕ) (e end : ℕ) : Type 0 where
  pub within : end ≤ length t
  pub out : lowered (breaks t) end ≡ end
  pub from : (x : ℕ) → x ≤ e → x ≤ length t → x ≤ end

pub ended_cut : (t : List ℕ) (e : ℕ) → e ≤ length t → Ended t e (cut_after_lem (breaks t) e)
ended_cut t e le = ⊎_elim
    (λ some. ⊎_elim
    (λ (pair : width (drop (e - 1) t) ≡ 2).
    let cut = cut_more t e (width (drop (e - 1) t)) some.1 refl pair in
    let after : width (drop e t) ≡ 1 = after_pair t e (omega (arith, cut.1)) some.1 pair in
    let back : e + 1 - 1 ≡ e = omega arith in
    let out : e + 1 ≡ lowered (breaks t) (e + 1) = lowered_not t (e + 1) (λ _ wide. omega (arith, after, ap (λ j. width (drop j t)) back, wide)) in
    subst (Ended t e) cut.0 (record { within = cut.1; out = sym out; from = λ x low high. omega arith }))
    (λ (single : width (drop (e - 1) t) ≡ 2 → ⊥). alone (λ _ pair. single pair))
    (cases_eq (width (drop (e - 1) t)) 2))
    (λ none. alone (λ some pair. omega (arith, some, none.1)))
    (leb_tells 1 e)
  where
    alone : (0 < e → width (drop (e - 1) t) ≡ 2 → ⊥) → Ended t e (cut_after_lem (breaks t) e)
    alone single = subst (Ended t e) (cut_same t e single) (record { within = le; out = sym (lowered_not t e single); from = λ x low high. low })

ended_line_lem : (t : List ℕ) (e k : ℕ) → e ≤ length t → line_of (breaks t) (cut_after_lem (breaks t) e) < k → Ended t e (unwrap_or (line_start_lem (breaks t) k) (length t))
ended_line_lem t e k le more = go (line_start_lem (breaks t) k) refl
  where
    cut : Ended t e (cut_after_lem (breaks t) e)
    cut = ended_cut t e le

    go : (start : Option ℕ) → line_start_lem (breaks t) k ≡ start → Ended t e (unwrap_or start (length t))
    go None is = record { within = omega arith; out = out_end t; from = λ x low high. high }
    go (Some s) is = record {
      within = start_in t k s is;
      out = out_start t k s is;
      from = λ x low high. ⊎_elim
          (λ fine. fine.1)
          (λ back.
          let far = cut.from x low high in
          let falls = (every_list (breaks t) (length t) (rising t)).never_falls s (cut_after_lem (breaks t) e) (omega (arith, back.1)) in
          absurd (omega (arith, on_line t k s is)))
          (leb_tells x s);
    }

pub ended : (t : List ℕ) (e a : ℕ) → Ended t e (window_end_lem (length t) (breaks t) e a)
ended t e a = ⊎_elim
    (λ within. go a within.1 within.0)
    (λ past_end.
    let out = past_end.0 in
    let end : length t ≡ window_end_lem (length t) (breaks t) e a = simp out in
    subst (Ended t e) end (record { within = omega arith; out = out_end t; from = λ x low high. high }))
    (leb_tells e (length t))
  where
    go : (a : ℕ) → e ≤ length t → leb e (length t) ≡ true → Ended t e (window_end_lem (length t) (breaks t) e a)
    go zero le inner = let end : cut_after_lem (breaks t) e ≡ window_end_lem (length t) (breaks t) e 0 = simp inner in subst (Ended t e) end (ended_cut t e le)
    go (suc a) le inner = subst (Ended t e) (end_trailing t e (suc a) le (omega arith)) (ended_line_lem t e (line_of (breaks t) (cut_after_lem (breaks t) e) + suc a + 1) le (omega arith))

-- where a window starts
pub record Started (t : List ℕ) (o b : ℕ) : Type 0 where
  pub upto : window_start (breaks t) o b ≤ min o (length t)
  pub on_line : line_of (breaks t) (window_start (breaks t) o b) ≡ window_line (breaks t) o b

pub started : (t : List ℕ) (o b : ℕ) → (b ≡ 0 → o ≤ length t) → Started t o b
started t o zero within = record { upto = omega (arith, within refl); on_line = omega arith }
started t o (suc b) within =
    let line = window_line (breaks t) o (suc b) in
    let start = unwrap_or (line_start_lem (breaks t) line) (length t) in
    let some : suc b ≡ 0 → ⊥ = λ none. omega arith in
    let is : start ≡ window_start (breaks t) o (suc b) = open_start t o (suc b) line start some refl refl in
    record {
      upto = subst (λ s. s ≤ min o (length t)) is (open_upto t o (suc b) line start some refl refl);
      on_line = subst (λ s. line_of (breaks t) s ≡ line) is (open_line t o (suc b) line start some refl refl);
    }

part_of : (t : List ℕ) (s m o l : ℕ) → s ≤ o → o + l ≤ s + m → take l (drop (o - s) (take m (drop s t))) ≡ take l (drop o t)
part_of t s m o l from to =
    let whole : m ≡ o - s + (m - (o - s)) = omega arith in
    let at : s + (o - s) ≡ o = omega arith in
    ap (λ m. take l (drop (o - s) (take m (drop s t)))) whole
    ∙ ap (take l) (drop-take (o - s) (m - (o - s)) (drop s t))
    ∙ take-take l (m - (o - s)) (drop (o - s) (drop s t)) (omega arith)
    ∙ ap (take l) (drop-drop (o - s) s t ∙ ap (λ j. drop j t) at)

abbrev pub the_window : List ℕ → SourceSpan → Context → Window
the_window t span context = window_at (breaks t) (window_line (breaks t) span.offset context.before) (window_start (breaks t) span.offset context.before) (window_end_lem (length t) (breaks t) (span.offset + span.length) context.after)

abbrev the_payload : List ℕ → Window → Payload
the_payload t w = record { numbers = w; bytes = take w.length (drop w.start t) }

module _ (t : List ℕ) (span : SourceSpan) (context : Context) (some : has_none (length t) span.offset span.length context.before ≡ false) where
  start : Started t span.offset context.before
  start = started t span.offset context.before (λ none. grind (arith, nat_tests))

  end : Ended t (span.offset + span.length) (window_end_lem (length t) (breaks t) (span.offset + span.length) context.after)
  end = ended t (span.offset + span.length) context.after

  to_end : (the_window t span context).start + (the_window t span context).length ≡ window_end_lem (length t) (breaks t) (span.offset + span.length) context.after
  to_end = omega (arith, start.upto, end.from (min span.offset (length t)) (omega arith) (omega arith))

  pub fits : (the_window t span context).start + (the_window t span context).length ≤ length t
  fits = omega (arith, to_end, end.within)

  pub reading_is : reading t span context ≡ Some (the_payload t (the_window t span context))
  reading_is =
      let fit = fits in
      let in_text : leb ((the_window t span context).start + (the_window t span context).length) (length t) ≡ true = grind (arith, nat_tests) in
      ap (λ none. option_flatten (option_map (payload t) (cond none None (Some (the_window t span context))))) some
      ∙ ap (λ yes. cond yes (Some (the_payload t (the_window t span context))) None) in_text

  looked : (x : ℕ) → (the_window t span context).start ≤ x → x ≤ (the_window t span context).start + (the_window t span context).length → look_up (the_payload t (the_window t span context)) x ≡ place t x
  looked = looks_up_lem t (the_window t span context) fits (ap (lowered (breaks t)) to_end ∙ end.out ∙ sym to_end) (sym start.on_line) refl

  pub holds_here : span.offset + span.length ≤ length t → Holds t span (the_payload t (the_window t span context))
  holds_here inner =
      let from : (the_window t span context).start ≤ span.offset = omega (arith, start.upto) in
      let to : span.offset + span.length ≤ (the_window t span context).start + (the_window t span context).length = omega (arith, to_end, end.from (span.offset + span.length) (omega arith) inner) in
      record { from = from; to = to; each = part_of t (the_window t span context).start (the_window t span context).length span.offset span.length from to }

-- a fresh reading of no length without context says the place
there : (t : List ℕ) (x : ℕ) → x ≤ length t → option_map start_place (reading t (span_of x 0) bare) ≡ place t x
there t x le =
    let some : has_none (length t) x 0 0 ≡ false = grind (arith, nat_tests) in
    let in_text : leb x (length t) ≡ true = grind (arith, nat_tests) in
    let line : line_of (breaks t) x - 0 ≡ line_of (breaks t) x = omega arith in
    ap (option_map start_place) (reading_is t (span_of x 0) bare some)
    ∙ ap (λ n. Some (record { line = n; column = column_of (breaks t) x })) line
    ∙ sym (ap (λ yes. cond yes (Some (place_of (breaks t) x)) None) in_text)

pub agrees_here : (t : List ℕ) (span : SourceSpan) (context : Context) → has_none (length t) span.offset span.length context.before ≡ false → Agrees t (the_payload t (the_window t span context))
agrees_here t span context some = record {
  looked_up = λ x at. looked t span context some x at.from at.to;
  read_there = λ x at. there t x (omega (arith, at.to, fits t span context some));
}

-- what a reading answered
module _ (t : List ℕ) (span : SourceSpan) (context : Context) where
  none_then : has_none (length t) span.offset span.length context.before ≡ true → reading t span context ≡ None
  none_then none = ap (λ none. option_flatten (option_map (payload t) (cond none None (Some (the_window t span context))))) none

  pub read_agrees : (p : Payload) → Some p ≡ reading t span context → Agrees t p
  read_agrees p is = ⊎_elim
      (λ (none : has_none (length t) span.offset span.length context.before ≡ true). let f : Some p ≡ None = is ∙ none_then none in let z : ◌≡◌ {A = ℕ} 0 1 = cc in absurd (omega arith))
      (λ (some : has_none (length t) span.offset span.length context.before ≡ false).
      let f : Some (the_payload t (the_window t span context)) ≡ Some p = sym (is ∙ reading_is t span context some) in
      let same : the_payload t (the_window t span context) ≡ p = cc in
      subst (Agrees t) same (agrees_here t span context some))
      (cases_Bool (has_none (length t) span.offset span.length context.before))

  module _ (inner : span.offset + span.length ≤ length t) where
    some_then : has_none (length t) span.offset span.length context.before ≡ false
    some_then = grind (arith, nat_tests)

    pub read_answers : None ≡ reading t span context → ⊥
    read_answers is = let f : Some (the_payload t (the_window t span context)) ≡ None = sym (is ∙ reading_is t span context some_then) in let z : ◌≡◌ {A = ℕ} 0 1 = cc in omega arith

    pub read_holds : (p : Payload) → Some p ≡ reading t span context → Holds t span p
    read_holds p is =
        let f : Some (the_payload t (the_window t span context)) ≡ Some p = sym (is ∙ reading_is t span context some_then) in
        let same : the_payload t (the_window t span context) ≡ p = cc in
        subst (Holds t span) same (holds_here t span context some_then inner)

-- the data is no longer than the text
pub read_short : (t : List ℕ) (span : SourceSpan) (context : Context) (p : Payload) → Some p ≡ reading t span context → length p.bytes ≤ length t
read_short t span context p is = ⊎_elim
    (λ (none : has_none (length t) span.offset span.length context.before ≡ true). let f : Some p ≡ None = is ∙ none_then t span context none in let z : ◌≡◌ {A = ℕ} 0 1 = cc in absurd (omega arith))
    (λ (some : has_none (length t) span.offset span.length context.before ≡ false).
    let f : Some (the_payload t (the_window t span context)) ≡ Some p = sym (is ∙ reading_is t span context some) in
    let same : the_payload t (the_window t span context) ≡ p = cc in
    let w = the_window t span context in
    omega (arith, ap (λ (p : Payload). length p.bytes) same, length-take w.length (drop w.start t), length-drop w.start t))
    (cases_Bool (has_none (length t) span.offset span.length context.before))
