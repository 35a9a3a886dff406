-- What the reference tells keeps the law of runs. Assumes nothing.
use Rattle.std.proofs.Common.{◌≡◌, ℕ, zero, suc, ◌+◌, ◌≤◌, true, false, cond, List, [], ◌∷◌, map, length, take, Some, None, Option, sym, refl, ap, ◌∙◌, ⊎_elim}
use Rattle.std.proofs.lemmas.Bool.{cases_Bool}
use Rattle.std.proofs.lemmas.List.Elements.{All-head, All-tail}
use Rattle.std.specs.List.{All, slice_get}
use Rattle.std.specs.Option.{option_map, option_flatten}
use Rattle.lines.specs.Payloads.{Payload, payload}
use Rattle.lines.specs.Windows.{has_none, window}
use Rattle.lines.specs.declared.records.Context.{Context}
use Rattle.lines.specs.declared.records.SourceSpan.{SourceSpan}
use Rattle.lines.specs.declared.records.Window.{Window}
use Rattle.payloads.specs.Law.{Agrees, Holds}
use Rattle.payloads.specs.Readings.{reading}
use Rattle.payloads.proofs.Whole.{the_window, reading_is, read_agrees, read_answers, read_holds}
use Rattle.label_lines.specs.Labels.{followed}
use Rattle.answers.specs.Written.{line_or, answered}
use Rattle.call_runs.specs.Reference.{reference, HasNoBuffer, handed_in, page_after, tells, page_left}
use Rattle.call_runs.specs.RunLaw.{numbers_of, WasRead, Lawful}
use Rattle.call_runs.specs.declared.calls.Call.{Call}
use Rattle.call_runs.specs.declared.calls.Call.TheVariants.{Read, Locate, Answer, Forget}
use Rattle.call_runs.specs.declared.calls.Told.{Told}
use Rattle.call_runs.specs.declared.calls.Told.TheVariants.{Shown, Located, Answered}

-- what is told of call i goes by the page as the calls before it left it
tells_at : (t page : List ℕ) (calls : List Call) (i : ℕ) → slice_get (tells t page calls) i ≡ option_map (λ c. reference t (handed_in (page_left t page (take i calls)) c) c) (slice_get calls i)
tells_at t page [] i = refl
tells_at t page (c ∷ cs) zero = refl
tells_at t page (c ∷ cs) (suc i) = tells_at t (page_after t page c) cs i

-- what is told of a call with no buffer, and the page after it
told_alone : (t page : List ℕ) (c : Call) → HasNoBuffer c → reference t (handed_in page c) c ≡ reference t [] c
told_alone t page (Read span context) none = refl
told_alone t page (Locate o) none = refl
told_alone t page (Answer line part) none = absurd none
told_alone t page Forget none = refl

page_untouched : (t page : List ℕ) (c : Call) → HasNoBuffer c → page_after t page c ≡ page
page_untouched t page (Read span context) none = refl
page_untouched t page (Locate o) none = refl
page_untouched t page (Answer line part) none = absurd none
page_untouched t page Forget none = refl

left_untouched : (t page : List ℕ) (cs : List Call) → All HasNoBuffer cs → page_left t page cs ≡ page
left_untouched t page [] none = refl
left_untouched t page (c ∷ cs) none = left_untouched t (page_after t page c) cs (All-tail HasNoBuffer c cs none) ∙ page_untouched t page c (All-head HasNoBuffer c cs none)

tells_alone : (t page : List ℕ) (cs : List Call) → All HasNoBuffer cs → tells t page cs ≡ map (reference t []) cs
tells_alone t page [] none = refl
tells_alone t page (c ∷ cs) none =
    ap (λ x. x ∷ tells t (page_after t page c) cs) (told_alone t page c (All-head HasNoBuffer c cs none))
    ∙ ap (λ l. reference t [] c ∷ l) (tells_alone t (page_after t page c) cs (All-tail HasNoBuffer c cs none))

-- a fresh reading has the numbers of the window, and none where there is none
read_numbers : (t : List ℕ) (span : SourceSpan) (context : Context) → option_map numbers_of (reading t span context) ≡ window t span context
read_numbers t span context = ⊎_elim
    (λ (lacks : has_none (length t) span.offset span.length context.before ≡ true).
    let none : window t span context ≡ None = ap (λ no_one. cond no_one None (Some (the_window t span context))) lacks in
    ap (λ w. option_map numbers_of (option_flatten (option_map (payload t) w))) none ∙ sym none)
    (λ (some : has_none (length t) span.offset span.length context.before ≡ false).
    ap (option_map numbers_of) (reading_is t span context some) ∙ sym (ap (λ no_one. cond no_one None (Some (the_window t span context))) some))
    (cases_Bool (has_none (length t) span.offset span.length context.before))

-- where a fresh reading is none, there is no window
no_window : (t : List ℕ) (span : SourceSpan) (context : Context) → reading t span context ≡ None → window t span context ≡ None
no_window t span context none = sym (read_numbers t span context) ∙ ap (option_map numbers_of) none

module _ (t page left : List ℕ) (calls : List Call) (told : List Told) (each : told ≡ tells t page calls) (buffers : left ≡ page_left t page calls) where
  told_at : (i : ℕ) (c : Call) → slice_get calls i ≡ Some c → slice_get told i ≡ Some (reference t (handed_in (page_left t page (take i calls)) c) c)
  told_at i c is = ap (λ xs. slice_get xs i) each ∙ tells_at t page calls i ∙ ap (option_map (λ c. reference t (handed_in (page_left t page (take i calls)) c) c)) is

  module _ (i : ℕ) (span : SourceSpan) (context : Context) (w : Option Window) (was : WasRead calls told i span context w) where
    told_window : w ≡ window t span context
    told_window =
        let f : Some (Shown w) ≡ Some (Shown (window t span context)) = sym was.answered ∙ told_at i (Read span context) was.asked in
        (cc)

    gives : option_flatten (option_map (payload t) w) ≡ reading t span context
    gives = ap (λ w. option_flatten (option_map (payload t) w)) told_window

    agrees_at : (p : Payload) → option_flatten (option_map (payload t) w) ≡ Some p → Agrees t p
    agrees_at p is = read_agrees t span context p (sym is ∙ gives)

  some_payload : (span : SourceSpan) (context : Context) → span.offset + span.length ≤ length t → (r : Option Payload) → r ≡ reading t span context → (p : Payload) × (reading t span context ≡ Some p) × Holds t span p
  some_payload span context inner None is = absurd (read_answers t span context inner is)
  some_payload span context inner (Some p) is = (p, sym is, read_holds t span context inner p is)

  pub lawful : Lawful t page left calls told
  lawful = record {
    each = each;
    buffers = buffers;
    alone = λ none. each ∙ tells_alone t page calls none;
    untouched = λ none. buffers ∙ left_untouched t page calls none;
    fresh = gives;
    both_none = λ i span context w was none. told_window i span context w was ∙ no_window t span context none;
    agree = λ i span context w p x was is within.
        let law = agrees_at i span context w was p is in
        law.read_there x within ∙ sym (law.looked_up x within);
    located = λ i j span context w p x was is within here.
        told_at j (Locate x) here ∙ ap (λ o. Some (Located o)) (sym ((agrees_at i span context w was p is).looked_up x within));
    holds = λ i span context w was inner.
        let found = some_payload span context inner (reading t span context) refl in
        (found.0, gives i span context w was ∙ found.1, found.2);
    answers = λ i line part label here is.
        told_at i (Answer line part) here
        ∙ ap (λ r. Some (Answered (answered (handed_in (page_left t page (take i calls)) (Answer line part)) (followed r (λ label. line_or (window t label.span label.context)))))) is
        ∙ sym (ap (λ w. Some (Answered (answered (handed_in (page_left t page (take i calls)) (Answer line part)) (line_or w)))) (read_numbers t label.span label.context));
  }
