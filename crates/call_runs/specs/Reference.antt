-- What a stateless reference tells, and how calls move the frontier of a map. Assumes nothing.
use Rattle.std.specs.Prelude.{◌≡◌, ℕ, ◌+◌, ◌≤◌, List, [], ◌∷◌, ◌++◌, take, drop}
use Rattle.lines.specs.Breaks.{place}
use Rattle.lines.specs.Windows.{window}
use Rattle.answers.specs.Written.{line_for, answered, buffer_after}
use Rattle.call_runs.specs.declared.calls.Call.{Call}
use Rattle.call_runs.specs.declared.calls.Call.TheVariants.{Read, Locate, Answer, Forget}
use Rattle.call_runs.specs.declared.calls.PagePart.{PagePart}
use Rattle.call_runs.specs.declared.calls.Told.{Told}
use Rattle.call_runs.specs.declared.calls.Told.TheVariants.{Shown, Located, Answered, Nothing}

-- the reference is given the text, the output buffer as handed in and one call, and nothing else
abbrev pub reference : List ℕ → List ℕ → Call → Told
reference t out (Read span context) = Shown (window t span context)
reference t out (Locate o) = Located (place t o)
reference t out (Answer line part) = Answered (answered out (line_for t line.now))
reference t out Forget = Nothing

-- the buffer as it leaves it
abbrev pub buffer_left : List ℕ → List ℕ → Call → List ℕ
buffer_left t out (Read span context) = out
buffer_left t out (Locate o) = out
buffer_left t out (Answer line part) = buffer_after out (line_for t line.now)
buffer_left t out Forget = out

-- a call that has no output buffer
abbrev pub HasNoBuffer : Call → Type 0
HasNoBuffer (Read span context) = Unit
HasNoBuffer (Locate o) = Unit
HasNoBuffer (Answer line part) = ⊥
HasNoBuffer Forget = Unit

-- a part of a page, as far as the page reaches, and the page with other bytes in that part
abbrev pub buffer_at : List ℕ → PagePart → List ℕ
buffer_at page part = take part.length (drop part.start page)

abbrev pub with_buffer_lem : List ℕ → PagePart → List ℕ → List ℕ
with_buffer_lem page part out = take part.start page ++ (out ++ drop (part.start + part.length) page)

-- the output buffer that is handed in with a call: of an answer its part of the page, and no byte with any other
abbrev pub handed_in : List ℕ → Call → List ℕ
handed_in page (Read span context) = []
handed_in page (Locate o) = []
handed_in page (Answer line part) = buffer_at page part
handed_in page Forget = []

-- the page with the buffer of a call in its place
abbrev pub handed_back : List ℕ → Call → List ℕ → List ℕ
handed_back page (Read span context) out = page
handed_back page (Locate o) out = page
handed_back page (Answer line part) out = with_buffer_lem page part out
handed_back page Forget out = page

abbrev pub page_after : List ℕ → List ℕ → Call → List ℕ
page_after t page c = handed_back page c (buffer_left t (handed_in page c) c)

-- what is told of calls, each with the page as the one before left it, and the page after them
abbrev pub tells : List ℕ → List ℕ → List Call → List Told
tells t page [] = []
tells t page (c ∷ cs) = reference t (handed_in page c) c ∷ tells t (page_after t page c) cs

abbrev pub page_left : List ℕ → List ℕ → List Call → List ℕ
page_left t page [] = page
page_left t page (c ∷ cs) = page_left t (page_after t page c) cs

-- forget leaves the frontier at 0, and no other call lowers it
abbrev pub Moved : Call → ℕ → ℕ → Type 0
Moved (Read span context) was is = was ≤ is
Moved (Locate o) was is = was ≤ is
Moved (Answer line part) was is = was ≤ is
Moved Forget was is = is ≡ 0

-- the frontier's way through a run
abbrev pub Went : List Call → ℕ → ℕ → Type 0
Went [] was is = was ≡ is
Went (c ∷ cs) was is = (f : ℕ) × Moved c was f × Went cs f is
