-- Worked examples: what the definitions give on three small sources. Assumes nothing.
use Rattle.std.specs.Prelude.{◌≡◌, ℕ, List, [], ◌∷◌, ◌++◌, Some, None, codes, Option}
use Rattle.std.specs.Option.{option_map, option_flatten}
use Rattle.lines.specs.Breaks.{place}
use Rattle.lines.specs.Payloads.{payload, look_up}
use Rattle.lines.specs.Spans.{span_of}
use Rattle.lines.specs.Windows.{window}
use Rattle.lines.specs.declared.records.Context.{Context}
use Rattle.lines.specs.declared.records.Place.{Place}
use Rattle.lines.specs.declared.records.Window.{Window}

-- `Do` CR LF `Re` CR `Mi` LF `Fa`: lines at 0, 4, 7 and 10
abbrev pub scale : List ℕ
scale = codes "Do" ++ (13 ∷ 10 ∷ codes "Re") ++ (13 ∷ codes "Mi") ++ (10 ∷ codes "Fa")

-- LF `La` LF `Ti`: lines at 0, 1 and 4
abbrev pub cadence : List ℕ
cadence = 10 ∷ codes "La" ++ (10 ∷ codes "Ti")

-- what is asked: the window of a span and its context, the place of an offset, or an offset looked up in the payload of
-- a window
pub data Query : Type 0 where
  window_of_lem : (o l b a : ℕ) → Query
  place_of : (o : ℕ) → Query
  look_up_in : (w : Window) (o : ℕ) → Query

pub data Answer : Type 0 where
  window_is : Option Window → Answer
  place_is : Option Place → Answer

abbrev pub context_of : ℕ → ℕ → Context
context_of b a = record { before = b; after = a }

abbrev pub answer : List ℕ → Query → Answer
answer t (window_of_lem o l b a) = window_is (window t (span_of o l) (context_of b a))
answer t (place_of o) = place_is (place t o)
answer t (look_up_in w o) = place_is (option_flatten (option_map (λ p. look_up p o) (payload t w)))

-- a source, what is asked of it, and the answer expected
pub record Row : Type 0 where
  pub source : List ℕ
  pub query : Query
  pub expected : Answer

abbrev row : List ℕ → Query → Answer → Row
row source query expected = record { source = source; query = query; expected = expected }

abbrev pub AllHold : List Row → Type 0
AllHold [] = Unit {0}
AllHold (r ∷ rs) = (answer r.source r.query ≡ r.expected) × AllHold rs

abbrev win : ℕ → ℕ → ℕ → ℕ → ℕ → Window
win start length line column count = record { start = start; length = length; line = line; column = column; line_count = count }

abbrev is : ℕ → ℕ → ℕ → ℕ → ℕ → Answer
is start length line column count = window_is (Some (win start length line column count))

abbrev at : ℕ → ℕ → Answer
at line column = place_is (Some (record { line = line; column = column }))

abbrev pub rows : List Row
rows =
    row scale (window_of_lem 7 2 0 0) (is 7 2 2 0 2)
    ∷ row scale (window_of_lem 8 1 0 0) (is 8 1 2 1 2)
    ∷ row scale (window_of_lem 8 1 1 1) (is 4 8 1 0 3)
    ∷ row scale (window_of_lem 8 1 0 1) (is 8 4 2 1 3)
    ∷ row scale (window_of_lem 3 0 0 0) (is 3 1 0 2 1)
    ∷ row scale (window_of_lem 2 1 0 0) (is 2 2 0 2 1)
    ∷ row scale (window_of_lem 0 0 0 0) (is 0 0 0 0 0)
    ∷ row scale (window_of_lem 12 1 0 0) (is 12 0 3 2 3)
    ∷ row scale (window_of_lem 13 0 0 0) (window_is None)
    ∷ row scale (window_of_lem 13 0 1 0) (is 7 5 2 0 3)
    ∷ row scale (window_of_lem 13 1 1 0) (window_is None)
    ∷ row [] (window_of_lem 0 1 0 0) (is 0 0 0 0 0)
    ∷ row [] (window_of_lem 1 0 0 0) (window_is None)
    ∷ row cadence (window_of_lem 0 0 0 1) (is 0 4 0 0 2)
    ∷ row cadence (window_of_lem 0 1 0 1) (is 0 6 0 0 2)
    ∷ row scale (place_of 3) (at 0 2)
    ∷ row scale (place_of 8) (at 2 1)
    ∷ row scale (place_of 12) (at 3 2)
    ∷ row scale (place_of 13) (place_is None)
    ∷ row scale (look_up_in (win 4 8 1 0 3) 9) (at 2 2)
    ∷ row scale (look_up_in (win 4 8 1 0 3) 0) (at 1 0)
    ∷ row scale (look_up_in (win 4 8 1 0 3) 13) (place_is None)
    ∷ []
