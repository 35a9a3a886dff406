-- A window with its bytes, and the look-up of an offset in it. Assumes nothing.
use Rattle.std.specs.Prelude.{ℕ, ◌+◌, ◌-◌, cond, List, [], ◌∷◌, length, take, drop, Some, None, Option, nat_le}
use Rattle.lines.specs.Breaks.{breaks, past, lowered}
use Rattle.lines.specs.declared.records.LineBreak.{LineBreak}
use Rattle.lines.specs.declared.records.Place.{Place}
use Rattle.lines.specs.declared.records.Window.{Window}

-- the numbers of a window and the bytes that it covers
pub record Payload : Type 0 where
  pub numbers : Window
  pub bytes : List ℕ

-- the payload of a window in a text, none where the window reaches past the text
abbrev pub payload : List ℕ → Window → Option Payload
payload t w = cond (nat_le (w.start + w.length) (length t)) (Some (record { numbers = w; bytes = take w.length (drop w.start t) })) None

-- r less one past the last of the breaks, or the column c where there is none
abbrev pub column_after : ℕ → ℕ → List LineBreak → ℕ
column_after r c [] = c
column_after r c (b ∷ bs) = column_after r (r - past b) bs

-- the place after the first r bytes of data that begin on this line, in this column
abbrev pub place_after_lem : List ℕ → ℕ → ℕ → ℕ → Place
place_after_lem bytes line column r = record { line = line + length (breaks (take r bytes)); column = column_after r (column + r) (breaks (take r bytes)) }

-- the place of an offset, by a payload alone: none past its end, and the place of its start before it
abbrev pub look_up : Payload → ℕ → Option Place
look_up p o =
    cond (nat_le o (p.numbers.start + p.numbers.length))
    (Some (place_after_lem p.bytes p.numbers.line p.numbers.column (lowered (breaks p.bytes) (o - p.numbers.start))))
    None
