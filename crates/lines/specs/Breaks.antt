-- The breaks of a text, the lines between them, and the places of offsets. Assumes nothing.
use Rattle.std.specs.Prelude.{ℕ, zero, suc, pred, ◌+◌, ◌-◌, min, Bool, cond, ◌&&◌, List, [], ◌∷◌, length, take, drop, Some, None, Option, nat_le, nat_lt}
use Rattle.std.specs.Option.{option_map, unwrap_or}
use Rattle.lines.specs.LineRule.{width}
use Rattle.lines.specs.declared.records.LineBreak.{LineBreak}
use Rattle.lines.specs.declared.records.Place.{Place}

-- what a call sees of a source: its first 4,294,967,295 bytes
abbrev pub seen : List ℕ → List ℕ
seen source = take (min (length source) 4294967295) source

-- a break of this width at i, if the width is not 0, and then the others
abbrev pub opened : ℕ → ℕ → List LineBreak → List LineBreak
opened i zero others = others
opened i (suc more) others = record { start = i; end = i + more } ∷ others

-- the breaks by a line rule of a text whose first byte stands at i and whose first `inside` bytes are the rest of a
-- break that began before it
abbrev pub breaks_by : (List ℕ → ℕ) → ℕ → ℕ → List ℕ → List LineBreak
breaks_by rule inside i [] = []
breaks_by rule (suc inside) i (c ∷ t) = breaks_by rule inside (i + 1) t
breaks_by rule zero i (c ∷ t) = opened i (rule (c ∷ t)) (breaks_by rule (pred (rule (c ∷ t))) (i + 1) t)

-- the breaks of a text, in order
abbrev pub breaks : List ℕ → List LineBreak
breaks t = breaks_by width 0 0 t

-- break k, which ends line k
abbrev pub break_ending : List LineBreak → ℕ → Option LineBreak
break_ending [] k = None
break_ending (b ∷ bs) zero = Some b
break_ending (b ∷ bs) (suc k) = break_ending bs k

-- where the line after a break starts
abbrev pub past : LineBreak → ℕ
past b = b.end + 1

-- the start of line k, if there is such a line
abbrev pub line_start_lem : List LineBreak → ℕ → Option ℕ
line_start_lem bs zero = Some 0
line_start_lem bs (suc k) = option_map past (break_ending bs k)

-- L(o), the line of an offset: how many breaks end before it
abbrev pub line_of : List LineBreak → ℕ → ℕ
line_of [] o = 0
line_of (b ∷ bs) o = cond (nat_lt b.end o) 1 0 + line_of bs o

-- the first break that does not end before o
abbrev pub next_break_lem : List LineBreak → ℕ → Option LineBreak
next_break_lem bs o = break_ending bs (line_of bs o)

-- the breaks that do not end before o
abbrev pub breaks_left : List LineBreak → ℕ → List LineBreak
breaks_left bs o = drop (line_of bs o) bs

-- whether o lies inside a break: past its first byte, and not past its last
abbrev pub inside : LineBreak → ℕ → Bool
inside b o = nat_lt b.start o && nat_le o b.end

-- an offset inside a break is lowered to the break's first byte
abbrev pub lowered : List LineBreak → ℕ → ℕ
lowered [] o = o
lowered (b ∷ bs) o = cond (inside b o) b.start (lowered bs o)

-- the column of an offset, in bytes: inside a break that of the break's first byte
abbrev pub column_of : List LineBreak → ℕ → ℕ
column_of bs o = lowered bs o - unwrap_or (line_start_lem bs (line_of bs o)) 0

abbrev pub place_of : List LineBreak → ℕ → Place
place_of bs o = record { line = line_of bs o; column = column_of bs o }

-- the place of an offset in a text, none past its end
abbrev pub place : List ℕ → ℕ → Option Place
place t o = cond (nat_le o (length t)) (Some (place_of (breaks t) o)) None
