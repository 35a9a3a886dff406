-- The line table of a text, to the byte. Assumes nothing.
use Rattle.std.specs.Prelude.{ℕ, ◌+◌, ◌-◌, Bool, true, false, cond, List, [], ◌∷◌, ◌++◌, length, codes, decimal, ◌==◌, nat_lt, slice_index, ◌<◌, Option, Some, None}
use Rattle.std.specs.List.{flat_map}
use Rattle.lines.specs.Breaks.{breaks, past}
use Rattle.lines.specs.declared.records.LineBreak.{LineBreak}
use Rattle.listing.specs.declared.line.Ending.{Ending}
use Rattle.listing.specs.declared.line.Ending.TheVariants.{Lf, Cr, CrLf}
use Rattle.listing.specs.declared.line.Line.{Line}
use Rattle.listing.specs.declared.tally.Tally.{Tally}

-- the word for what a line ends with
abbrev pub ending_text : Option Ending → List ℕ
ending_text (Some Lf) = codes "LF"
ending_text (Some Cr) = codes "CR"
ending_text (Some CrLf) = codes "CR LF"
ending_text None = codes "none"

-- number, start, length and ending, parted by commas
abbrev pub line_text : Line → List ℕ
line_text line = decimal line.number ++ (codes "," ++ (decimal line.start ++ (codes "," ++ (decimal line.length ++ (codes "," ++ ending_text line.ending)))))

-- a row: the line, closed by LF
abbrev pub row_text : Line → List ℕ
row_text line = line_text line ++ codes "\n"

-- what the break of a text is made of
abbrev pub ending_of_lem : List ℕ → LineBreak → Ending
ending_of_lem t b = cond (nat_lt b.start b.end) CrLf (cond (slice_index t b.start == 13) Cr Lf)

-- line k, which starts at s and ends with a break
abbrev pub line_up_to : List ℕ → ℕ → ℕ → LineBreak → Line
line_up_to t k s b = record { number = k; start = s; length = b.start - s; ending = Some (ending_of_lem t b) }

-- line k, which starts at s and ends with the text
abbrev pub last_from : List ℕ → ℕ → ℕ → Line
last_from t k s = record { number = k; start = s; length = length t - s; ending = None }

-- the lines from line k on, which starts at s, by the breaks from break k on
abbrev pub lines_from : List ℕ → List LineBreak → ℕ → ℕ → List Line
lines_from t [] k s = last_from t k s ∷ []
lines_from t (b ∷ bs) k s = line_up_to t k s b ∷ lines_from t bs (k + 1) (past b)

-- the lines of a text
abbrev pub lines_of : List ℕ → List Line
lines_of t = lines_from t (breaks t) 0 0

abbrev pub is_lf : Option Ending → Bool
is_lf (Some Lf) = true
is_lf (Some Cr) = false
is_lf (Some CrLf) = false
is_lf None = false

abbrev pub is_cr : Option Ending → Bool
is_cr (Some Lf) = false
is_cr (Some Cr) = true
is_cr (Some CrLf) = false
is_cr None = false

abbrev pub is_cr_lf : Option Ending → Bool
is_cr_lf (Some Lf) = false
is_cr_lf (Some Cr) = false
is_cr_lf (Some CrLf) = true
is_cr_lf None = false

-- how many of the lines have such an ending
abbrev pub how_many : (Option Ending → Bool) → List Line → ℕ
how_many such [] = 0
how_many such (line ∷ others) = cond (such line.ending) 1 0 + how_many such others

-- how many lines there are, and how many end with LF, with CR and with CR LF
abbrev pub tally_of : List Line → Tally
tally_of list = record { lines = length list; lf = how_many is_lf list; cr = how_many is_cr list; cr_lf = how_many is_cr_lf list }

-- a tally with one line more
abbrev pub counted : Tally → Option Ending → Tally
counted tally e = record {
  lines = tally.lines + 1;
  lf = tally.lf + cond (is_lf e) 1 0;
  cr = tally.cr + cond (is_cr e) 1 0;
  cr_lf = tally.cr_lf + cond (is_cr_lf e) 1 0;
}

-- the closing sentence
abbrev pub sentence_text : ℕ → Tally → List ℕ
sentence_text n tally =
    codes "Listed " ++ (decimal n ++ (codes " bytes as " ++ (decimal tally.lines ++ (codes " lines, ended by "
    ++ (decimal tally.lf ++ (codes " LF, " ++ (decimal tally.cr ++ (codes " CR and " ++ (decimal tally.cr_lf ++ codes " CR LF.")))))))))

-- the same, closed by LF
abbrev pub closing_text : ℕ → Tally → List ℕ
closing_text n tally = sentence_text n tally ++ codes "\n"

-- the whole table
abbrev pub table_text : List ℕ → List ℕ
table_text t = flat_map row_text (lines_of t) ++ closing_text (length t) (tally_of (lines_of t))

-- each count is less
pub record IsBelow (most : ℕ) (tally : Tally) : Type 0 where
  pub lines : tally.lines < most
  pub lf : tally.lf < most
  pub cr : tally.cr < most
  pub cr_lf : tally.cr_lf < most
