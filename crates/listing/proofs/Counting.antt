-- Lines counted one by one, and how many there are. Assumes nothing.
use Rattle.std.proofs.Common.{◌≡◌, ℕ, ◌+◌, ◌^◌, ◌≤◌, Bool, true, false, cond, List, [], ◌∷◌, ◌++◌, length, Option, refl, ap, length-append, arith}
use Rattle.lines.specs.Breaks.{breaks, past}
use Rattle.lines.specs.declared.records.LineBreak.{LineBreak}
use Rattle.lines.proofs.BreakLaws.{few}
use Rattle.listing.specs.Table.{is_lf, is_cr, is_cr_lf, lines_from, lines_of, how_many, tally_of, counted, IsBelow}
use Rattle.listing.specs.declared.line.Ending.{Ending}
use Rattle.listing.specs.declared.line.Line.{Line}
use Rattle.lines.proofs.Finding.{rising}

how_many_more : (such : Option Ending → Bool) (list : List Line) (line : Line) → how_many such list + cond (such line.ending) 1 0 ≡ how_many such (list ++ line ∷ [])
how_many_more such [] line = omega arith
how_many_more such (first ∷ list) line = omega (arith, how_many_more such list line)

-- the tally of the lines so far and one more
pub tally_of_more : (list : List Line) (line : Line) → counted (tally_of list) line.ending ≡ tally_of (list ++ line ∷ [])
tally_of_more list line =
    let lines : length list + 1 ≡ length (list ++ line ∷ []) = omega (arith, length-append list (line ∷ [])) in
    λ i. record { lines = lines i; lf = how_many_more is_lf list line i; cr = how_many_more is_cr list line i; cr_lf = how_many_more is_cr_lf list line i }

how_few : (such : Option Ending → Bool) (list : List Line) → how_many such list ≤ length list
how_few such [] = omega arith
how_few such (line ∷ list) = omega (arith, how_few such list, one (such line.ending))
  where
    one : (b : Bool) → cond b 1 0 ≤ 1
    one true = omega arith
    one false = omega arith

as_many : (t : List ℕ) (bs : List LineBreak) (k s : ℕ) → length (lines_from t bs k s) ≡ length bs + 1
as_many t [] k s = refl
as_many t (b ∷ bs) k s = omega (arith, as_many t bs (k + 1) (past b))

-- the counts of some lines of a text that a call sees whole
pub counts_fit : (t : List ℕ) (given left : List Line) → length t ≤ 4294967295 → given ++ left ≡ lines_of t → IsBelow (2 ^ 33) (tally_of given)
counts_fit t given left short all =
    let most : length given ≤ 2 ^ 32 = omega (arith, ap length all, length-append given left, as_many t (breaks t) 0 0, few 0 (breaks t) (length t) (rising t)) in
    record {
      lines = omega (arith, most);
      lf = omega (arith, most, how_few is_lf given);
      cr = omega (arith, most, how_few is_cr given);
      cr_lf = omega (arith, most, how_few is_cr_lf given);
    }
