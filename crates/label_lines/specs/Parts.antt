-- The parts of a label line, in the order in which they are handed out. Assumes nothing.
use Rattle.std.specs.Prelude.{ℕ, ◌+◌, Bool, true, false, cond, not, List, length, take, drop, ◌==◌, nat_lt}
use Rattle.std.specs.List.{prefix_len}
use Rattle.label_lines.specs.declared.parts.Part.{Part}
use Rattle.label_lines.specs.declared.parts.Part.TheVariants.{Field, Comma, End}

-- a part by its bytes
pub data Piece : Type 0 where
  field : List ℕ → Piece
  comma : Piece
  end : Piece

abbrev pub piece_of : Part → Piece
piece_of (Field bytes) = field bytes.now
piece_of Comma = comma
piece_of End = end

-- a comma is byte 44
abbrev pub not_comma : ℕ → Bool
not_comma c = not (c == 44)

-- how many bytes stand from a place of the line up to the next comma, or to the line's end
abbrev pub field_length : List ℕ → ℕ → ℕ
field_length line at = prefix_len not_comma (drop at line)

-- what stands at a place: where a field is due, the bytes up to the next comma; else a comma, or the line's end
abbrev pub piece_at : List ℕ → ℕ → Bool → Piece
piece_at line at true = field (take (field_length line at) (drop at line))
piece_at line at false = cond (nat_lt at (length line)) comma end

-- the place after it
abbrev pub place_after_lem : List ℕ → ℕ → Bool → ℕ
place_after_lem line at true = at + field_length line at
place_after_lem line at false = at + cond (nat_lt at (length line)) 1 0

-- after a comma a field is due
abbrev pub due_after : List ℕ → ℕ → Bool → Bool
due_after line at true = false
due_after line at false = nat_lt at (length line)
