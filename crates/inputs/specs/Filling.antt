-- What stands in a buffer that an input was read into. Assumes nothing.
use Rattle.std.specs.Prelude.{◌≡◌, ℕ, ◌<◌, ◌≤◌, List, length, take, Option, IfSome}
use Rattle.inputs.specs.declared.Filled.{Filled}
use Rattle.inputs.specs.declared.Filled.TheVariants.{Whole, Cut}

-- the buffer begins with the whole input, or the input has more bytes than the buffer, which is full of its first ones;
-- of an input that is not known, only that the count lies within the buffer
abbrev pub Holds : List ℕ → Option (List ℕ) → Filled → Type 0
Holds buffer input (Whole count) = (count ≤ length buffer) × IfSome input (λ bytes. take count buffer ≡ bytes)
Holds buffer input Cut = IfSome input (λ bytes. (length buffer < length bytes) × (buffer ≡ take (length buffer) bytes))

-- the bytes of the input that stand in the buffer
abbrev pub bytes_in_lem : Filled → List ℕ → List ℕ
bytes_in_lem (Whole count) buffer = take count buffer
bytes_in_lem Cut buffer = buffer
