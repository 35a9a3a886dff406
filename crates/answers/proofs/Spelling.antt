-- How long a number is in decimal. Assumes nothing.
use Rattle.std.proofs.Common.{ℕ, ◌^◌, ◌<◌, ◌≤◌, length, decimal, arith}
use Rattle.std.proofs.lemmas.Fmt.{length-decimal-le}

pub ten_at_most : (n : ℕ) → n < 2 ^ 32 → length (decimal n) ≤ 10
ten_at_most n small = length-decimal-le 10 n (omega arith) (omega arith) (omega arith)
