-- The two ways to make a span. Assumes nothing.
use Rattle.std.specs.Prelude.{ℕ, ◌-◌}
use Rattle.lines.specs.declared.records.SourceSpan.{SourceSpan}

-- the span of l bytes whose first stands at o
abbrev pub span_of : ℕ → ℕ → SourceSpan
span_of o l = record { offset = o; length = l }

-- the span from its first byte to one before `end`: empty where the end is not above the first
abbrev pub span_between : ℕ → ℕ → SourceSpan
span_between first end = span_of first (end - first)
