-- What a cursor gives. Assumes nothing.
use Rattle.std.specs.Prelude.{◌≡◌, List, length, IfNone, None, Option}
use Rattle.std.specs.Iterator.{YieldsFirst}
use Rattle.std.specs.Option.{option_map, unwrap_or}
use Rattle.lines.specs.Breaks.{breaks, next_break_lem, breaks_left, past}
use Rattle.lines.specs.declared.cursor.LineBreaks.{LineBreaks}
use Rattle.lines.specs.declared.records.LineBreak.{LineBreak}

-- the breaks that are still to come: those of the input that do not end before the cursor
abbrev pub to_come : LineBreaks → List LineBreak
to_come cursor = breaks_left (breaks cursor.input.slice.now) cursor.at

-- what a call of next gives: the first break to come, and it moves past it, or none, and it moves to the end, where
-- none comes any more
pub record Gives (old : LineBreaks) (result : Option LineBreak) (new : LineBreaks) : Type 0 where
  pub first : YieldsFirst to_come old result new
  pub told : result ≡ next_break_lem (breaks old.input.slice.now) old.at
  pub stands : new.at ≡ unwrap_or (option_map past result) (length old.input.slice.now)
  pub over : IfNone result (next_break_lem (breaks new.input.slice.now) new.at ≡ None)
  pub input : new.input.slice.now ≡ old.input.slice.now
