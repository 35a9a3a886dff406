use Rattle.std.proofs.Common.{◌≡◌, ◌++◌, string_bytes}
use Rattle.std.specs.List.{flat_map}
use Rattle.lines.specs.Breaks.{seen}
use Rattle.listing.specs.Table.{row_text, lines_of, tally_of}
use Rattle.listing.specs.Left.{lines_left}
use Rattle.listing.proofs.table.line_table.Given as goal

abbrev pub invariant-loop-line : goal.invariant-loop-line
invariant-loop-line l = record {
  all : l.yielded ++ lines_left l.line-iterator ≡ lines_of (seen l.source);
  rows : string_bytes l.table ≡ flat_map row_text l.yielded;
  counts : l.tally ≡ tally_of l.yielded;
}
