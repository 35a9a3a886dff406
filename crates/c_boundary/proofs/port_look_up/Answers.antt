use Rattle.std.proofs.Common.{◌≡◌, Some, ap, ◌∙◌}
use Rattle.lines.specs.Breaks.{seen}
use Rattle.lines.specs.Spans.{span_of}
use Rattle.payloads.specs.Contents.{shown}
use Rattle.payloads.specs.Readings.{reading}
use Rattle.c_boundary.specs.Rows.{context_of}
use Rattle.c_boundary.proofs.Crossing.{place_flag_lem, place_row_lem, lost_flag, lost_row}
use Rattle.c_boundary.proofs.port_look_up.Goals as goal
use Rattle.c_boundary.proofs.port_look_up.Goals.{In-Some}

is : (c : In-Some) → Some (shown c.in-Some.read) ≡ reading (seen c.args.source.now) (span_of c.args.offset c.args.length) (context_of c.args.before c.args.after)
is c = c.in-Some.ensures.told ∙ ap (λ s. reading (seen c.args.source.now) s (context_of c.args.before c.args.after)) c.from.ensures

pub returns-in-Some-line_column_at : goal.returns-in-Some-line_column_at
returns-in-Some-line_column_at c =
    let read = is (goal.at.returns-in-Some-line_column_at c).In-Some in
    record {
      told = place_flag_lem c.args.out.now _ (shown c.in-Some.read) read c.args.at c.if-out-lt2.false _ c.in-Some-line_column_at.ensures;
      wrote = place_row_lem c.args.out.now _ (shown c.in-Some.read) read c.args.at c.if-out-lt2.false _ c.in-Some-line_column_at.ensures;
    }

pub returns-in-None-line_column_at : goal.returns-in-None-line_column_at
returns-in-None-line_column_at c =
    let read = is (goal.at.returns-in-None-line_column_at c).In-Some in
    record {
      told = lost_flag c.args.out.now _ (shown c.in-Some.read) read c.args.at c.if-out-lt2.false c.in-None-line_column_at.ensures;
      wrote = lost_row c.args.out.now _ (shown c.in-Some.read) read c.args.at c.if-out-lt2.false c.in-None-line_column_at.ensures;
    }
