use Rattle.std.proofs.Common.{◌≡◌, length, Some, ap, ◌∙◌, arith}
use Rattle.lines.specs.Breaks.{seen}
use Rattle.lines.specs.Spans.{span_of}
use Rattle.lines.proofs.Finding.{few_seen}
use Rattle.payloads.specs.Contents.{shown}
use Rattle.payloads.specs.Readings.{reading}
use Rattle.payloads.proofs.Whole.{read_short}
use Rattle.c_boundary.specs.Rows.{context_of, hash_of}
use Rattle.c_boundary.proofs.Crossing.{read_flag_lem, read_row_lem}
use Rattle.c_boundary.proofs.port_read.Goals as goal
use Rattle.c_boundary.proofs.port_read.Goals.{In-Some}

is : (c : In-Some) → Some (shown c.in-Some.read) ≡ reading (seen c.args.source.now) (span_of c.args.offset c.args.length) (context_of c.args.before c.args.after)
is c = c.in-Some.ensures.told ∙ ap (λ s. reading (seen c.args.source.now) s (context_of c.args.before c.args.after)) c.from.ensures

pub overflow_cast-out : goal.overflow_cast-out
overflow_cast-out c =
    omega (
      arith,
      ap length c.data-data.ensures,
      read_short (seen c.args.source.now) (span_of c.args.offset c.args.length) (context_of c.args.before c.args.after) (shown c.in-Some.read) (is (goal.at.overflow_cast-out c).In-Some),
      few_seen c.args.source.now,
    )

pub returns-in-Some : goal.returns-in-Some
returns-in-Some c =
    let read = is (goal.at.returns-in-Some c).In-Some in
    record {
      told = read_flag_lem c.args.out.now _ (shown c.in-Some.read) read c.if-out-lt7.false;
      wrote = read_row_lem c.args.out.now _ (shown c.in-Some.read) read c.if-out-lt7.false _ _ _ _ _ _ _
          (c.offset.ensures ∙ ap (λ s. s.offset) c.span-span.ensures)
          (c.len.ensures ∙ ap (λ s. s.length) c.span-span.ensures)
          c.line.ensures
          c.column.ensures
          c.line_count.ensures
          (ap length c.data-data.ensures)
          (c.hash.ensures ∙ ap hash_of c.data-data.ensures);
    }
