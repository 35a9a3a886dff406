use Rattle.std.proofs.Common.{◌≡◌, ◌+◌, ◌≤◌, length, unwrap_or, ap, ◌∙◌, arith}
use Rattle.lines.specs.Breaks.{breaks, line_start_lem, line_of}
use Rattle.lines.specs.Windows.{cut_after_lem}
use Rattle.payloads.proofs.Ends.{end_trailing}
use Rattle.payloads.proofs.reader.close.Goals as goal

pub returns-then-after-gt0 : goal.returns-then-after-gt0
returns-then-after-gt0 c =
    let t = c.args.walk.now.text.slice.now in
    let inner : c.args.end ≤ length t = omega (arith, c.if-end-length.false, c.len-length.ensures) in
    let cut = c.to-2.new.self in
    let at : cut.at ≡ c.cut_after-cut.result = omega (arith, c.to-2.ensures.at, c.cut_after-cut.ensures.from, c.cut_after-cut.ensures.within, ap length c.bytes.ensures, c.requires) in
    let line : cut.line ≡ line_of (breaks t) (cut_after_lem (breaks t) c.args.end) =
    cut.line_is ∙ ap (λ t. line_of (breaks t) cut.at) c.to-2.ensures.text
    ∙ ap (line_of (breaks t)) (at ∙ c.cut_after-cut.ensures.cut ∙ ap (λ t. cut_after_lem (breaks t) c.args.end) c.bytes.ensures) in
    record {
      text = c.to_line.ensures.text ∙ c.to-2.ensures.text;
      at = c.to_line.ensures.at
          ∙ ap (λ t. unwrap_or (line_start_lem (breaks t) (cut.line + c.args.after + 1)) (length t)) c.to-2.ensures.text
          ∙ ap (λ k. unwrap_or (line_start_lem (breaks t) (k + c.args.after + 1)) (length t)) line
          ∙ end_trailing t c.args.end c.args.after inner c.if-after-gt0.true;
      onward = omega (arith, c.to_line.ensures.onward, c.to-2.ensures.at);
    }
