use Rattle.std.proofs.Common.{◌≡◌, ◌+◌, ◌^◌, ◌%◌, take, drop}
use Rattle.std.specs.List.{prefix_len}
use Rattle.label_lines.specs.Fields.{is_digit, number_of}
use Rattle.label_lines.proofs.fields.field_number.Given as goal

abbrev pub invariant-loop-i : goal.invariant-loop-i
invariant-loop-i l =
    (l.i + prefix_len is_digit (drop l.i l.bytes) ≡ prefix_len is_digit l.bytes) × (l.value ≡ number_of (take l.i l.bytes) % 2 ^ 64)
