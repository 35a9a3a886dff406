-- The fields of a line from a place on. Assumes nothing.
use Rattle.std.proofs.Common.{◌≡◌, ℕ, suc, ◌+◌, ◌<◌, ◌≤◌, Bool, true, false, eqb, List, [], ◌∷◌, length, take, drop, refl, ap, add-zero, one-add, ◌∙◌, arith}
use Rattle.std.specs.List.{prefix_len}
use Rattle.std.proofs.lemmas.List.{drop-drop, drop_more, drop_all}
use Rattle.label_lines.specs.Labels.{fields_from, fields_after, fields_at, fields_past}
use Rattle.label_lines.specs.Parts.{not_comma, field_length}

-- the fields of a text: the first reaches up to the first comma
abbrev Reaches : ℕ → List ℕ → Type 0
Reaches p t = fields_from p t ≡ record { place = p; bytes = take (prefix_len not_comma t) t } ∷ fields_after (p + prefix_len not_comma t) (drop (prefix_len not_comma t) t)

-- with a byte more in front, which is a comma or not
first_by : (b : Bool) (p c : ℕ) (t : List ℕ) → eqb c 44 ≡ b → Reaches (p + 1) t → Reaches p (c ∷ t)
first_by true p c t is rest = rw (is, add-zero)
first_by false p c t is rest = let there : p + 1 + prefix_len not_comma t ≡ p + suc (prefix_len not_comma t) = omega arith in rw (is, rest, one-add, there)

first : (p : ℕ) (t : List ℕ) → Reaches p t
first p [] = refl
first p (c ∷ t) = first_by (eqb c 44) p c t refl (first (p + 1) t)

module _ (line : List ℕ) (at : ℕ) where
  pub field_here : fields_at line at ≡ record { place = at; bytes = take (field_length line at) (drop at line) } ∷ fields_past line (at + field_length line at)
  field_here =
      first at (drop at line)
      ∙ ap (λ t. record { place = at; bytes = take (field_length line at) (drop at line) } ∷ fields_after (at + field_length line at) t) (drop-drop (field_length line at) at line)

  pub field_next : at < length line → fields_past line at ≡ fields_at line (at + 1)
  field_next within = ap (fields_after at) (drop_more line at 0 within)

  pub no_field : length line ≤ at → fields_past line at ≡ []
  no_field past = ap (fields_after at) (drop_all at line past)

-- what the fields left at a place are
pub ruleset fields = (field_here, field_next, no_field)
