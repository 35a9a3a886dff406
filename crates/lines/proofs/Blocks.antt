-- The search for CR and LF block by block. Assumes nothing.
use Rattle.std.proofs.Common.{◌≡◌, ℕ, zero, suc, ◌+◌, ◌-◌, ◌*◌, ◌/◌, ◌<◌, ◌≤◌, Bool, true, false, cond, not, ◌&&◌, true≢false, nat_lt, List, [], ◌∷◌, length, get_or, take, drop, position, Some, None, sym, refl, ap, ◌∙◌, subst, arith}
use Rattle.std.specs.List.{fold, prefix_len, position_or_len}
use Rattle.std.specs.Simd.{first_chunks}
use Rattle.std.proofs.lemmas.List.{drop-drop, length-drop, length-take, take_rest}
use Rattle.std.proofs.lemmas.List.Sums.{prefix_len-le-length}
use Rattle.std.proofs.lemmas.Option.{cond_some, none-some}
use Rattle.std.proofs.lemmas.Bool.Decides.{nat_tests}
use Rattle.lines.specs.LineRule.{ends_line_lem}
use Rattle.lines.specs.Endings.{is_plain, is_far, next_ending_lem}
use Rattle.lines.proofs.Seeking.{leading_take, leading_drop}

-- the answer of a search by position is a place, or there is none up to the end
found : (few : Bool) (p k : ℕ) → cond few (Some p) None ≡ Some k → (few ≡ true) × (p ≡ k)
found few p k is = cond_some few p k is

not_found : (few : Bool) (p : ℕ) → cond few (Some p) None ≡ None → few ≡ false
not_found true p is = absurd (none-some p (sym is))
not_found false p is = refl

-- whether a block of 16 bytes holds CR or LF
abbrev ends_in_16 : List ℕ → Bool
ends_in_16 block = nat_lt (prefix_len is_plain block) 16

-- the blocks before the first that holds one are plain, and so the search goes on in that one, or after all
record Searched (m : ℕ) (xs : List ℕ) : Type 0 where
  at_hit : position_or_len ends_in_16 (first_chunks 16 m xs) < m → prefix_len is_plain xs ≡ 16 * position_or_len ends_in_16 (first_chunks 16 m xs) + prefix_len is_plain (get_or (first_chunks 16 m xs) (position_or_len ends_in_16 (first_chunks 16 m xs)) [])
  at_end : m ≤ position_or_len ends_in_16 (first_chunks 16 m xs) → prefix_len is_plain xs ≡ 16 * m + prefix_len is_plain (drop (16 * m) xs)

searched_more : (m : ℕ) (xs : List ℕ) → 16 * suc m ≤ length xs → Searched m (drop 16 xs) → (b : Bool) → ends_in_16 (take 16 xs) ≡ b → Searched (suc m) xs
searched_more m xs fits rest true is =
    let cs = first_chunks 16 (suc m) xs in
    let at : position_or_len ends_in_16 cs ≡ 0 = ap (λ b. cond (not b) (1 + position_or_len ends_in_16 (first_chunks 16 m (drop 16 xs))) 0) is in
    let few = leading_take xs 16 in
    let here : prefix_len is_plain xs ≡ 16 * 0 + prefix_len is_plain (take 16 xs) = grind (arith, nat_tests) in
    record {
      at_hit = λ lt. subst (λ k. prefix_len is_plain xs ≡ 16 * k + prefix_len is_plain (get_or cs k [])) (sym at) here;
      at_end = λ le. absurd (omega (arith, le, at));
    }
searched_more m xs fits rest false is =
    let cs = first_chunks 16 (suc m) xs in
    let later = position_or_len ends_in_16 (first_chunks 16 m (drop 16 xs)) in
    let one : 1 + later ≡ suc later = omega arith in
    let at : position_or_len ends_in_16 cs ≡ suc later = ap (λ b. cond (not b) (1 + later) 0) is ∙ one in
    let few = leading_take xs 16 in
    let plain : 16 ≤ prefix_len is_plain xs = grind (arith, nat_tests) in
    let on = leading_drop xs 16 plain in
    let next : 16 + 16 * m ≡ 16 * suc m = omega arith in
    record {
      at_hit = λ lt. subst (λ k. prefix_len is_plain xs ≡ 16 * k + prefix_len is_plain (get_or cs k [])) (sym at) (omega (arith, on, rest.at_hit (omega (arith, lt, at))));
      at_end = λ le. omega (arith, on, rest.at_end (omega (arith, le, at)), ap (prefix_len is_plain) (drop-drop (16 * m) 16 xs), ap (λ n. prefix_len is_plain (drop n xs)) next);
    }

searched : (m : ℕ) (xs : List ℕ) → 16 * m ≤ length xs → Searched m xs
searched zero xs fits = record { at_hit = λ lt. absurd (omega arith); at_end = λ le. omega arith }
searched (suc m) xs fits = searched_more m xs fits (searched m (drop 16 xs) (omega (arith, length-drop 16 xs))) (ends_in_16 (take 16 xs)) refl

length_chunks : (m : ℕ) (xs : List ℕ) → length (first_chunks 16 m xs) ≡ m
length_chunks zero xs = refl
length_chunks (suc m) xs = omega (arith, length_chunks m (drop 16 xs))

-- the rest of a text from i on, as a slice of it is written, and how many blocks of n bytes are whole in it
abbrev pub rest_of : List ℕ → ℕ → List ℕ
rest_of t i = take (length t - i) (drop i t)

abbrev pub whole_blocks : ℕ → List ℕ → ℕ → ℕ
whole_blocks n t i = length (rest_of t i) / n

module _ (t : List ℕ) (i : ℕ) (within : i ≤ length t) (blocks : List (List ℕ)) (cut : blocks ≡ first_chunks 16 (whole_blocks 16 t i) (rest_of t i)) where
  abbrev r : List ℕ
  r = rest_of t i

  abbrev m : ℕ
  m = whole_blocks 16 t i

  rest : r ≡ drop i t
  rest = take_rest t i

  fits : 16 * m ≤ length r
  fits = omega arith

  pub block_hit : (k : ℕ) → position ends_in_16 blocks ≡ Some k → i + 16 * k + prefix_len is_plain (get_or blocks k []) ≡ next_ending_lem t i
  block_hit k is =
      let at = found _ _ k is in
      let many : length blocks ≡ m = ap length cut ∙ length_chunks m r in
      let lt : position_or_len ends_in_16 blocks < m = grind (arith, nat_tests, many, at.0) in
      let same : position_or_len ends_in_16 (first_chunks 16 m r) ≡ position_or_len ends_in_16 blocks = ap (position_or_len ends_in_16) (sym cut) in
      let inner = (searched m r fits).at_hit (omega (arith, lt, same)) in
      let here : prefix_len is_plain r ≡ 16 * k + prefix_len is_plain (get_or blocks k []) =
      subst (λ k. prefix_len is_plain r ≡ 16 * k + prefix_len is_plain (get_or blocks k [])) at.1 (subst (λ cs. prefix_len is_plain r ≡ 16 * position_or_len ends_in_16 cs + prefix_len is_plain (get_or cs (position_or_len ends_in_16 cs) [])) (sym cut) inner) in
      omega (arith, here, ap (prefix_len is_plain) rest, prefix_len-le-length is_plain r, ap length rest, length-drop i t)

  -- none of the blocks does, and so the search goes on in the last bytes
  module _ (last : List ℕ) (back : last ≡ drop (whole_blocks 16 t i * 16) (rest_of t i)) (is : position ends_in_16 blocks ≡ None) where
    end : last ≡ drop (16 * m) r
    end = let turned : m * 16 ≡ 16 * m = omega arith in back ∙ ap (λ n. drop n r) turned

    at_last : prefix_len is_plain (drop i t) ≡ 16 * m + prefix_len is_plain last
    at_last =
        let out = not_found _ (position_or_len ends_in_16 blocks) is in
        let many : length blocks ≡ m = ap length cut ∙ length_chunks m r in
        let le : m ≤ position_or_len ends_in_16 blocks = grind (arith, nat_tests, many, out) in
        let same : position_or_len ends_in_16 (first_chunks 16 m r) ≡ position_or_len ends_in_16 blocks = ap (position_or_len ends_in_16) (sym cut) in
        omega (arith, (searched m r fits).at_end (omega (arith, le, same)), ap (prefix_len is_plain) rest, ap (prefix_len is_plain) end)

    long : length last + 16 * m ≡ length (drop i t)
    long = omega (arith, ap length end, length-drop (16 * m) r, fits, ap length rest)

    pub last_hit : (k : ℕ) → position ends_line_lem last ≡ Some k → length t - length last + k ≡ next_ending_lem t i
    last_hit k has =
        let at = found _ _ k has in
        omega (arith, at.1, at_last, long, length-drop i t, prefix_len-le-length is_plain last)

    pub last_miss : position ends_line_lem last ≡ None → length t ≡ next_ending_lem t i
    last_miss has =
        let out = not_found _ (position_or_len ends_line_lem last) has in
        let all : length last ≤ prefix_len is_plain last = grind (arith, nat_tests, out) in
        omega (arith, all, at_last, long, length-drop i t)

abbrev is_clear_block : List ℕ → Bool
is_clear_block block = fold (λ clear byte. clear && is_far byte) true block

both : (a b : Bool) → (a && b) ≡ true → (a ≡ true) × (b ≡ true)
both true b is = (refl, is)
both false b is = absurd (true≢false (sym is))

far_plain : (x : ℕ) → is_far x ≡ true → is_plain x ≡ true
far_plain x far = grind (arith, nat_tests)

-- a clear block is plain
clear_plain : (bs : List ℕ) (b : Bool) → fold (λ clear byte. clear && is_far byte) b bs ≡ true → (b ≡ true) × (prefix_len is_plain bs ≡ length bs)
clear_plain [] b is = (is, refl)
clear_plain (x ∷ bs) b is =
    let rest = clear_plain bs (b && is_far x) is in
    let far = both b (is_far x) rest.0 in
    (far.0, ap (λ p. cond p (1 + prefix_len is_plain bs) 0) (far_plain x far.1) ∙ omega (arith, rest.1))

record Passed (m : ℕ) (xs : List ℕ) : Type 0 where
  few : prefix_len is_clear_block (first_chunks 256 m xs) ≤ m
  plain : 256 * prefix_len is_clear_block (first_chunks 256 m xs) ≤ prefix_len is_plain xs

passed_more : (m : ℕ) (xs : List ℕ) → 256 * suc m ≤ length xs → Passed m (drop 256 xs) → (b : Bool) → is_clear_block (take 256 xs) ≡ b → Passed (suc m) xs
passed_more m xs fits rest true is =
    let k = prefix_len is_clear_block (first_chunks 256 m (drop 256 xs)) in
    let at : prefix_len is_clear_block (first_chunks 256 (suc m) xs) ≡ 1 + k = ap (λ b. cond b (1 + k) 0) is in
    let here : 256 ≤ prefix_len is_plain xs = omega (arith, (clear_plain (take 256 xs) true is).1, length-take 256 xs, leading_take xs 256) in
    record { few = omega (arith, at, rest.few); plain = omega (arith, at, rest.plain, leading_drop xs 256 here) }
passed_more m xs fits rest false is =
    let k = prefix_len is_clear_block (first_chunks 256 m (drop 256 xs)) in
    let at : prefix_len is_clear_block (first_chunks 256 (suc m) xs) ≡ 0 = ap (λ b. cond b (1 + k) 0) is in
    record { few = omega (arith, at); plain = omega (arith, at) }

passed : (m : ℕ) (xs : List ℕ) → 256 * m ≤ length xs → Passed m xs
passed zero xs fits = record { few = omega arith; plain = omega arith }
passed (suc m) xs fits = passed_more m xs fits (passed m (drop 256 xs) (omega (arith, length-drop 256 xs))) (is_clear_block (take 256 xs)) refl

module _ (t : List ℕ) (i : ℕ) (within : i ≤ length t) (blocks : List (List ℕ)) (cut : blocks ≡ first_chunks 256 (whole_blocks 256 t i) (rest_of t i)) (k : ℕ) (clear : k ≡ prefix_len is_clear_block blocks) where
  plain : 256 * k ≤ prefix_len is_plain (drop i t)
  plain =
      let r = rest_of t i in
      let fits : 256 * whole_blocks 256 t i ≤ length r = omega arith in
      omega (arith, clear, ap (prefix_len is_clear_block) cut, (passed (whole_blocks 256 t i) r fits).plain, ap (prefix_len is_plain) (take_rest t i))

  pub clear_within : i + 256 * k ≤ length t
  clear_within = omega (arith, plain, prefix_len-le-length is_plain (drop i t), length-drop i t)

  pub clear_passed : next_ending_lem t (i + 256 * k) ≡ next_ending_lem t i
  clear_passed = omega (arith, leading_drop (drop i t) (256 * k) plain, ap (prefix_len is_plain) (drop-drop (256 * k) i t))
