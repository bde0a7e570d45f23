-- Reading bytes from the front: what is left after i bytes still decides. The laws that the loops cite. Assumes nothing.
use Rattle.std.specs.Prelude.{◌≡◌, ℕ, zero, suc, ◌+◌, ◌-◌, ◌*◌, ◌%◌, ◌^◌, ◌<◌, ◌≤◌, true, false, cond, not, ◌&&◌, T, List, [], ◌∷◌, ◌++◌, length, take, drop, ◌≢◌, nat_eq, nat_le, slice_index, slice_index_or, slice_range, Float, Some, None, if◌then◌else◌}
use Rattle.std.specs.Prelude as code
use Rattle.std.proofs.Math.Path.{refl}
use Rattle.std.proofs.Common.{sym, ap, ◌∙◌, arith, add-one, pow-suc, drop_of_length-le, take_all}
use Rattle.std.proofs.Math.Logic.{by_cases}
use Rattle.std.proofs.lemmas.Bool.{false≢true}
use Rattle.std.proofs.Math.Option.{Option, none, some}
use Rattle.std.proofs.Math.Decide.{ℕ_discrete, dec_lt}
use Rattle.std.proofs.Math.Nat.{pow-le-pow_right}
use borrow.Author.Tests.{eq-eqb, ne_eqb, le-leb, lt-leb, leb-true, lt-ltb, le-ltb}
use Rattle.std.specs.Float.{nan, inf, fin, binary64}
use Rattle.std.specs.Float.Ieee.{of_bits, div, is_nan, nan_bits}
use Rattle.std.specs.Float.Ieee.Bits.{nan_bits_is, nan_bits_above}
use Rattle.laws.specs.Tests.{true_or_false, and_true, and_false, and_left, and_right, not_true, not_false}
use Rattle.laws.specs.Choices.{or_cases}
use Rattle.laws.specs.Parts.{drop_next}
use Rattle.forms.specs.Letters.{digit_zero, digit_nine, digit_a, digit_f}
use Rattle.forms.specs.Text.{tab, find, occurs, all, is_digit, decimal, plain, number_up_to, is_hex, hex_digit, hexadecimal, pattern}

-- what a search finds, counted from here
module _ (b : ℕ) (l : List ℕ) (i : ℕ) where
  pub find_next : i < length l → (slice_index l i ≢ b) → find b (drop i l) ≡ suc (find b (drop (i + 1) l))
  unfolding find
  find_next h n = rw (drop_next l i h, ne_eqb (slice_index l i) b n)

  pub find_here : i < length l → slice_index l i ≡ b → find b (drop i l) ≡ 0
  unfolding find
  find_here h e = rw (drop_next l i h, eq-eqb (slice_index l i) b e)

  pub find_none : length l ≤ i → find b (drop i l) ≡ 0
  unfolding find
  find_none h = rw (drop_of_length-le l h)

-- what is counted from here
module _ (b : ℕ) (l : List ℕ) (i : ℕ) where
  pub occurs_other : i < length l → (slice_index l i ≢ b) → occurs b (drop i l) ≡ occurs b (drop (i + 1) l)
  unfolding occurs
  occurs_other h n = rw (drop_next l i h, ne_eqb (slice_index l i) b n)

  pub occurs_same : i < length l → slice_index l i ≡ b → occurs b (drop i l) ≡ suc (occurs b (drop (i + 1) l))
  unfolding occurs
  occurs_same h e = rw (drop_next l i h, eq-eqb (slice_index l i) b e)

  pub occurs_end : length l ≤ i → occurs b (drop i l) ≡ 0
  unfolding occurs
  occurs_end h = rw (drop_of_length-le l h)

-- so many bytes are counted at a time
abbrev pub block : ℕ
block = 240

-- in bytes behind others, and in none
pub occurs_append : (b : ℕ) (l r : List ℕ) → occurs b (l ++ r) ≡ occurs b l + occurs b r
unfolding occurs
occurs_append b [] r = omega arith
occurs_append b (c ∷ l) r = by_cases (ℕ_discrete c b) (λ e. rw (eq-eqb c b e) (omega (arith, occurs_append b l r))) (λ d. rw (ne_eqb c b d) (occurs_append b l r))

pub occurs_empty : (b : ℕ) (l : List ℕ) → length l ≡ 0 → occurs b l ≡ 0
unfolding occurs
occurs_empty b [] e = refl
occurs_empty b (c ∷ l) e = absurd (omega arith)

-- the number that the digits left give behind v
unfoldable pub number_from : ℕ → ℕ → List ℕ → Option ℕ
number_from top v bs = cond (all is_digit bs && nat_le (decimal v bs) top) (some (decimal v bs)) none

-- `decimal` only grows as digits are read
pub decimal_grows : (v : ℕ) (bs : List ℕ) → v ≤ decimal v bs
unfolding decimal
decimal_grows v [] = omega arith
decimal_grows v (b ∷ bs) = omega (arith, decimal_grows (v * 10 + (b - digit_zero)) bs)

-- the next byte: a digit, or none
module _ (top v : ℕ) (l : List ℕ) (i : ℕ) (h : i < length l) where
  pub number_next : digit_zero ≤ slice_index l i → slice_index l i ≤ digit_nine → number_from top v (drop i l) ≡ number_from top (v * 10 + (slice_index l i - digit_zero)) (drop (i + 1) l)
  unfolding number_from all decimal
  number_next low high = rw (drop_next l i h, le-leb digit_zero (slice_index l i) low, le-leb (slice_index l i) digit_nine high)

  pub number_low : slice_index_or l i 0 < digit_zero → number_from top v (drop i l) ≡ none
  unfolding number_from all
  number_low low = rw (drop_next l i h, lt-leb digit_zero (slice_index l i) low)

  pub number_high : digit_nine < slice_index l i → number_from top v (drop i l) ≡ none
  unfolding number_from all
  number_high high = rw (drop_next l i h, lt-leb (slice_index l i) digit_nine high, and_false (nat_le digit_zero (slice_index l i)))

module _ (top : ℕ) where
  -- so a part above the greatest number means that the whole is
  pub number_over : (v : ℕ) (bs : List ℕ) → top < v → number_from top v bs ≡ none
  unfolding number_from
  number_over v bs h = let o : top < decimal v bs = omega (arith, decimal_grows v bs) in rw (lt-leb (decimal v bs) top o, and_false (all is_digit bs))

  pub number_end : (v : ℕ) (l : List ℕ) (i : ℕ) → length l ≤ i → v ≤ top → number_from top v (drop i l) ≡ some v
  unfolding number_from all decimal
  number_end v l i e h = rw (drop_of_length-le l e, le-leb v top h)

-- the whole number where no zero leads
pub plain_starts : (bs : List ℕ) → 0 < length bs → (slice_index bs 0 ≡ digit_zero → 1 < length bs → ⊥) → plain bs ≡ all is_digit bs
unfolding plain all
plain_starts [] l z = absurd (omega arith)
plain_starts (b ∷ []) l z = rw (and_true (is_digit b))
plain_starts (b ∷ (c ∷ bs)) l z = rw (ne_eqb b digit_zero (λ e. z e (omega arith)), and_true (is_digit b))

module _ (top : ℕ) where
  pub number_starts : (bs : List ℕ) → 0 < length bs → (slice_index bs 0 ≡ digit_zero → 1 < length bs → ⊥) → number_up_to top bs ≡ number_from top 0 bs
  unfolding number_up_to number_from
  number_starts bs l z = rw (plain_starts bs l z)

  pub number_empty : (bs : List ℕ) → length bs ≡ 0 → number_up_to top bs ≡ none
  unfolding number_up_to plain
  number_empty [] e = refl
  number_empty (b ∷ bs) e = absurd (omega arith)

  pub number_zero : (bs : List ℕ) → slice_index bs 0 ≡ digit_zero → 1 < length bs → number_up_to top bs ≡ none
  unfolding number_up_to plain
  number_zero [] e h = absurd (omega arith)
  number_zero (b ∷ []) e h = absurd (omega arith)
  number_zero (b ∷ (c ∷ bs)) e h = rw (eq-eqb b digit_zero e, and_false (is_digit b))

  -- no digits that give a number, so none at all
  pub digits_none : (bs : List ℕ) → number_from top 0 bs ≡ none → number_up_to top bs ≡ none
  digits_none [] e = number_empty [] refl
  digits_none (b ∷ []) e = number_starts (b ∷ []) (omega arith) (λ z l. omega arith) ∙ e
  digits_none (b ∷ (c ∷ bs)) e = by_cases (ℕ_discrete b digit_zero) (λ z. number_zero (b ∷ (c ∷ bs)) z (omega arith)) (λ z. number_starts (b ∷ (c ∷ bs)) (omega arith) (λ w l. z w) ∙ e)

-- the value of a byte as a decimal digit, if it is one
abbrev pub digit_of : ℕ → code.Option ℕ
digit_of b = if is_digit b then Some (b - digit_zero) else None

-- how many digits stand in front, and these
unfoldable pub digit_run : List ℕ → ℕ
digit_run [] = 0
digit_run (b ∷ bs) = cond (is_digit b) (suc (digit_run bs)) 0

abbrev pub run : List ℕ → List ℕ
run bs = take (digit_run bs) bs

module _ (b : ℕ) where
  pub digit_told : {d : ℕ} → Some d ≡ digit_of b → (is_digit b ≡ true) × (d ≡ b - digit_zero)
  digit_told {d} e =
      true_or_false (is_digit b)
      (λ t. let same : Some d ≡ Some (b - digit_zero) = rw t at e in (t, cc))
      (λ f. let none : Some d ≡ None = rw f at e in let z : ◌≡◌ {A = ℕ} 0 1 = cc in absurd (omega arith))

  pub digit_untold : None ≡ digit_of b → is_digit b ≡ false
  digit_untold e = not_true (is_digit b) (λ t. let some : None ≡ Some (b - digit_zero) = rw t at e in let z : ◌≡◌ {A = ℕ} 0 1 = cc in absurd (omega arith))

-- the next byte of the digits in front: one more, or none
module _ (l : List ℕ) (i : ℕ) where
  pub run_next : i < length l → is_digit (slice_index l i) ≡ true → digit_run (drop i l) ≡ suc (digit_run (drop (i + 1) l))
  unfolding digit_run
  run_next h e = rw (drop_next l i h, e)

  pub run_digit : i < length l → is_digit (slice_index l i) ≡ true → run (drop i l) ≡ slice_index l i ∷ run (drop (i + 1) l)
  unfolding digit_run
  run_digit h e = rw (drop_next l i h, e)

  pub run_here : i < length l → is_digit (slice_index l i) ≡ false → digit_run (drop i l) ≡ 0
  unfolding digit_run
  run_here h e = rw (drop_next l i h, e)

  pub run_none : length l ≤ i → digit_run (drop i l) ≡ 0
  unfolding digit_run
  run_none h = rw (drop_of_length-le l h)

pub run_length : (bs : List ℕ) → digit_run bs ≤ length bs
unfolding digit_run
run_length [] = omega arith
run_length (b ∷ bs) = true_or_false (is_digit b) (λ t. rw t (omega (arith, run_length bs))) (λ f. rw f (omega arith))

-- the field from the front up to the first such byte
abbrev pub up_to : ℕ → List ℕ → List ℕ
up_to b l = take (find b l) l

module _ (b : ℕ) (l : List ℕ) (i : ℕ) where
  pub field_next : i < length l → (slice_index l i ≢ b) → up_to b (drop i l) ≡ slice_index l i ∷ up_to b (drop (i + 1) l)
  unfolding find
  field_next h n = rw (drop_next l i h, ne_eqb (slice_index l i) b n)

-- the digits in front, up to a tab or the end, are the field; and where something else stands behind them, it is no number
run_field : (bs : List ℕ) → (digit_run bs < length bs → slice_index bs (digit_run bs) ≡ tab) → find tab bs ≡ digit_run bs
unfolding digit_run find
run_field [] h = refl
run_field (b ∷ bs) h =
    true_or_false (is_digit b)
    (λ t.
    let other : nat_eq b tab ≡ false = ne_eqb b tab (λ e. omega (arith, leb-true digit_zero b (and_left (nat_le digit_zero b) (nat_le b digit_nine) t))) in
    let q : suc (digit_run bs) < suc (length bs) → slice_index bs (digit_run bs) ≡ tab = rw t at h in
    rw (t, other) (ap suc (run_field bs (λ l. q (omega arith)))))
    (λ f. let q : 0 < suc (length bs) → b ≡ tab = rw f at h in rw (f, eq-eqb b tab (q (omega arith))))

all_run : (bs : List ℕ) → digit_run bs < length bs → (slice_index bs (digit_run bs) ≢ tab) → all is_digit (up_to tab bs) ≡ false
unfolding digit_run find all
all_run [] h n = absurd (omega arith)
all_run (b ∷ bs) h n =
    true_or_false (is_digit b)
    (λ t.
    let other : nat_eq b tab ≡ false = ne_eqb b tab (λ e. omega (arith, leb-true digit_zero b (and_left (nat_le digit_zero b) (nat_le b digit_nine) t))) in
    let l : suc (digit_run bs) < suc (length bs) = rw t at h in
    let m : slice_index_or bs (digit_run bs) 0 ≡ tab → ⊥ = rw t at n in
    rw (other, t) (all_run bs (omega arith) m))
    (λ f. let m : b ≡ tab → ⊥ = rw f at n in rw (ne_eqb b tab m, f))

module _ (top : ℕ) (bs : List ℕ) where
  pub field_run : (digit_run bs < length bs → slice_index bs (digit_run bs) ≡ tab) → (find tab bs ≡ digit_run bs) × (number_up_to top (up_to tab bs) ≡ number_up_to top (run bs))
  field_run h = let e = run_field bs h in (e, rw e)

  pub field_other : digit_run bs < length bs → (slice_index bs (digit_run bs) ≢ tab) → number_up_to top (up_to tab bs) ≡ none
  unfolding number_up_to
  field_other h n = digits_none top (up_to tab bs) (unfold number_from in rw (all_run bs h n))

  pub field_none : number_up_to top (run bs) ≡ none → number_up_to top (up_to tab bs) ≡ none
  field_none e =
      by_cases (dec_lt (digit_run bs) (length bs))
      (λ l. by_cases (ℕ_discrete (slice_index bs (digit_run bs)) tab) (λ t. (field_run (λ m. t)).1 ∙ e) (λ n. field_other l n))
      (λ n. (field_run (λ l. absurd (n l))).1 ∙ e)

-- the digits in front are all the bytes, or the bytes are no number
part_run : (bs : List ℕ) → digit_run bs < length bs → all is_digit bs ≡ false
unfolding digit_run all
part_run [] h = absurd (omega arith)
part_run (b ∷ bs) h =
    true_or_false (is_digit b)
    (λ t. let l : suc (digit_run bs) < suc (length bs) = rw t at h in rw t (part_run bs (omega arith)))
    (λ f. rw f)

module _ (top : ℕ) (bs : List ℕ) where
  pub run_whole : length bs ≤ digit_run bs → number_up_to top (run bs) ≡ number_up_to top bs
  run_whole h = ap (number_up_to top) (take_all (digit_run bs) bs h)

  pub run_part : digit_run bs < length bs → number_up_to top bs ≡ none
  run_part h = digits_none top bs (unfold number_from in rw (part_run bs h))

  pub run_nothing : number_up_to top (run bs) ≡ none → number_up_to top bs ≡ none
  run_nothing e = by_cases (dec_lt (digit_run bs) (length bs)) (λ l. run_part l) (λ n. sym (run_whole (omega (arith, n))) ∙ e)

-- the value of a byte as a hexadecimal digit, and 16 where it is none
abbrev pub hex_value : ℕ → ℕ
hex_value b = cond (is_hex b) (hex_digit b) 16

module _ (b : ℕ) where
  pub hex_low : digit_zero ≤ b → b ≤ digit_nine → hex_value b ≡ b - digit_zero
  hex_low l h = rw (le-leb digit_zero b l, le-leb b digit_nine h)

  pub hex_high : digit_a ≤ b → b ≤ digit_f → hex_value b ≡ b - (digit_a - 10)
  hex_high l h = rw (le-leb digit_zero b (omega arith), lt-leb b digit_nine (omega arith), le-leb digit_a b l, le-leb b digit_f h)

  -- between the digits and the letters, and outside
  pub hex_none : (digit_zero ≤ b → b ≤ digit_nine → ⊥) → (digit_a ≤ b → b ≤ digit_f → ⊥) → hex_value b ≡ 16
  hex_none p q =
      let digit : is_hex b ≡ false =
      not_true (is_hex b) (λ e. or_cases (is_digit b) (nat_le digit_a b && nat_le b digit_f) e
      (λ e. p (leb-true digit_zero b (and_left (nat_le digit_zero b) (nat_le b digit_nine) e)) (leb-true b digit_nine (and_right (nat_le digit_zero b) (nat_le b digit_nine) e)))
      (λ e. q (leb-true digit_a b (and_left (nat_le digit_a b) (nat_le b digit_f) e)) (leb-true b digit_f (and_right (nat_le digit_a b) (nat_le b digit_f) e)))) in
      rw digit

  hex_small : is_hex b ≡ true → hex_value b < 16
  hex_small e =
      or_cases (is_digit b) (nat_le digit_a b && nat_le b digit_f) e
      (λ e. (let l : digit_zero ≤ b = leb-true digit_zero b (and_left (nat_le digit_zero b) (nat_le b digit_nine) e) in
      let h : b ≤ digit_nine = leb-true b digit_nine (and_right (nat_le digit_zero b) (nat_le b digit_nine) e) in
      omega (arith, hex_low l h)))
      (λ e. (let l : digit_a ≤ b = leb-true digit_a b (and_left (nat_le digit_a b) (nat_le b digit_f) e) in
      let h : b ≤ digit_f = leb-true b digit_f (and_right (nat_le digit_a b) (nat_le b digit_f) e) in
      omega (arith, hex_high l h)))

  is_hex_lem : (hex_value b ≢ 16) → is_hex b ≡ true
  is_hex_lem n = not_false (is_hex b) (λ e. n (rw e))

  no_hex : hex_value b ≡ 16 → is_hex b ≡ false
  no_hex n = not_true (is_hex b) (λ e. omega (arith, hex_small e))

-- the bits that the digits left give behind v
unfoldable pub pattern_from : ℕ → List ℕ → Option ℕ
pattern_from v bs = cond (all is_hex bs) (some (hexadecimal v bs)) none

module _ (v : ℕ) (l : List ℕ) (i d : ℕ) (h : i < length l) (is : d ≡ hex_value (slice_index l i)) where
  pub pattern_next : (d ≢ 16) → pattern_from v (drop i l) ≡ pattern_from (v * 16 + d) (drop (i + 1) l)
  unfolding pattern_from all hexadecimal
  pattern_next n =
      let hex : is_hex (slice_index l i) ≡ true = is_hex_lem (slice_index l i) (λ e. n (is ∙ e)) in
      let digit : d ≡ hex_digit (slice_index l i) = is ∙ rw hex in
      rw (digit, drop_next l i h, hex)

  pub pattern_digit : (d ≢ 16) → d < 16
  pattern_digit n = omega (arith, hex_small (slice_index l i) (is_hex_lem (slice_index l i) (λ e. n (is ∙ e))))

  pub pattern_bad : d ≡ 16 → pattern_from v (drop i l) ≡ none
  unfolding pattern_from all
  pattern_bad e = rw (drop_next l i h, no_hex (slice_index l i) (sym is ∙ e))

pub pattern_end : (v : ℕ) (l : List ℕ) (i : ℕ) → length l ≤ i → pattern_from v (drop i l) ≡ some v
unfolding pattern_from all hexadecimal
pattern_end v l i h = rw (drop_of_length-le l h)

pub pattern_starts : (l : List ℕ) → length l ≡ 16 → pattern l ≡ pattern_from 0 l
unfolding pattern pattern_from
pattern_starts l e = rw (eq-eqb (length l) 16 e)

pub pattern_other : (l : List ℕ) → (length l ≢ 16) → pattern l ≡ none
unfolding pattern
pattern_other l n = rw (ne_eqb (length l) 16 n)

-- i digits fill 4 i bits
pub hex_room : (v i d : ℕ) → v < 16 ^ i → d < 16 → v * 16 + d < 16 ^ (i + 1)
hex_room v i d h b = rw (add-one i, pow-suc 16 i) (omega arith)

pub room_left : (v i : ℕ) → v < 16 ^ i → i < 16 → v < 16 ^ 15
room_left v i h b =
    let most : 16 ^ i ≤ 16 ^ 15 = pow-le-pow_right {n = 16} (omega arith) {i = i} {j = 15} (omega arith) in
    omega arith

-- the patterns of a NaN: those above an infinity's, the sign aside
nan_itself : (x : Float) → is_nan x ≡ true → x ≡ nan
unfolding is_nan
nan_itself nan e = refl
nan_itself (inf s) e = absurd (false≢true e)
nan_itself (fin s m k) e = absurd (false≢true e)

abbrev pub infinity : ℕ
infinity = 9218868437227405312

abbrev pub sign : ℕ
sign = 9223372036854775808

pub no_number : div binary64 (of_bits binary64 0) (of_bits binary64 0) ≡ nan
unfolding div of_bits
no_number = refl

pub nan_pattern : (p : ℕ) → infinity < p % sign → of_bits binary64 p ≡ nan
nan_pattern p h = nan_itself (of_bits binary64 p) (sym (nan_bits_is binary64 p) ∙ nan_bits_above binary64 p ∙ lt-ltb infinity (p % sign) h)

pub no_nan : (p : ℕ) → p % sign ≤ infinity → T (not (nan_bits binary64 p))
no_nan p h = rw (nan_bits_above binary64 p, le-ltb infinity (p % sign) h) tt
