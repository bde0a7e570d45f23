-- Laws of the text of a call sheet: lines and fields from the front, what was written, and that each number has one text. Assumes nothing.
use Rattle.std.specs.Prelude.{◌≡◌, ℕ, zero, suc, ◌+◌, ◌-◌, ◌*◌, ◌/◌, ◌%◌, ◌^◌, ◌<◌, ◌≤◌, Bool, true, not, ◌&&◌, ◌≢◌, List, [], ◌∷◌, ◌++◌, length, take, drop, ◌==◌, nat_le, nat_lt, slice_index, slice_set}
use Rattle.std.proofs.Math.Path.{refl, sym, ap}
use Rattle.std.proofs.Common.{◌∙◌, add-one, pow-suc, length-append, length-set}
use Rattle.std.proofs.lemmas.Bool.{false≢true}
use Rattle.std.proofs.Math.Option.{none, some}
use mathlib.Core.List.{append-nil}
use native.Mathlib.Omega.{arith}
use borrow.Author.Tests.{le-leb, lt-ltb, le-ltb, ltb-true, ltb-false, leb-true, eqb-false}
use borrow.Author.Tests as tests
use Rattle.std.proofs.Math.ListN.{get_or-append}
use Rattle.std.proofs.Math.Seq.{append_snoc}
use Rattle.std.proofs.lemmas.List.{set_comm}
use Rattle.laws.specs.Tests.{true_or_false, and_left, and_right, and_both}
use Rattle.lit.specs.Numbers.{NONE}
use Rattle.forms.specs.Letters.{digit_zero, digit_nine}
use Rattle.forms.specs.Text.{newline, split_from, split, but_last, lines, occurs, find, all, is_digit, decimal, plain, number_up_to, digits_by, digits, written}
use Rattle.forms.specs.Reading.{decimal_grows, plain_starts}

-- the first such byte, and how many there are
module _ (b : ℕ) where
  pub find_length : (bs : List ℕ) → find b bs ≤ length bs
  unfolding find
  find_length [] = omega arith
  find_length (c ∷ cs) = true_or_false (c == b) (λ e. rw e (omega arith)) (λ e. rw e (omega (arith, find_length cs)))

  pub occurs_length : (bs : List ℕ) → occurs b bs ≤ length bs
  unfolding occurs
  occurs_length [] = omega arith
  occurs_length (c ∷ cs) = true_or_false (c == b) (λ e. rw e (omega (arith, occurs_length cs))) (λ e. rw e (omega (arith, occurs_length cs)))

  pub occurs_found : (bs : List ℕ) → 0 < occurs b bs → find b bs < length bs
  unfolding occurs find
  occurs_found [] h = absurd (omega arith)
  occurs_found (c ∷ cs) h =
      true_or_false (c == b)
      (λ e. rw e (omega arith))
      (λ e. let q : 0 < occurs b cs = rw e at h in rw e (omega (arith, occurs_found cs q)))

  pub occurs_none : (bs : List ℕ) → occurs b bs ≡ 0 → find b bs ≡ length bs
  unfolding occurs find
  occurs_none [] h = refl
  occurs_none (c ∷ cs) h =
      true_or_false (c == b)
      (λ e. let q : suc (occurs b cs) ≡ 0 = rw e at h in absurd (omega arith))
      (λ e. let q : occurs b cs ≡ 0 = rw e at h in rw e (ap suc (occurs_none cs q)))

  occurs_on : (bs : List ℕ) → find b bs < length bs → occurs b bs ≡ suc (occurs b (drop (suc (find b bs)) bs))
  unfolding occurs find
  occurs_on [] h = absurd (omega arith)
  occurs_on (c ∷ cs) h =
      true_or_false (c == b)
      (λ e. rw e)
      (λ e. let q : suc (find b cs) < suc (length cs) = rw e at h in rw e (occurs_on cs (omega arith)))

  -- counted down: one less behind the first
  pub occurs_next : (bs : List ℕ) → find b bs < length bs → occurs b bs ≡ suc (occurs b (drop (find b bs + 1) bs))
  occurs_next bs h = rw (add-one (find b bs)) (occurs_on bs h)

-- the pieces, one by one
module _ (sep : ℕ) where
  split_on : (piece bs : List ℕ) → find sep bs < length bs → split_from sep piece bs ≡ (piece ++ take (find sep bs) bs) ∷ split_from sep [] (drop (suc (find sep bs)) bs)
  unfolding split_from find
  split_on piece [] h = absurd (omega arith)
  split_on piece (b ∷ bs) h =
      true_or_false (b == sep)
      (λ e. rw (e, append-nil piece))
      (λ e. let q : suc (find sep bs) < suc (length bs) = rw e at h in rw e (split_on (piece ++ (b ∷ [])) bs (omega arith) ∙ rw (append_snoc piece b (take (find sep bs) bs))))

  split_end : (piece bs : List ℕ) → find sep bs ≡ length bs → split_from sep piece bs ≡ (piece ++ bs) ∷ []
  unfolding split_from find
  split_end piece [] h = rw (append-nil piece)
  split_end piece (b ∷ bs) h =
      true_or_false (b == sep)
      (λ e. let q : 0 ≡ suc (length bs) = rw e at h in absurd (omega arith))
      (λ e. let q : suc (find sep bs) ≡ suc (length bs) = rw e at h in rw e (split_end (piece ++ (b ∷ [])) bs (omega arith) ∙ rw (append_snoc piece b bs)))

  pub split_found : (bs : List ℕ) → find sep bs < length bs → split sep bs ≡ take (find sep bs) bs ∷ split sep (drop (find sep bs + 1) bs)
  split_found bs h = rw (add-one (find sep bs)) (split_on [] bs h)

  pub split_last : (bs : List ℕ) → find sep bs ≡ length bs → split sep bs ≡ bs ∷ []
  split_last bs h = split_end [] bs h

  -- one more than the separators
  split_count : (piece bs : List ℕ) → length (split_from sep piece bs) ≡ suc (occurs sep bs)
  unfolding split_from occurs
  split_count piece [] = refl
  split_count piece (b ∷ bs) = true_or_false (b == sep) (λ e. rw e (ap suc (split_count [] bs))) (λ e. rw e (split_count (piece ++ (b ∷ [])) bs))

  pub split_length : (bs : List ℕ) → length (split sep bs) ≡ suc (occurs sep bs)
  split_length bs = split_count [] bs

but_cons : (p : List ℕ) (ps : List (List ℕ)) → 0 < length ps → but_last (p ∷ ps) ≡ p ∷ but_last ps
unfolding but_last
but_cons p [] h = absurd (omega arith)
but_cons p (q ∷ ps) h = refl

but_length : (ps : List (List ℕ)) → length (but_last ps) ≡ length ps - 1
unfolding but_last
but_length [] = refl
but_length (p ∷ []) = refl
but_length (p ∷ (q ∷ ps)) = omega (arith, but_length (q ∷ ps))

-- the lines, one by one
pub lines_next : (bs : List ℕ) → find newline bs < length bs → lines bs ≡ take (find newline bs) bs ∷ lines (drop (find newline bs + 1) bs)
lines_next bs h =
    let rest = drop (find newline bs + 1) bs in
    ap but_last (split_found newline bs h) ∙ but_cons (take (find newline bs) bs) (split newline rest) (omega (arith, split_length newline rest))

pub lines_end : (bs : List ℕ) → occurs newline bs ≡ 0 → lines bs ≡ []
unfolding but_last
lines_end bs h = ap but_last (split_last newline bs (occurs_none newline bs h))

pub lines_length : (bs : List ℕ) → length (lines bs) ≡ occurs newline bs
lines_length bs = omega (arith, but_length (split newline bs), split_length newline bs)

-- what was written
pub written_append : (at : ℕ) (a b l : List ℕ) → written at (a ++ b) l ≡ written (at + length a) b (written at a l)
unfolding written
written_append at [] b l = let e : at + 0 ≡ at = omega arith in rw e
written_append at (x ∷ a) b l =
    let e : at + suc (length a) ≡ at + 1 + length a = omega arith in
    rw e (written_append (at + 1) a b (slice_set l at x))

pub written_length : (at : ℕ) (bs l : List ℕ) → length (written at bs l) ≡ length l
unfolding written
written_length at [] l = refl
written_length at (b ∷ bs) l = written_length (at + 1) bs (slice_set l at b) ∙ length-set l at b

-- the last byte may be written first
pub written_last : (at x : ℕ) (bs l : List ℕ) → written at (bs ++ (x ∷ [])) l ≡ written at bs (slice_set l (at + length bs) x)
unfolding written
written_last at x [] l = let e : at + 0 ≡ at = omega arith in rw e
written_last at x (b ∷ bs) l =
    let e : at + 1 + length bs ≡ at + length (b ∷ bs) = omega arith in
    rw (set_comm l (at + length (b ∷ bs)) at x b (λ q. omega arith)) (rw e at (written_last (at + 1) x bs (slice_set l at b)))

-- the digits of a number
tenth : (k n : ℕ) → n < 10 ^ suc k → n / 10 < 10 ^ k
tenth k n h = omega (arith, pow-suc 10 k)

-- places that are not needed change nothing
pub digits_enough : (j k n : ℕ) → n < 10 ^ suc j → n < 10 ^ suc k → digits_by (suc j) n ≡ digits_by (suc k) n
unfolding digits_by
digits_enough zero k n p q = rw (lt-ltb n 10 p)
digits_enough (suc j) zero n p q = rw (lt-ltb n 10 q)
digits_enough (suc j) (suc k) n p q =
    true_or_false (nat_lt n 10)
    (λ e. rw e)
    (λ e. rw (e, digits_enough j k (n / 10) (tenth (suc j) n p) (tenth (suc k) n q)))

-- so a whole number has the digits that it has as one of 64 bits
pub whole_digits : (n : ℕ) → n ≤ NONE → digits_by 20 n ≡ digits n
whole_digits n h = digits_enough 19 9 n (omega arith) (omega arith)

-- of numbers of at most j + 2 digits
module _ (j : ℕ) where
  abbrev pub decimals : ℕ → List ℕ
  decimals n = digits_by (suc (suc j)) n

  pub decimals_one : (n : ℕ) → n < 10 → decimals n ≡ (digit_zero + n) ∷ []
  unfolding digits_by
  decimals_one n h = rw (lt-ltb n 10 h)

  decimals_more : (n : ℕ) → 10 ≤ n → decimals n ≡ digits_by (suc j) (n / 10) ++ ((digit_zero + n % 10) ∷ [])
  unfolding digits_by
  decimals_more n h = rw (le-ltb n 10 h)

  pub decimals_step : (n : ℕ) → 10 ≤ n → n < 10 ^ suc (suc j) → decimals n ≡ decimals (n / 10) ++ ((digit_zero + n % 10) ∷ [])
  decimals_step n l h =
      let less : n / 10 < 10 ^ suc j = tenth (suc j) n h in
      decimals_more n l ∙ rw (digits_enough j (suc j) (n / 10) less (omega (arith, less, pow-suc 10 (suc j))))

  pub decimals_length : (n : ℕ) → 10 ≤ n → n < 10 ^ suc (suc j) → length (decimals n) ≡ length (decimals (n / 10)) + 1
  decimals_length n l h = ap length (decimals_step n l h) ∙ length-append (decimals (n / 10)) ((digit_zero + n % 10) ∷ [])

  -- how many they are
  pub decimals_count : (k n : ℕ) → 10 ^ suc k ≤ n → n < 10 ^ suc (suc k) → n < 10 ^ suc (suc j) → length (decimals n) ≡ suc (suc k)
  decimals_count zero n l u h =
      let e : length (decimals (n / 10)) ≡ 1 = ap length (decimals_one (n / 10) (omega arith)) in
      omega (arith, decimals_length n (omega arith) h)
  decimals_count (suc k) n l u h =
      let e : length (decimals (n / 10)) ≡ suc (suc k) = decimals_count k (n / 10) (omega (arith, pow-suc 10 (suc k))) (tenth (suc (suc k)) n u) (omega arith) in
      omega (arith, decimals_length n (omega (arith, pow-suc 10 (suc k), pow-suc 10 k)) h)

  -- the last digit, written before the others
  pub decimals_last_first : (at n : ℕ) (l : List ℕ) → 10 ≤ n → n < 10 ^ suc (suc j) → written at (decimals n) l ≡ written at (decimals (n / 10)) (slice_set l (at + length (decimals (n / 10))) (digit_zero + n % 10))
  decimals_last_first at n l h u = rw (decimals_step n h u) (written_last at (digit_zero + n % 10) (decimals (n / 10)) l)

  -- a digit alone
  pub put_decimal : (at n : ℕ) (l : List ℕ) → n < 10 → slice_set l at (digit_zero + n) ≡ written at (decimals n) l
  unfolding written
  put_decimal at n l h = rw (decimals_one n h)

pub digits_short : (k j n : ℕ) → n < 10 ^ suc k → length (digits_by j n) ≤ suc k
unfolding digits_by
digits_short k zero n h = omega arith
digits_short zero (suc j) n h = rw (lt-ltb n 10 h) (omega arith)
digits_short (suc k) (suc j) n h =
    true_or_false (nat_lt n 10)
    (λ e. rw e (omega arith))
    (λ e. rw (e, length-append (digits_by j (n / 10)) ((digit_zero + n % 10) ∷ [])) (omega (arith, digits_short k j (n / 10) (tenth (suc k) n h))))

pub digits_room : (j n : ℕ) → length (digits_by j n) ≤ j
unfolding digits_by
digits_room zero n = omega arith
digits_room (suc j) n =
    true_or_false (nat_lt n 10)
    (λ e. rw e (omega arith))
    (λ e. rw (e, length-append (digits_by j (n / 10)) ((digit_zero + n % 10) ∷ [])) (omega (arith, digits_room j (n / 10))))

pub digits_some : (j n : ℕ) → 0 < length (digits_by (suc j) n)
unfolding digits_by
digits_some j n =
    true_or_false (nat_lt n 10)
    (λ e. rw e (omega arith))
    (λ e. rw (e, length-append (digits_by j (n / 10)) ((digit_zero + n % 10) ∷ [])) (omega arith))

pub digits_two : (n : ℕ) → n < 100 → length (digits n) ≤ 2
digits_two n h = digits_short 1 10 n h

pub digits_five : (n : ℕ) → n < 100000 → length (digits n) ≤ 5
digits_five n h = digits_short 4 10 n h

-- all of them are digits
all_append : (p : ℕ → Bool) (a b : List ℕ) → all p a ≡ true → all p b ≡ true → all p (a ++ b) ≡ true
unfolding all
all_append p [] b e q = q
all_append p (x ∷ a) b e q = and_both (and_left (p x) (all p a) e) (all_append p a b (and_right (p x) (all p a) e) q)

all_none : (p : ℕ → Bool) → all p [] ≡ true
unfolding all
all_none p = refl

one_digit : (n : ℕ) → n < 10 → all is_digit ((digit_zero + n) ∷ []) ≡ true
unfolding all
one_digit n h = rw (le-leb digit_zero (digit_zero + n) (omega arith), le-leb (digit_zero + n) digit_nine (omega arith))

pub digits_all : (j n : ℕ) → all is_digit (digits_by j n) ≡ true
unfolding digits_by
digits_all zero n = all_none is_digit
digits_all (suc j) n =
    true_or_false (nat_lt n 10)
    (λ e. rw e (one_digit n (ltb-true n 10 e)))
    (λ e. rw e (all_append is_digit (digits_by j (n / 10)) ((digit_zero + n % 10) ∷ []) (digits_all j (n / 10)) (one_digit (n % 10) (omega arith))))

-- the number of the digits is the number
decimal_append : (v : ℕ) (a b : List ℕ) → decimal v (a ++ b) ≡ decimal (decimal v a) b
unfolding decimal
decimal_append v [] b = refl
decimal_append v (x ∷ a) b = decimal_append (v * 10 + (x - digit_zero)) a b

decimal_digits : (j n : ℕ) → n < 10 ^ suc j → decimal 0 (digits_by (suc j) n) ≡ n
unfolding digits_by decimal
decimal_digits zero n h = rw (lt-ltb n 10 h) (omega arith)
decimal_digits (suc j) n h =
    true_or_false (nat_lt n 10)
    (λ e. rw e (omega arith))
    (λ e. rw (e, decimal_append 0 (digits_by (suc j) (n / 10)) ((digit_zero + n % 10) ∷ []), decimal_digits j (n / 10) (tenth (suc j) n h)) (omega arith))

-- no zero leads
digits_lead : (j n : ℕ) → 0 < n → n < 10 ^ suc j → digit_zero < slice_index (digits_by (suc j) n) 0
unfolding digits_by
digits_lead zero n l h = rw (lt-ltb n 10 h) (omega arith)
digits_lead (suc j) n l h =
    true_or_false (nat_lt n 10)
    (λ e. rw e (omega arith))
    (λ e. (let m : 10 ≤ n = ltb-false n 10 e in
    rw (e, get_or-append (digits_by (suc j) (n / 10)) ((digit_zero + n % 10) ∷ []) 0 0 (digits_some j (n / 10))) (digits_lead j (n / 10) (omega arith) (tenth (suc j) n h))))

-- of numbers of at most j + 2 digits, the greatest of which is top
module _ (j top : ℕ) (room : top < 10 ^ suc (suc j)) where
  decimals_plain : (n : ℕ) → n ≤ top → plain (decimals j n) ≡ true
  decimals_plain n h =
      plain_starts (decimals j n) (digits_some (suc j) n)
      (λ z more. true_or_false (nat_lt n 10)
      (λ e. omega (arith, ap length (decimals_one j n (ltb-true n 10 e))))
      (λ e. (let m : 10 ≤ n = ltb-false n 10 e in omega (arith, digits_lead (suc j) n (omega arith) (omega arith)))))
      ∙ digits_all (suc (suc j)) n

  -- a number's digits are read as the number
  pub number_decimals : (n : ℕ) → n ≤ top → number_up_to top (decimals j n) ≡ some n
  unfolding number_up_to
  number_decimals n h = rw (decimals_plain n h, decimal_digits (suc j) n (omega arith), le-leb n top h)

  -- and no other text is
  decimals_decimal : (v : ℕ) (bs : List ℕ) → 0 < v → all is_digit bs ≡ true → decimal v bs ≤ top → decimals j (decimal v bs) ≡ decimals j v ++ bs
  unfolding all decimal
  decimals_decimal v [] p d h = sym (append-nil (decimals j v))
  decimals_decimal v (b ∷ bs) p d h =
      let w = v * 10 + (b - digit_zero) in
      let first : is_digit b ≡ true = and_left (is_digit b) (all is_digit bs) d in
      let low : digit_zero ≤ b = leb-true digit_zero b (and_left (nat_le digit_zero b) (nat_le b digit_nine) first) in
      let high : b ≤ digit_nine = leb-true b digit_nine (and_right (nat_le digit_zero b) (nat_le b digit_nine) first) in
      let tens : w / 10 ≡ v = omega arith in
      let last : digit_zero + w % 10 ≡ b = omega arith in
      decimals_decimal w bs (omega arith) (and_right (is_digit b) (all is_digit bs) d) h
      ∙ rw (decimals_step j w (omega arith) (omega (arith, decimal_grows w bs)), tens, last) (append_snoc (decimals j v) b bs)

  plain_text : (bs : List ℕ) → plain bs ≡ true → decimal 0 bs ≤ top → decimals j (decimal 0 bs) ≡ bs
  unfolding plain decimal
  plain_text [] d h = absurd (false≢true d)
  plain_text (b ∷ []) d h =
      let low : digit_zero ≤ b = leb-true digit_zero b (and_left (nat_le digit_zero b) (nat_le b digit_nine) d) in
      let high : b ≤ digit_nine = leb-true b digit_nine (and_right (nat_le digit_zero b) (nat_le b digit_nine) d) in
      let v = 0 * 10 + (b - digit_zero) in
      let same : digit_zero + v ≡ b = omega arith in
      decimals_one j v (omega arith) ∙ rw same
  plain_text (b ∷ (c ∷ bs)) d h =
      let rest = all is_digit (c ∷ bs) in
      let first : is_digit b && not (b == digit_zero) ≡ true = and_left (is_digit b && not (b == digit_zero)) rest d in
      let digit : is_digit b ≡ true = and_left (is_digit b) (not (b == digit_zero)) first in
      let low : digit_zero ≤ b = leb-true digit_zero b (and_left (nat_le digit_zero b) (nat_le b digit_nine) digit) in
      let high : b ≤ digit_nine = leb-true b digit_nine (and_right (nat_le digit_zero b) (nat_le b digit_nine) digit) in
      let other : b ≢ digit_zero = eqb-false b digit_zero (tests.not-true (b == digit_zero) (and_right (is_digit b) (not (b == digit_zero)) first)) in
      let v = 0 * 10 + (b - digit_zero) in
      let same : digit_zero + v ≡ b = omega arith in
      decimals_decimal v (c ∷ bs) (omega arith) (and_right (is_digit b && not (b == digit_zero)) rest d) h ∙ rw (decimals_one j v (omega arith), same)

  pub number_text : (bs : List ℕ) (n : ℕ) → number_up_to top bs ≡ some n → bs ≡ decimals j n
  unfolding number_up_to
  number_text bs n e =
      true_or_false (plain bs && nat_le (decimal 0 bs) top)
      (λ t. (let v : some (decimal 0 bs) ≡ some n = rw t at e in
      let m : decimal 0 bs ≡ n = cc in
      let small : decimal 0 bs ≤ top = leb-true (decimal 0 bs) top (and_right (plain bs) (nat_le (decimal 0 bs) top) t) in
      sym (plain_text bs (and_left (plain bs) (nat_le (decimal 0 bs) top) t) small) ∙ ap (decimals j) m))
      (λ t. (let v : none ≡ some n = rw t at e in
      let z : ◌≡◌ {A = ℕ} 0 1 = cc in
      absurd (omega arith)))
