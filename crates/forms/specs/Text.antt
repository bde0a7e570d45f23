-- The text of a call sheet: lines, fields, whole numbers and bit patterns, and the digits that answers are written in. Bytes are numbers.
use Rattle.std.specs.Prelude.{ℕ, zero, suc, ◌+◌, ◌-◌, ◌*◌, ◌/◌, ◌%◌, Bool, true, false, cond, not, ◌&&◌, ◌||◌, List, [], ◌∷◌, ◌++◌, length, ◌==◌, nat_le, nat_lt, slice_set}
use Rattle.std.proofs.Math.Option.{Option, none, some}
use Rattle.lit.specs.Numbers.{NONE}
use Rattle.forms.specs.Letters.{digit_zero, digit_nine, digit_a, digit_f}

abbrev pub tab : ℕ
tab = 9

abbrev pub newline : ℕ
newline = 10

-- the pieces between the separators, at least one; `piece` is what has been read of the first
unfoldable pub split_from : ℕ → List ℕ → List ℕ → List (List ℕ)
split_from sep piece [] = piece ∷ []
split_from sep piece (b ∷ bs) = cond (b == sep) (piece ∷ split_from sep [] bs) (split_from sep (piece ++ (b ∷ [])) bs)

abbrev pub split : ℕ → List ℕ → List (List ℕ)
split sep bs = split_from sep [] bs

-- 'Fields are parted by tabs.'
abbrev pub fields : List ℕ → List (List ℕ)
fields line = split tab line

-- all but the last
unfoldable pub but_last : List (List ℕ) → List (List ℕ)
but_last [] = []
but_last (p ∷ []) = []
but_last (p ∷ (q ∷ ps)) = p ∷ but_last (q ∷ ps)

-- 'Lines end in a newline; bytes after the last newline are ignored.'
abbrev pub lines : List ℕ → List (List ℕ)
lines bytes = but_last (split newline bytes)

-- how often a byte stands in the bytes
unfoldable pub occurs : ℕ → List ℕ → ℕ
occurs b [] = 0
occurs b (c ∷ cs) = cond (c == b) (suc (occurs b cs)) (occurs b cs)

-- the place of the first such byte, or the length
unfoldable pub find : ℕ → List ℕ → ℕ
find b [] = 0
find b (c ∷ cs) = cond (c == b) 0 (suc (find b cs))

-- a test of every byte
unfoldable pub all : (ℕ → Bool) → List ℕ → Bool
all p [] = true
all p (b ∷ bs) = p b && all p bs

-- the decimal digits 0 to 9
abbrev pub is_digit : ℕ → Bool
is_digit b = nat_le digit_zero b && nat_le b digit_nine

-- the number that digits give, read from the left behind v
unfoldable pub decimal : ℕ → List ℕ → ℕ
decimal v [] = v
decimal v (b ∷ bs) = decimal (v * 10 + (b - digit_zero)) bs

-- digits, at least one, and no zero leading
unfoldable pub plain : List ℕ → Bool
plain [] = false
plain (b ∷ []) = is_digit b
plain (b ∷ (c ∷ bs)) = (is_digit b && not (b == digit_zero)) && all is_digit (c ∷ bs)

-- a whole number up to the greatest that may stand there
unfoldable pub number_up_to : ℕ → List ℕ → Option ℕ
number_up_to top bs = cond (plain bs && nat_le (decimal 0 bs) top) (some (decimal 0 bs)) none

-- 'Whole numbers are decimal, no leading zeros, at most 4294967295.'
abbrev pub number : List ℕ → Option ℕ
number bs = number_up_to NONE bs

-- the lower-case hexadecimal digits 0 to 9 and a to f
abbrev pub is_hex : ℕ → Bool
is_hex b = is_digit b || (nat_le digit_a b && nat_le b digit_f)

abbrev pub hex_digit : ℕ → ℕ
hex_digit b = cond (nat_le b digit_nine) (b - digit_zero) (b - (digit_a - 10))

unfoldable pub hexadecimal : ℕ → List ℕ → ℕ
hexadecimal v [] = v
hexadecimal v (b ∷ bs) = hexadecimal (v * 16 + hex_digit b) bs

-- '16 lower-case hexadecimal digits': a pattern of 64 bits
unfoldable pub pattern : List ℕ → Option ℕ
pattern bs = cond (length bs == 16 && all is_hex bs) (some (hexadecimal 0 bs)) none

-- the decimal digits of a number, at most k of them
unfoldable pub digits_by : ℕ → ℕ → List ℕ
digits_by zero n = []
digits_by (suc k) n = cond (nat_lt n 10) ((digit_zero + n) ∷ []) (digits_by k (n / 10) ++ ((digit_zero + n % 10) ∷ []))

-- of a number of 32 bits
abbrev pub digits : ℕ → List ℕ
digits n = digits_by 10 n

-- a buffer with the bytes written from a place on
unfoldable pub written : ℕ → List ℕ → List ℕ → List ℕ
written at [] l = l
written at (b ∷ bs) l = written (at + 1) bs (slice_set l at b)
