-- The bytes of a call sheet that have a meaning, each named once: the letter of each call, of clause lines and of the first line, digits, the dash,
-- and the words of the modes. `src/letters.rt` has them for code.
use Rattle.std.specs.Prelude.{◌≡◌, ℕ, List, [], ◌∷◌, refl}

-- 'Calls': b, y, w, i, o, g, e, u, k, r and f
abbrev pub bump_letter : ℕ
bump_letter = 98

abbrev pub decay_letter : ℕ
decay_letter = 121

abbrev pub set_decay_letter : ℕ
set_decay_letter = 119

abbrev pub insert_letter : ℕ
insert_letter = 105

abbrev pub switch_off_letter : ℕ
switch_off_letter = 111

abbrev pub decide_letter : ℕ
decide_letter = 103

abbrev pub enqueue_letter : ℕ
enqueue_letter = 101

abbrev pub learn_unit_letter : ℕ
learn_unit_letter = 117

abbrev pub go_back_letter : ℕ
go_back_letter = 107

abbrev pub bump_reason_letter : ℕ
bump_reason_letter = 114

abbrev pub group_letter : ℕ
group_letter = 102

-- 'clause lines `c`'
abbrev pub clause_letter : ℕ
clause_letter = 99

-- 'First line: `n`, N, `vsids` or `vmtf`.'
abbrev pub first_letter : ℕ
first_letter = 110

abbrev pub vsids_text : List ℕ
vsids_text = 118 ∷ 115 ∷ 105 ∷ 100 ∷ 115 ∷ []

abbrev pub vmtf_text : List ℕ
vmtf_text = 118 ∷ 109 ∷ 116 ∷ 102 ∷ []

-- '`-` for NONE'
abbrev pub dash : ℕ
dash = 45

-- the decimal digits 0 and 9, and the first and last hexadecimal digit above them, a and f
abbrev pub digit_zero : ℕ
digit_zero = 48

abbrev pub digit_nine : ℕ
digit_nine = 57

abbrev pub digit_a : ℕ
digit_a = 97

abbrev pub digit_f : ℕ
digit_f = 102

-- So the bytes are, in this order: b, y, w, i, o, g, e, u, k, r, f; c, n; the dash; 0, 9, a, f
pub letters_are : bump_letter ∷ decay_letter ∷ set_decay_letter ∷ insert_letter ∷ switch_off_letter ∷ decide_letter ∷ enqueue_letter ∷ learn_unit_letter ∷ go_back_letter ∷ bump_reason_letter ∷ group_letter ∷ clause_letter ∷ first_letter ∷ dash ∷ digit_zero ∷ digit_nine ∷ digit_a ∷ digit_f ∷ []
    ≡ 98 ∷ 121 ∷ 119 ∷ 105 ∷ 111 ∷ 103 ∷ 101 ∷ 117 ∷ 107 ∷ 114 ∷ 102 ∷ 99 ∷ 110 ∷ 45 ∷ 48 ∷ 57 ∷ 97 ∷ 102 ∷ []
letters_are = refl
