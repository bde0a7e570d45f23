-- Literals (`lit.rs`) and values (`assignments.rs`). A literal is its code: 2 × variable + 1 when positive, + 0 when negative.
-- A value is 0 or 1, the polarity of the literal that holds, or 2 for unassigned.
use Rattle.std.specs.Prelude.{ℕ, ◌+◌, ◌-◌, ◌*◌, ◌/◌, ◌%◌, Bool, false, ◌||◌, List, [], ◌∷◌, get_or, set, replicate, leb, ltb, eqb}
use Rattle.lit.specs.Numbers.{unassigned}

-- `index`: the variable
abbrev pub index : ℕ → ℕ
index code = code / 2

-- the polarity, 1 or 0, and `is_positive`
abbrev pub polarity : ℕ → ℕ
polarity code = code % 2

abbrev pub is_positive : ℕ → Bool
is_positive code = eqb (polarity code) 1

-- `Lit::new`
abbrev pub new : ℕ → ℕ → ℕ
new v p = 2 * v + p

-- `not`: the same variable, the other polarity
abbrev pub negation : ℕ → ℕ
negation code = new (index code) (1 - polarity code)

-- `check_lit_invariant`
abbrev pub check_lit_invariant : ℕ → ℕ → Bool
check_lit_invariant code n = ltb (index code) n

-- the value of the literal's variable, and the tests on it
abbrev pub value_of : ℕ → List ℕ → ℕ
value_of code values = get_or values (index code) 0

abbrev pub lit_sat : ℕ → List ℕ → Bool
lit_sat code values = eqb (value_of code values) (polarity code)

abbrev pub lit_unsat : ℕ → List ℕ → Bool
lit_unsat code values = eqb (value_of code values) (1 - polarity code)

abbrev pub lit_unset : ℕ → List ℕ → Bool
lit_unset code values = leb unassigned (value_of code values)

abbrev pub lit_set : ℕ → List ℕ → Bool
lit_set code values = ltb (value_of code values) unassigned

-- `lit_in_clause`
unfoldable pub lit_in_clause : ℕ → List ℕ → Bool
lit_in_clause code [] = false
lit_in_clause code (c ∷ cs) = eqb c code || lit_in_clause code cs

-- `Assignments::new`: every variable unassigned
abbrev pub new_assignments : ℕ → List ℕ
new_assignments n = replicate n unassigned

-- `is_assigned` and `set_assignment`
abbrev pub is_assigned : List ℕ → ℕ → Bool
is_assigned values v = ltb (get_or values v 0) unassigned

abbrev pub set_assignment : List ℕ → ℕ → List ℕ
set_assignment values code = set values (index code) (polarity code)
