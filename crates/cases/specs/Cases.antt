-- Cases A to L of document 01 in its order, and its worked sheet. Each is an instance of one claim, `Holds`, and is computed.
use Rattle.std.specs.Prelude.{ℕ, ◌≡◌, refl, [], ◌∷◌, Ok, map}
use Rattle.lit.specs.Numbers.{NONE, switched_on, switched_off}
use Rattle.formula.specs.declared.checks.SatResult.TheVariants.{Err, Sat, Unsat}
use Rattle.formula.specs.Checks.{sat_number, numbers_of, checked_numbers}
use Rattle.vsids.specs.Vsids.{Vsids}
use Rattle.vmtf.specs.Vmtf.{count_lits}
use Rattle.book.specs.Calls.{bump, decay, set_decay, switch_off, decide, learn_unit, go_back, group}
use Rattle.cases.specs.Claim.{Machine, Holds}
use Rattle.cases.specs.Machines.{Clauses, codes, passes, says_none, says, refused, heap_mode, list_mode, Formula, formula_check}
use Rattle.cases.specs.States.{undone, untouched, decided_one, learned_one, zero, one, two, half, usual, e100, e200, step_of, member_one, empty_one, list}
use Rattle.cases.specs.Definitions.{definitions}

-- one variable in heap mode
abbrev single : Machine
single = heap_mode 1 []

-- A. N = 0, either mode: decide says none.
pub case_A_heap : Holds (heap_mode 0 []) (record {
  start = (heap_mode 0 []).fresh;
  calls = decide 0 ∷ decide 1 ∷ [];
  answers = says_none ∷ says_none ∷ [];
  end = (heap_mode 0 []).fresh;
})
unfolding definitions
case_A_heap = (refl, refl)

pub case_A_list : Holds (list_mode 0 []) (record {
  start = (list_mode 0 []).fresh;
  calls = decide 0 ∷ decide 1 ∷ [];
  answers = says_none ∷ says_none ∷ [];
  end = (list_mode 0 []).fresh;
})
unfolding definitions
case_A_list = (refl, refl)

-- B. Counts 1,1,2: list 2,1,0, stamps 3,2,1. No call: the fresh session of two clauses is compared, which have these counts.
abbrev two_clauses : Clauses
two_clauses = (1 ∷ 5 ∷ []) ∷ (2 ∷ 4 ∷ []) ∷ []

abbrev counted : Machine
counted = list_mode 3 two_clauses

pub case_B_counts : count_lits (0 ∷ 0 ∷ 0 ∷ []) (codes two_clauses) ≡ 1 ∷ 1 ∷ 2 ∷ []
unfolding definitions
case_B_counts = refl

pub case_B : Holds counted (record {
  start = counted.fresh;
  calls = [];
  answers = [];
  end = record { trail = untouched 3; chooser = list (2 ∷ 1 ∷ 0 ∷ []) (3 ∷ 2 ∷ 1 ∷ []) 4 2 };
})
unfolding definitions
case_B = (refl, refl)

-- C. List 0,1,2, group 2,1: list 1,2,0, stamps 5,4,3, timestamp 6. Search stays at 0.
pub case_C : Holds (list_mode 3 []) (record {
  start = record { trail = untouched 3; chooser = list (0 ∷ 1 ∷ 2 ∷ []) (3 ∷ 2 ∷ 1 ∷ []) 4 0 };
  calls = group (2 ∷ 1 ∷ []) ∷ [];
  answers = passes ∷ [];
  end = record { trail = untouched 3; chooser = list (1 ∷ 2 ∷ 0 ∷ []) (5 ∷ 4 ∷ 3 ∷ []) 6 0 };
})
unfolding definitions
case_C = (refl, refl)

-- D. vmtf, N = 2: `g`, `g`, `k|0`, `g` gives 0, 1, 2 undone, refusal 14. Search is NONE, past the last.
pub case_D : Holds (list_mode 2 []) (record {
  start = (list_mode 2 []).fresh;
  calls = decide 1 ∷ decide 1 ∷ go_back 0 ∷ decide 1 ∷ [];
  answers = says 0 ∷ says 1 ∷ says 2 ∷ refused 14 ∷ [];
  end = record { trail = undone (1 ∷ 2 ∷ []); chooser = list (0 ∷ 1 ∷ []) (2 ∷ 1 ∷ []) 3 NONE };
})
unfolding definitions
case_D = (refl, refl)

-- E. List 0,1, timestamp 18446744073709551615, group 1: list 1,0, stamps 2,1, timestamp 3.
pub case_E : Holds (list_mode 2 []) (record {
  start = record { trail = untouched 2; chooser = list (0 ∷ 1 ∷ []) (2 ∷ 1 ∷ []) 18446744073709551615 0 };
  calls = group (1 ∷ []) ∷ [];
  answers = passes ∷ [];
  end = record { trail = untouched 2; chooser = list (1 ∷ 0 ∷ []) (2 ∷ 1 ∷ []) 3 0 };
})
unfolding definitions
case_E = (refl, refl)

-- F. Heap of one, decided: its position is NONE.
pub case_F : Holds single (record {
  start = single.fresh;
  calls = decide 1 ∷ [];
  answers = says 0 ∷ [];
  end = record { trail = decided_one; chooser = empty_one switched_on };
})
unfolding definitions
case_F = (refl, refl)

-- G. Activity 1e100, step 1: no scaling. The bump's rounded sum is 1e100 again.
pub case_G : Holds single (record {
  start = record { trail = untouched 1; chooser = member_one e100 (step_of one usual) };
  calls = bump 0 ∷ [];
  answers = passes ∷ [];
  end = record { trail = untouched 1; chooser = member_one e100 (step_of one usual) };
})
unfolding definitions
case_G = (refl, refl)

-- H. Decay 0.5: step 1 becomes 2; decay 1: unchanged.
pub case_H_half : Holds single (record {
  start = single.fresh;
  calls = set_decay half ∷ decay ∷ [];
  answers = passes ∷ passes ∷ [];
  end = record { trail = untouched 1; chooser = member_one zero (step_of two half) };
})
unfolding definitions
case_H_half = (refl, refl)

pub case_H_one : Holds single (record {
  start = single.fresh;
  calls = set_decay one ∷ decay ∷ [];
  answers = passes ∷ passes ∷ [];
  end = record { trail = untouched 1; chooser = member_one zero (step_of one one) };
})
unfolding definitions
case_H_one = (refl, refl)

-- I. Step 1e200: decay 1 passes, 0.5 gets 13.
pub case_I : Holds single (record {
  start = record { trail = untouched 1; chooser = member_one zero (step_of e200 one) };
  calls = decay ∷ set_decay half ∷ decay ∷ [];
  answers = passes ∷ passes ∷ refused 13 ∷ [];
  end = record { trail = untouched 1; chooser = member_one zero (step_of e200 half) };
})
unfolding definitions
case_I = (refl, refl)

-- J. N = 1, variable 0 off: none, heap empty.
pub case_J : Holds single (record {
  start = single.fresh;
  calls = switch_off 0 ∷ decide 1 ∷ [];
  answers = passes ∷ says_none ∷ [];
  end = record { trail = untouched 1; chooser = empty_one switched_off };
})
unfolding definitions
case_J = (refl, refl)

-- K. `u` on a variable of level 1 passes; of level 0 gets 11. Variable 0 is decided, learned, and offered once more in each polarity; in
-- either mode.
pub case_K_heap : Holds single (record {
  start = single.fresh;
  calls = decide 1 ∷ learn_unit 1 ∷ learn_unit 1 ∷ learn_unit 0 ∷ [];
  answers = says 0 ∷ passes ∷ refused 11 ∷ refused 11 ∷ [];
  end = record { trail = learned_one; chooser = member_one zero (step_of one usual) };
})
unfolding definitions
case_K_heap = (refl, refl)

pub case_K_list : Holds (list_mode 1 []) (record {
  start = (list_mode 1 []).fresh;
  calls = decide 1 ∷ learn_unit 1 ∷ learn_unit 1 ∷ learn_unit 0 ∷ [];
  answers = says 0 ∷ passes ∷ refused 11 ∷ refused 11 ∷ [];
  end = record { trail = learned_one; chooser = list (0 ∷ []) (1 ∷ []) 2 NONE };
})
unfolding definitions
case_K_list = (refl, refl)

-- L. Formula check: no clauses, Sat; N = 0 with a clause, Err; empty then out of range, Unsat; the reverse, Err; a variable in both
-- polarities, Err. The code 2 is of variable 1, out of range for N = 1; 0 and 1 are both of variable 0.
abbrev formula : ℕ → Clauses → Formula
formula n cs = record { n = n; clauses = cs }

abbrev no_clauses : Formula
no_clauses = formula 1 []

abbrev no_variables : Formula
no_variables = formula 0 ([] ∷ [])

abbrev empty_then_out : Formula
empty_then_out = formula 1 ([] ∷ (2 ∷ []) ∷ [])

abbrev out_then_empty : Formula
out_then_empty = formula 1 ((2 ∷ []) ∷ [] ∷ [])

abbrev both_polarities : Formula
both_polarities = formula 1 ((0 ∷ 1 ∷ []) ∷ [])

pub case_L : Holds formula_check (record {
  start = formula_check.fresh;
  calls = no_clauses ∷ no_variables ∷ empty_then_out ∷ out_then_empty ∷ both_polarities ∷ [];
  answers = Ok Sat ∷ Ok Err ∷ Ok Unsat ∷ Ok Err ∷ Ok Err ∷ [];
  end = formula_check.fresh;
})
unfolding definitions
case_L = (refl, refl)

-- these answers in numbers, each with status 0
pub case_L_numbers : map checked_numbers (Ok Sat ∷ Ok Err ∷ Ok Unsat ∷ Ok Err ∷ Ok Err ∷ []) ≡ (0, 1) ∷ (0, 0) ∷ (0, 2) ∷ (0, 0) ∷ (0, 0) ∷ []
unfolding numbers_of sat_number
case_L_numbers = refl

-- The worked sheet, from `b|2` on, with its clause `c|1|3`: lines 3 to 8 answer -, 2, 0, 1, 1, 2. At the end all three variables are
-- undone and members again, 2 in front by its bump.
abbrev sheet : Machine
sheet = heap_mode 3 ((1 ∷ 3 ∷ []) ∷ [])

abbrev led_by_two : Vsids
led_by_two = record {
  activity = zero ∷ zero ∷ one ∷ [];
  heap = 2 ∷ 1 ∷ 0 ∷ [];
  indices = 2 ∷ 1 ∷ 0 ∷ [];
  decision = switched_on ∷ switched_on ∷ switched_on ∷ [];
  len = 3;
  step = step_of one usual;
}

pub worked_sheet : Holds sheet (record {
  start = sheet.fresh;
  calls = bump 2 ∷ decide 1 ∷ decide 0 ∷ go_back 1 ∷ decide 0 ∷ go_back 0 ∷ [];
  answers = passes ∷ says 2 ∷ says 0 ∷ says 1 ∷ says 1 ∷ says 2 ∷ [];
  end = record { trail = undone (2 ∷ 2 ∷ 1 ∷ []); chooser = led_by_two };
})
unfolding definitions
worked_sheet = (refl, refl)
