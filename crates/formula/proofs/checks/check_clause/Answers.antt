-- `check_clause`: the literals before i pass both tests, and the marks tell their variables.
use native.Mathlib.Omega.{arith}
use borrow.Author.Tests.{le-ltb}
use Rattle.laws.specs.Tests.{and_false}
use Rattle.laws.specs.Every.{passed_all, passed_fails}
use Rattle.formula.specs.Clauses.{var_below, vars_below}
use Rattle.formula.specs.Checks.{no_duplicates, check_clause_invariant}
use Rattle.formula.proofs.checks.Marked.{marked_none, marked_more, has_mark, lacks_mark, marked}
use Rattle.formula.proofs.checks.check_clause.Goals as goal

pub loop-code-init : goal.loop-code-init
loop-code-init c = marked_none _ _ _ _ c.requires

pub returns-then-v-n : goal.returns-then-v-n
unfolding check_clause_invariant vars_below var_below
returns-then-v-n c =
    let inv = c.loop-code.invariant in
    (rw (passed_fails inv.below (omega arith) (rw (← c.index-v.ensures) (le-ltb _ _ c.if-v-n.true))), marked inv)

pub returns-then-marks-v : goal.returns-then-marks-v
unfolding check_clause_invariant no_duplicates
returns-then-marks-v c =
    let inv = c.loop-code.invariant in
    let twice = has_mark inv (rw c.index-v.ensures at c.if-marks-v.true) in
    (rw (passed_fails inv.new (omega arith) twice, and_false), marked inv)

pub loop-code-preserved : goal.loop-code-preserved
loop-code-preserved c =
    let inv = c.loop-code.invariant in
    let v = c.index-v.ensures in
    let once = lacks_mark inv (rw v at c.if-marks-v.false) in
    rw v (marked_more inv (omega arith) (rw v at c.if-v-n.false) once)

pub returns : goal.returns
unfolding check_clause_invariant vars_below no_duplicates
returns c =
    let inv = c.loop-code.invariant in
    (rw (passed_all inv.below c.loop-code-test.false, passed_all inv.new c.loop-code-test.false), marked inv)
