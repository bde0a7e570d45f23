-- `check_each`: the clauses from i on give the answer, and no variable has the mark of clause i or a later one.
use Rattle.std.proofs.Common.{ℕ, ◌+◌, ◌≤◌, ◌<◌, ◌≡◌, refl, sym, ◌∙◌, not, cond, List, length, drop, eqb, eq-eqb, ne_eqb, drop_of_length-le, arith}
use Rattle.lit.specs.Numbers.{max_vars}
use Rattle.formula.specs.declared.checks.SatResult.TheVariants.{Err, Unsat, Unknown}
use Rattle.formula.specs.Clauses.{clause, clauses}
use Rattle.formula.specs.Reading.{length_clauses, drop_clauses}
use Rattle.formula.specs.Checks.{check_clause_invariant, check_each}
use Rattle.formula.proofs.Marks.{fresh_marks}
use Rattle.formula.proofs.checks.check_each.Goals as goal

module _ (n : ℕ) (lits ends : List ℕ) (i : ℕ) where
  turn : i < length ends → check_each n (drop i (clauses lits ends)) ≡ cond (not (check_clause_invariant n (clause lits ends i))) Err (cond (eqb (length (clause lits ends i)) 0) Unsat (check_each n (drop (i + 1) (clauses lits ends))))
  unfolding check_each
  turn h = rw (drop_clauses lits ends i h)

  none_left : length ends ≤ i → check_each n (drop i (clauses lits ends)) ≡ Unknown
  unfolding check_each
  none_left h = rw (drop_of_length-le (clauses lits ends) {i = i} (rw length_clauses h))

pub loop-i-init : goal.loop-i-init
loop-i-init c = record { rest = refl; marks = fresh_marks max_vars c.requires.1 }

pub returns-then-not-check_clause : goal.returns-then-not-check_clause
returns-then-not-check_clause c =
    sym (c.loop-i.invariant.rest ∙ turn _ _ _ _ (omega arith)
    ∙ rw (← c.clause-codes.ensures, ← c.check_clause.ensures.0, c.if-not-check_clause.true))

pub returns-then-codes-eq0 : goal.returns-then-codes-eq0
returns-then-codes-eq0 c =
    sym (c.loop-i.invariant.rest ∙ turn _ _ _ _ (omega arith)
    ∙ rw (← c.clause-codes.ensures, ← c.check_clause.ensures.0, c.if-not-check_clause.false, eq-eqb _ _ c.if-codes-eq0.true))

pub loop-i-preserved : goal.loop-i-preserved
loop-i-preserved c = record {
  rest = c.loop-i.invariant.rest ∙ turn _ _ _ _ (omega arith) ∙ rw (← c.clause-codes.ensures, ← c.check_clause.ensures.0, c.if-not-check_clause.false, ne_eqb _ _ c.if-codes-eq0.false);
  marks = c.check_clause.ensures.1;
}

pub returns : goal.returns
returns c = sym (c.loop-i.invariant.rest ∙ none_left _ _ _ _ (omega arith))
