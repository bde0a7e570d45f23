-- `saved_desk::opening::clauses_in` meets its contract: the slices hold the clauses of the sheet.
use native.Mathlib.Omega.{arith}
use Rattle.saved_desk.proofs.opening.clauses_in.Goals as goal

pub with_clauses-requires-clause-holds : goal.with_clauses-requires-clause-holds
with_clauses-requires-clause-holds g c = (record { codes = λ k few short. omega (arith, c.requires.literals k few short); clauses = λ k few short. omega (arith, c.requires.clauses k few short) }, omega (arith, c.requires.sizes.0))
