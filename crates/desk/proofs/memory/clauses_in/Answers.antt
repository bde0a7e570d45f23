-- `desk::memory::clauses_in` meets its contract: the slices hold the clauses of the sheet.
use native.Mathlib.Omega.{arith}
use Rattle.desk.proofs.memory.clauses_in.Goals as goal

pub clauses_with-requires-clause-holds : goal.clauses_with-requires-clause-holds
clauses_with-requires-clause-holds g c = (record { codes = λ k few short. omega (arith, c.requires.literals k few short); clauses = λ k few short. omega (arith, c.requires.clauses k few short) }, omega (arith, c.requires.sizes.0))
