-- `list_desk::loaded::in_own_arrays` meets its contract: the arrays have room.
use native.Mathlib.Omega.{arith}
use Rattle.list_desk.proofs.loaded.in_own_arrays.Goals as goal

pub list_slices-requires-clause-room : goal.list_slices-requires-clause-room
list_slices-requires-clause-room g c = (
  c.requires.room.0,
  c.requires.room.1,
  c.requires.vars.0,
  record { codes = λ k few short. omega (arith, c.requires.literals k few short); clauses = λ k few short. omega (arith, c.requires.clauses k few short) },
  omega (arith, c.requires.sizes.2),
)
