use mathlib.Core.Path.{◌≡◌}
use lib.ListN.{length}
use Rattle.laws.specs.Every.{Passed}
use Rattle.formula.specs.Clauses.{start, no_fall_at}
use Rattle.formula.proofs.check_ends.Given as goal

abbrev pub invariant-loop-end : goal.invariant-loop-end
invariant-loop-end l = (l.from ≡ start l.ends l.end-index) × Passed (no_fall_at l.ends) (length l.ends) l.end-index
