use Prim.Native.Nat.{ℕ}
use mathlib.Core.List.{List}
use Rattle.sheet.specs.Counting.{Counted}
use Rattle.sheet.proofs.clauses.count_clauses.Given as goal

abbrev pub invariant-loop-lits : goal.invariant-loop-lits
invariant-loop-lits l = (out : List ℕ) × Counted l.n l.sheet out l.initial.u l.initial.lits l.initial.ends l.u l.lits l.ends

abbrev pub decreases-loop-lits : goal.decreases-loop-lits
decreases-loop-lits l = l.u.place.left
