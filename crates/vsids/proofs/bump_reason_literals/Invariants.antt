use Prim.Native.Nat.{ℕ}
use mathlib.Core.List.{List}
use lib.ListN.{length}
use Rattle.vsids.specs.Vsids.{vsids_of, bump_reason_literals}
use Rattle.vsids.proofs.Loops.{Bumping}
use Rattle.vsids.proofs.bump_reason_literals.Given as goal

abbrev pub invariant-loop-i : goal.invariant-loop-i
invariant-loop-i l =
    (d : List ℕ) → Bumping (length l.initial.activity) l.clause (bump_reason_literals l.clause (vsids_of l.initial.activity l.initial.heap l.initial.indices d l.initial.state)) l.i (vsids_of l.activity l.heap l.indices d l.state)
