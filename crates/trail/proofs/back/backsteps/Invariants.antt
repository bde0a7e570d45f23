use Rattle.std.proofs.Common.{length}
use Rattle.trail.specs.Trail.{backsteps}
use Rattle.trail.specs.Memory.{trail_of}
use Rattle.trail.proofs.Going.{Undoing}
use Rattle.trail.proofs.back.backsteps.Given as goal

abbrev pub invariant-loop : goal.invariant-loop
invariant-loop l =
    Undoing (length l.initial.values) l.k (backsteps l.k (trail_of l.initial.values l.levels l.initial.reasons l.initial.trail l.opened l.initial.t)) l.counter (trail_of l.values l.levels l.reasons l.trail l.opened l.t)
