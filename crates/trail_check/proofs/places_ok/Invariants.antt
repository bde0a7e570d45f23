use Rattle.trail_check.proofs.Marks.{Marking}
use Rattle.trail_check.proofs.places_ok.Given as goal

abbrev pub invariant-loop-i : goal.invariant-loop-i
invariant-loop-i l = Marking l.t.values.now l.t.codes.now l.i l.marks
