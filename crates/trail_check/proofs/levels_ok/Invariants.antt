use Rattle.trail_check.proofs.Rows.{Rows}
use Rattle.trail_check.proofs.levels_ok.Given as goal

abbrev pub invariant-loop-l : goal.invariant-loop-l
invariant-loop-l l = Rows l.t.levels.now l.t.codes.now l.t.opened.now l.t.at.level l.l l.from
