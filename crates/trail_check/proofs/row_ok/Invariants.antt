use Rattle.std.proofs.Common.{◌≡◌, true}
use Rattle.laws.specs.Every.{every}
use Rattle.trail_check.specs.Check.{in_row}
use Rattle.trail_check.proofs.row_ok.Given as goal

abbrev pub invariant-loop-i : goal.invariant-loop-i
invariant-loop-i l = every (in_row l.t.levels.now l.t.codes.now l.from l.l) l.i ≡ true
