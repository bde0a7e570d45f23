use Rattle.std.proofs.Common.{◌≡◌, true}
use Rattle.laws.specs.Every.{every}
use Rattle.trail_check.specs.Check.{level_ok}
use Rattle.trail_check.proofs.opened_ok.Given as goal

abbrev pub invariant-loop-k : goal.invariant-loop-k
invariant-loop-k l = every (level_ok l.t.opened.now l.t.at.len) l.k ≡ true
