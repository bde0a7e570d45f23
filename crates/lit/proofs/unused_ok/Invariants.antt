use Rattle.std.proofs.Common.{◌≡◌, ◌+◌}
use Rattle.laws.specs.Every.{every}
use Rattle.lit.specs.Unused.{none_at}
use Rattle.lit.proofs.unused_ok.Given as goal

-- the places passed so far pass the test, or not
abbrev pub invariant-loop-x : goal.invariant-loop-x
invariant-loop-x l = l.ok ≡ every (none_at l.a l.used) (l.used + l.x-index)
