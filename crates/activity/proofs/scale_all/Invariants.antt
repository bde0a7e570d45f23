use Rattle.std.proofs.Common.{◌≡◌}
use Rattle.laws.specs.InPlace.{mapped}
use Rattle.activity.specs.Step.{scale}
use Rattle.activity.proofs.scale_all.Given as goal

-- the activities passed so far are scaled, the others as they were
abbrev pub invariant-loop-x : goal.invariant-loop-x
invariant-loop-x l = l.activity ≡ mapped scale l.initial.activity l.x-index
