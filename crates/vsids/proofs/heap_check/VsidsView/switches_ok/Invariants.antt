use mathlib.Core.Path.{◌≡◌}
use lib.Dec.{ltb}
use Rattle.laws.specs.Every.{every}
use Rattle.vsids.specs.Check.{switch_ok}
use Rattle.vsids.proofs.heap_check.VsidsView.switches_ok.Given as goal

abbrev pub invariant-loop-d : goal.invariant-loop-d
invariant-loop-d l = ltb l.most 2 ≡ every (switch_ok l.self.decision.now) l.d-index
