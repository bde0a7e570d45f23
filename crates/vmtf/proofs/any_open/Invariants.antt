use Rattle.std.proofs.Common.{◌≡◌, ◌<◌, ℕ, false}
use Rattle.vmtf.specs.Vmtf.{is_open}
use Rattle.vmtf.proofs.any_open.Given as goal

abbrev pub invariant-loop-value : goal.invariant-loop-value
invariant-loop-value l = (v : ℕ) → v < l.value-index → is_open l.values v ≡ false
