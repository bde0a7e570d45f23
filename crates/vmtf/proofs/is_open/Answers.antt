-- `vmtf::is_open` meets its contract: it is the definition's test.
use mathlib.Core.Path.{refl}
use Rattle.vmtf.specs.Vmtf.{is_open}
use Rattle.vmtf.proofs.is_open.Goals as goal

pub returns : goal.returns
unfolding is_open
returns c = refl
