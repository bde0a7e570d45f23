-- `set_var_decay` of `Vsids` meets its contract: the function does it, whatever the memory.
use Rattle.vsids.proofs.Vsids.set_var_decay.Goals as goal

pub returns-clause-set : goal.returns-clause-set
returns-clause-set c = c.set_var_decay-self.ensures _ _ _ _
