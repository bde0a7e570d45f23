-- `decay_var_inc` of `Vsids` meets its contract: the function does it, whatever the memory.
use Rattle.vsids.proofs.Vsids.decay_var_inc.Goals as goal

pub returns-clause-decayed : goal.returns-clause-decayed
returns-clause-decayed c = c.decay_var_inc-self.ensures _ _ _ _
