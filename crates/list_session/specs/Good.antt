-- When a session in list mode is good, and what each call needs of it.
use Rattle.std.specs.Prelude.{ℕ, ◌≤◌, List}
use Rattle.lit.specs.Numbers.{max_vars}
use Rattle.trail.specs.Trail.{Trail}
use Rattle.trail.specs.Good.{GoodTrail}
use Rattle.vmtf.specs.declared.VmtfState.{VmtfState}
use Rattle.vmtf.specs.Vmtf.{Vmtf, vmtf_of}
use Rattle.vmtf.specs.Good.{InOrder}

-- the facts that document 01 states of the trail and of the list, over n variables and m clauses
pub record GoodSession (n m : ℕ) (t : Trail) (l : Vmtf) : Type 0 where
  pub small : n ≤ max_vars
  pub trail : GoodTrail n m t
  pub list : InOrder n l

-- what a decide needs: a good trail, and these next links and this search in a good list
pub record Choosable (n : ℕ) (t : Trail) (next : List ℕ) (s : VmtfState) : Type 0 where
  pub small : n ≤ max_vars
  pub clauses : ℕ
  pub trail : GoodTrail n clauses t
  pub prev : List ℕ
  pub ts : List ℕ
  pub list : InOrder n (vmtf_of next prev ts s)
