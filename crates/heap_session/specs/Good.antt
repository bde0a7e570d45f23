-- When a session in heap mode is good, and what each call needs of it.
use Rattle.std.specs.Prelude.{ℕ, ◌≤◌, ◌≡◌, List, length}
use Rattle.lit.specs.Numbers.{max_vars}
use Rattle.formula.specs.Good.{GoodClauses}
use Rattle.trail.specs.Trail.{Trail}
use Rattle.trail.specs.Good.{GoodTrail}
use Rattle.vsids.specs.Vsids.{Vsids}
use Rattle.vsids.specs.Good.{GoodHeap}

-- the facts that document 01 states of the clauses, the trail and the heap, over n variables and m clauses
pub record GoodSession (n m : ℕ) (lits ends : List ℕ) (t : Trail) (h : Vsids) : Type 0 where
  pub small : n ≤ max_vars
  pub count : length ends ≡ m
  pub clauses : GoodClauses n lits ends
  pub trail : GoodTrail n m t
  pub heap : GoodHeap n t.values h

-- the heap is good, for some values
abbrev pub ForValues : ℕ → Vsids → Type 0
ForValues n h = (values : List ℕ) × GoodHeap n values h

-- and for some switches
abbrev pub ForSwitches : ℕ → Vsids → Type 0
ForSwitches n h = (decision : List ℕ) × ForValues n (record { activity = h.activity; heap = h.heap; indices = h.indices; decision = decision; len = h.len; step = h.step })

-- what going back needs, and a decide: a good trail and a good heap
pub record Steady (n : ℕ) (t : Trail) (h : Vsids) : Type 0 where
  pub small : n ≤ max_vars
  pub clauses : ℕ
  pub trail : GoodTrail n clauses t
  pub heap : GoodHeap n t.values h

pub steady : {n m : ℕ} {lits ends : List ℕ} {t : Trail} {h : Vsids} → GoodSession n m lits ends t h → Steady n t h
steady g = record { small = g.small; clauses = _; trail = g.trail; heap = g.heap }
