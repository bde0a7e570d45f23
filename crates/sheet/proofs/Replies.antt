-- The replies of calls on good sessions are no number that stands for none: a variable chosen, or a number of variables undone. Assumes nothing.
use Rattle.std.specs.Prelude.{ℕ, ◌≤◌, ◌<◌, Bool, true, false, List}
use Rattle.std.proofs.Math.Option.{Option, none, some}
use native.Mathlib.Omega.{arith}
use Rattle.lit.specs.Numbers.{max_vars}
use Rattle.trail.specs.Good.{GoodTrail}
use Rattle.vsids.specs.Vsids as vsids
use Rattle.vsids.specs.Good.{GoodHeap, Right}
use Rattle.vsids.proofs.Choice.{get_next_right}
use Rattle.vmtf.specs.Vmtf.{Vmtf}
use Rattle.vmtf.specs.Vmtf as vmtf
use Rattle.vmtf.specs.Good.{GoodList}
use Rattle.vmtf.specs.Choice.{NextIs, next_right}
use Rattle.choosers.specs.Heap.{heap_ops}
use Rattle.choosers.specs.Heap as heap
use Rattle.choosers.specs.List.{list_ops}
use Rattle.choosers.specs.List as list
use Rattle.book.specs.Calls.{Call, bump, decay, set_decay, insert, switch_off, decide, enqueue, learn_unit, go_back, bump_reason, group}
use Rattle.book.specs.Chooser.{Next, chose, nothing, stuck, Operations}
use Rattle.book.specs.Session.{Result, reply, need, Session, tuned, decided, call}
use Rattle.book.specs.Read.{called}
use Rattle.sheet.specs.Bounds.{Small}

-- the variable chosen, if there is one, is below n
abbrev Chosen : {S : Type 0} → ℕ → Next S → Type 0
Chosen n (chose v c) = v < n
Chosen n (nothing c) = Unit {0}
Chosen n stuck = Unit {0}

need_reply : {S : Type 0} (b : Bool) (k : ℕ) (x : Result S) → Small (reply x) → Small (reply (need b k x))
unfolding need
need_reply true k x q = q
need_reply false k x q = tt

module _ (n m : ℕ) (O : Operations) (small : n ≤ max_vars) (s : Session n m O) (len : s.trail.len ≤ n) (next : Chosen n (O.get_next s.trail.values s.chooser)) where
  tuned_reply : (c : Option O.State) → Small (reply (tuned n m O s c))
  unfolding tuned
  tuned_reply none = tt
  tuned_reply (some c) = tt

  decided_reply : (p : ℕ) (x : Next O.State) → Chosen n x → Small (reply (decided n m O p s x))
  unfolding decided
  decided_reply p (chose v c) h = omega arith
  decided_reply p (nothing c) h = tt
  decided_reply p stuck h = tt

  call_reply : (c : Call) → Small (reply (call n m O s c))
  unfolding call
  call_reply (bump v) = need_reply _ _ _ (tuned_reply _)
  call_reply decay = tuned_reply _
  call_reply (set_decay d) = need_reply _ _ _ (tuned_reply _)
  call_reply (insert v) = need_reply _ _ _ tt
  call_reply (switch_off v) = need_reply _ _ _ tt
  call_reply (decide p) = need_reply _ _ _ (decided_reply p _ next)
  call_reply (enqueue code reason) = need_reply _ _ _ (need_reply _ _ _ (need_reply _ _ _ tt))
  call_reply (learn_unit code) = need_reply _ _ _ (need_reply _ _ _ tt)
  call_reply (go_back l) = omega arith
  call_reply (bump_reason v) = need_reply _ _ _ (tuned_reply _)
  call_reply (group vs) = need_reply _ _ _ (tuned_reply _)

  called_reply : (c : Option Call) → Small (reply (called n m O s c))
  unfolding called
  called_reply none = tt
  called_reply (some c) = call_reply c

heap_chosen : (n : ℕ) (values : List ℕ) (h : vsids.Vsids) (r : vsids.Found) → Right n values h r → Chosen n (heap.next_of r)
heap_chosen n values h (vsids.chose v h') q = q.var
heap_chosen n values h (vsids.nothing h') q = tt

list_chosen : (n : ℕ) (order values : List ℕ) (l : Vmtf) (r : vmtf.Found) → NextIs n order values l r → Chosen n (list.next_of r)
list_chosen n order values l (vmtf.chose v m) q = q.0
list_chosen n order values l (vmtf.nothing m) q = tt
list_chosen n order values l vmtf.stuck q = tt

-- in heap mode, and in list mode
pub heap_reply : (n m : ℕ) (lits ends : List ℕ) (s : Session n m (heap_ops n lits ends)) → n ≤ max_vars → GoodTrail n m s.trail → GoodHeap n s.trail.values s.chooser
    → (c : Option Call) → Small (reply (called n m (heap_ops n lits ends) s c))
heap_reply n m lits ends s small t h =
    let values = s.trail.values in
    called_reply n m (heap_ops n lits ends) small s t.len_in (heap_chosen n values s.chooser (vsids.get_next values s.chooser) (get_next_right s.chooser h))

pub list_reply : (n m : ℕ) (lits order : List ℕ) (s : Session n m (list_ops n lits)) → n ≤ max_vars → GoodTrail n m s.trail → GoodList n order s.chooser
    → (c : Option Call) → Small (reply (called n m (list_ops n lits) s c))
list_reply n m lits order s small t l =
    let values = s.trail.values in
    called_reply n m (list_ops n lits) small s t.len_in (list_chosen n order values s.chooser (vmtf.get_next values s.chooser) (next_right l values t.lengths.values_long))
