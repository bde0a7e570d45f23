-- The list chooser, as the book sees it: the operations of `VMTF`, and that they keep the laws. Only a group moves the list; switching,
-- bumping, decaying and inserting change nothing.
use Rattle.std.specs.Prelude.{ℕ, zero, suc, ◌≤◌, ◌≡◌, refl, Bool, true, false, List, [], ◌∷◌, ltb, length}
use Rattle.std.proofs.Math.Option.{Option, some}
use Rattle.std.proofs.Common.{arith, ltb-true, length-set}
use Rattle.std.proofs.lemmas.List.{length-replicate}
use Rattle.laws.specs.Tests.{and_left, and_right}
use Rattle.lit.specs.Numbers.{NONE, unassigned}
use Rattle.vmtf.specs.Vmtf.{Vmtf, lit_order, Vars, Found}
use Rattle.vmtf.specs.Vmtf as vmtf
use Rattle.vmtf.specs.Good.{GoodList}
use Rattle.vmtf.specs.Moves.{group_good}
use Rattle.vmtf.specs.Fresh.{new_good}
use Rattle.vmtf.specs.Choice.{NextIs, next_right}
use Rattle.book.specs.Chooser.{Tune, bump_variable, decay_var_inc, set_var_decay, bump_reason_literals, bump_vec_of_vars, below, fits, Next, chose, nothing, stuck, NextRight, IfSome, Operations, Chooser}

abbrev pub tune : Tune → Vmtf → Option Vmtf
tune (bump_variable v) l = some l
tune decay_var_inc l = some l
tune (set_var_decay d) l = some l
tune (bump_reason_literals r) l = some l
tune (bump_vec_of_vars vs) l = some (vmtf.bump_vec_of_vars vs l)

-- what `get_next` says, with the list that it leaves
abbrev pub next_of : Found → Next Vmtf
next_of (vmtf.chose v l) = chose v l
next_of (vmtf.nothing l) = nothing l
next_of vmtf.stuck = stuck

-- for n variables and the literals of all clauses
abbrev pub list_ops : ℕ → List ℕ → Operations
list_ops n lits = record { State = Vmtf; switches = false; start = vmtf.new n lits; tune = tune; insert = vmtf.insert; offer = vmtf.insert; turn_off = λ v l. l; get_next = λ values l. next_of (vmtf.get_next values l) }

-- the list is good, in some order, and every variable counts
pub record ListOk (n : ℕ) (values : List ℕ) (on : ℕ → Bool) (l : Vmtf) : Type 0 where
  pub values_long : length values ≡ n
  pub all_on : (v : ℕ) → on v ≡ true
  pub order : List ℕ
  pub good : GoodList n order l

-- each variable of a group that passed its test is one of n
pub below_each : (n : ℕ) (vs : List ℕ) → below n vs ≡ true → Vars n vs
unfolding below
below_each n [] e i h = absurd (omega arith)
below_each n (x ∷ vs) e zero h = ltb-true x n (and_left (ltb x n) (below n vs) e)
below_each n (x ∷ vs) e (suc i) h = below_each n vs (and_right (ltb x n) (below n vs) e) i (omega arith)

next_ok : (n : ℕ) (values : List ℕ) (on : ℕ → Bool) (order : List ℕ) (l : Vmtf) → length values ≡ n → ((v : ℕ) → on v ≡ true) → GoodList n order l
    → (r : Found) → NextIs n order values l r → NextRight n values on (ListOk n) (next_of r)
next_ok n values on order l long all g (vmtf.chose v m) h = (h.0, all v, h.1, λ p q. record { values_long = simp length-set long; all_on = all; order = _; good = h.2.0 })
next_ok n values on order l long all g (vmtf.nothing m) h = ((λ v b _. h.1 v b), record { values_long = long; all_on = all; order = order; good = rw h.0 g })
next_ok n values on order l long all g vmtf.stuck h = λ settled. h (λ v b. settled v b (all v))

pub list_chooser : (n m : ℕ) (lits : List ℕ) → n ≤ NONE → Chooser n m (list_ops n lits)
unfolding fits
list_chooser n m lits small = record {
  ok = ListOk n;
  start_ok = record { values_long = length-replicate n unassigned; all_on = λ v. refl; order = lit_order n lits; good = new_good n lits small };
  tune_ok = λ t c h q. tuned t c h q;
  insert_ok = λ v c h q. q;
  offer_ok = λ v c h q. record { values_long = simp length-set q.values_long; all_on = q.all_on; order = q.order; good = q.good };
  turn_off_ok = λ v c h q. q;
  assign_ok = λ v p c h k q. record { values_long = simp length-set q.values_long; all_on = q.all_on; order = q.order; good = q.good };
  get_next_ok = λ c {values} {on} q. next_ok n values on q.order c q.values_long q.all_on q.good (vmtf.get_next values c) (next_right q.good values q.values_long);
}
  where
    tuned : (t : Tune) (c : Vmtf) {values : List ℕ} {on : ℕ → Bool} → fits n m t ≡ true → ListOk n values on c → IfSome (ListOk n values on) (tune t c)
    tuned (bump_variable v) c h q = q
    tuned decay_var_inc c h q = q
    tuned (set_var_decay d) c h q = q
    tuned (bump_reason_literals r) c h q = q
    tuned (bump_vec_of_vars vs) c h q = record { values_long = q.values_long; all_on = q.all_on; order = _; good = group_good vs (below_each n vs h) q.good }

-- which states it calls good
module _ (n m : ℕ) (lits : List ℕ) (small : n ≤ NONE) {values : List ℕ} {on : ℕ → Bool} {l : Vmtf} where
  pub list_ok : ListOk n values on l → (list_chooser n m lits small).ok values on l
  unfolding list_chooser
  list_ok q = q

  pub ok_list : (list_chooser n m lits small).ok values on l → ListOk n values on l
  unfolding list_chooser
  ok_list q = q
