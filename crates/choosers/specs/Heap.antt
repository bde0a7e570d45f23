-- The heap chooser, as the book sees it: the operations of `VSIDS`, and that they keep the laws. A group changes nothing.
use Rattle.std.specs.Prelude.{ℕ, ◌+◌, ◌≤◌, ◌<◌, ◌≡◌, refl, Bool, true, false, cond, List, eqb, length, get_or, set, drop}
use Rattle.std.proofs.Common.{sym, ap, ◌∙◌, arith, length-drop, get_or-set_same, get_or-set_other, get_or-drop}
use Rattle.std.proofs.Math.Logic.{by_cases}
use Rattle.std.proofs.Math.Option.{Option, none, some}
use Rattle.std.proofs.Math.Decide.{ℕ_discrete}
use borrow.Author.Tests.{ltb-true, leb-true, leb-false, lt-ltb, le-ltb, eq-eqb, ne_eqb}
use Rattle.std.proofs.lemmas.List.{get_or-replicate}
use Rattle.laws.specs.Tests.{and_left, and_right, true_or_false}
use Rattle.lit.specs.Numbers.{NONE, max_vars, unassigned, switched_on, switched_off}
use Rattle.lit.specs.Lits.{index, is_assigned}
use Rattle.formula.specs.Clauses.{clause}
use Rattle.formula.specs.Good.{GoodClauses}
use Rattle.formula.specs.Reading.{clause_below}
use Rattle.activity.specs.Step.{large_step}
use Rattle.vsids.specs.Vsids.{Vsids, new, turn_off, is_on, is_open, Found}
use Rattle.vsids.specs.Vsids as vsids
use Rattle.vsids.specs.Good.{GoodHeap, Right}
use Rattle.vsids.proofs.Kept as kept-laws
use Rattle.vsids.proofs.Choice.{get_next_right}
use Rattle.book.specs.Book.{without}
use Rattle.book.specs.Chooser.{Tune, bump_variable, decay_var_inc, set_var_decay, bump_reason_literals, bump_vec_of_vars, fits, Next, chose, nothing, NextRight, IfSome, Operations, Chooser}

-- 13 where the decayed step would be above 1e200; a reason NONE bumps nothing
abbrev pub tune : List ℕ → List ℕ → Tune → Vsids → Option Vsids
tune lits ends (bump_variable v) h = some (vsids.bump_variable v h)
tune lits ends decay_var_inc h = cond (large_step h.step) none (some (vsids.decay_var_inc h))
tune lits ends (set_var_decay d) h = some (vsids.set_var_decay d h)
tune lits ends (bump_reason_literals r) h = some (cond (eqb r NONE) h (vsids.bump_reason_literals (clause lits ends r) h))
tune lits ends (bump_vec_of_vars vs) h = some h

abbrev pub next_of : Found → Next Vsids
next_of (vsids.chose v h) = chose v h
next_of (vsids.nothing h) = nothing h

-- for n variables and the clause list
abbrev pub heap_ops : ℕ → List ℕ → List ℕ → Operations
heap_ops n lits ends = record { State = Vsids; switches = true; start = vsids.new n; tune = tune lits ends; insert = vsids.insert; offer = vsids.insert; turn_off = vsids.turn_off; get_next = λ values h. next_of (vsids.get_next values h) }

-- the heap is good for the values, and its switches are these
pub record HeapOk (n : ℕ) (values : List ℕ) (on : ℕ → Bool) (h : Vsids) : Type 0 where
  pub good : GoodHeap n values h
  pub switched : (v : ℕ) → v < n → is_on h.decision v ≡ on v

same_switches : {n : ℕ} {on : ℕ → Bool} {d d' : List ℕ} → d' ≡ d → ((v : ℕ) → v < n → is_on d v ≡ on v) → (v : ℕ) → v < n → is_on d' v ≡ on v
same_switches e f v b = ap (λ (d : List ℕ). is_on d v) e ∙ f v b

off_switched : {n : ℕ} {on : ℕ → Bool} (d : List ℕ) (v : ℕ) → length d ≡ n → v < n → ((w : ℕ) → w < n → is_on d w ≡ on w)
    → (w : ℕ) → w < n → is_on (set d v switched_off) w ≡ without v on w
off_switched d v long b f w c =
    by_cases (ℕ_discrete w v)
    (λ e. rw (e, get_or-set_same d v switched_off 0 (omega arith), eq-eqb v v refl))
    (λ n. rw (get_or-set_other d v w switched_off 0 n, ne_eqb w v n) (f w c))

module _ {n : ℕ} {values : List ℕ} {on : ℕ → Bool} (h : Vsids) (q : HeapOk n values on h) where
  open_on : (v : ℕ) → v < n → is_open values h.decision v ≡ true → (on v ≡ true) × (is_assigned values v ≡ false)
  unfolding is_open
  open_on v b e = (sym (q.switched v b) ∙ and_left (is_on h.decision v) _ e, le-ltb (get_or values v 0) unassigned (leb-true unassigned (get_or values v 0) (and_right (is_on h.decision v) _ e)))

  shut_assigned : (v : ℕ) → v < n → on v ≡ true → is_open values h.decision v ≡ false → is_assigned values v ≡ true
  unfolding is_open
  shut_assigned v b o e = lt-ltb (get_or values v 0) unassigned (leb-false unassigned (get_or values v 0) (rw (q.switched v b, o) at e))

  next_ok : (r : Found) → Right n values h r → NextRight n values on (HeapOk n) (next_of r)
  next_ok (vsids.chose v h') r =
      let o = open_on v r.var r.chosen_open in
      (r.var, o.0, o.1, λ p l. record { good = r.good p l; switched = same_switches r.switches q.switched })
  next_ok (vsids.nothing h') r = ((λ v b o. shut_assigned v b o (r.none v b)), record { good = r.good; switched = same_switches r.switches q.switched })

pub heap_chooser : (n : ℕ) (lits ends : List ℕ) → n ≤ max_vars → GoodClauses n lits ends → Chooser n (length ends) (heap_ops n lits ends)
unfolding fits new turn_off
heap_chooser n lits ends small g = record {
  ok = HeapOk n;
  start_ok = record { good = kept-laws.new_ok n small; switched = started };
  tune_ok = λ t c f q. tuned t c f q;
  insert_ok = λ v c b q. record { good = kept-laws.offer_ok v c b q.good; switched = same_switches (kept-laws.insert_switches v c) q.switched };
  offer_ok = λ v c b q. record { good = kept-laws.undo_ok v c b q.good; switched = same_switches (kept-laws.insert_switches v c) q.switched };
  turn_off_ok = λ v c b q. record { good = kept-laws.off_ok v c q.good; switched = off_switched c.decision v q.good.switches b q.switched };
  assign_ok = λ v p c b k q. record { good = kept-laws.assign_ok v p c k q.good; switched = q.switched };
  get_next_ok = λ c {values} {on} q. next_ok c q (vsids.get_next values c) (get_next_right c q.good);
}
  where
    -- the variables of a clause but its first literal
    in_reason : (r : ℕ) → r < length ends → (i : ℕ) → i < length (drop 1 (clause lits ends r)) → index (get_or (drop 1 (clause lits ends r)) i 0) < n
    in_reason r b i l = rw (get_or-drop 1 (clause lits ends r) i 0) (clause_below g r (1 + i) b (omega (arith, length-drop 1 (clause lits ends r))))

    started : (v : ℕ) → v < n → is_on (vsids.new n).decision v ≡ true
    started v b = eq-eqb _ _ (get_or-replicate n v switched_on 0 b)

    tuned : (t : Tune) (c : Vsids) {values : List ℕ} {on : ℕ → Bool} → fits n (length ends) t ≡ true → HeapOk n values on c → IfSome (HeapOk n values on) (tune lits ends t c)
    tuned (bump_variable v) c f q = record { good = kept-laws.bump_ok v c (ltb-true v n f) q.good; switched = same_switches (kept-laws.bump_switches v c) q.switched }
    tuned decay_var_inc c f q =
        true_or_false (large_step c.step)
        (λ e. rw e tt)
        (λ e. rw e (record { good = kept-laws.decay_ok c e q.good; switched = q.switched }))
    tuned (set_var_decay d) c f q = record { good = kept-laws.set_decay_ok d c (rw f) q.good; switched = q.switched }
    tuned (bump_reason_literals r) c f q =
        true_or_false (eqb r NONE)
        (λ e. rw e q)
        (λ e. rw e (record {
          good = kept-laws.bump_all_ok (drop 1 (clause lits ends r)) c (in_reason r (ltb-true r (length ends) (rw e at f))) q.good;
          switched = same_switches (kept-laws.bump_all_switches (drop 1 (clause lits ends r)) c) q.switched;
        }))
    tuned (bump_vec_of_vars vs) c f q = q

-- which states it calls good
module _ (n : ℕ) (lits ends : List ℕ) (small : n ≤ max_vars) (g : GoodClauses n lits ends) {values : List ℕ} {on : ℕ → Bool} {h : Vsids} where
  pub heap_ok : HeapOk n values on h → (heap_chooser n lits ends small g).ok values on h
  unfolding heap_chooser
  heap_ok q = q

  pub ok_heap : (heap_chooser n lits ends small g).ok values on h → HeapOk n values on h
  unfolding heap_chooser
  ok_heap q = q
