-- Step, decay and timestamp fit their 64 bits after every call that a line can say, whatever the session: a step is rounded once more, and a timestamp is numbered anew
-- behind the largest. By cases on the call.
use Prim.Native.Nat.{ℕ, zero, suc, ◌<◌}
use mathlib.Core.Path.{◌≡◌, refl}
use mathlib.Core.Bool.{Bool, true, false, not, ◌&&◌}
use mathlib.Core.Option.{Option, none, some}
use mathlib.Core.List.{List, [], ◌∷◌, map}
use native.Mathlib.Omega.{arith}
use borrow.Author.Tests.{eqb-false}
use lib.Dec.{T, eqb, ltb}
use lib.Ieee.{nan, binary64, fits, lt}
use lib.Ieee.Fits.{mul-fits}
use lib.Ieee.Bits.{of_bits-fits}
use lib.ListN.{length, get_or, drop, length-set}
use Rattle.laws.specs.Tests.{cond_elim}
use Rattle.laws.specs.Each.{Each}
use Rattle.lit.specs.Numbers.{NONE}
use Rattle.lit.specs.Lits.{index}
use Rattle.activity.specs.Doubles.{limit}
use Rattle.activity.specs.Step.{large_step}
use Rattle.formula.specs.Clauses.{clause}
use Rattle.heap.specs.Heap.{in_heap}
use Rattle.vsids.specs.Vsids.{Vsids, is_on, is_open, remove_first, Found, get_next_of, get_next, add_step, scaled_all, rescale, move_up, bump_all, turn_off}
use Rattle.vsids.specs.Vsids as vsids
use Rattle.vmtf.specs.Vmtf.{Vmtf, max_stamp, rescore, relink, tick, move_to_front, move_all, by_stamp, any_open, first_open, from}
use Rattle.vmtf.specs.Vmtf as vmtf
use Rattle.choosers.specs.Heap.{heap_ops}
use Rattle.choosers.specs.Heap as heap
use Rattle.choosers.specs.List.{list_ops}
use Rattle.choosers.specs.List as list
use Rattle.book.specs.Calls.{Call, bump, decay, set_decay, insert, switch_off, decide, enqueue, learn_unit, go_back, bump_reason, group}
use Rattle.book.specs.Chooser.{Tune, bump_variable, decay_var_inc, set_var_decay, bump_reason_literals, bump_vec_of_vars, Next, chose, nothing, stuck, IfSome, Operations}
use Rattle.book.specs.Session.{Result, leaves, need, Session, offer_all, went_back, enqueued, tuned, decided, call}
use Rattle.book.specs.Claim.{step}
use Rattle.book.specs.Read.{calls_of}
use Rattle.forms.specs.Forms.{call_in}
use Rattle.forms.specs.Spelling.{Says, line_b, line_y, line_w, line_i, line_o, line_g, line_e, line_u, line_k, line_r, line_f}
use Rattle.forms.specs.SpellingLaws.{call_said}
use Rattle.saved_state.specs.Judged.{DoubleStep, LongStamp}

-- the decay that a call sets is a double
abbrev pub Double : Call → Type 0
Double (set_decay d) = T (fits binary64 d)
Double (bump v) = Unit {0}
Double decay = Unit {0}
Double (insert v) = Unit {0}
Double (switch_off v) = Unit {0}
Double (decide p) = Unit {0}
Double (enqueue code reason) = Unit {0}
Double (learn_unit code) = Unit {0}
Double (go_back l) = Unit {0}
Double (bump_reason v) = Unit {0}
Double (group vs) = Unit {0}

abbrev DoubleTune : Tune → Type 0
DoubleTune (set_var_decay d) = T (fits binary64 d)
DoubleTune (bump_variable v) = Unit {0}
DoubleTune decay_var_inc = Unit {0}
DoubleTune (bump_reason_literals r) = Unit {0}
DoubleTune (bump_vec_of_vars vs) = Unit {0}

-- it is one where a line says the call
said_double : {line : List ℕ} {c : Call} → Says line c → Double c
said_double (line_w p h) = of_bits-fits binary64 p
said_double (line_b v h) = tt
said_double line_y = tt
said_double (line_i v h) = tt
said_double (line_o v h) = tt
said_double (line_g p h) = tt
said_double (line_e c r h k) = tt
said_double (line_u c h) = tt
said_double (line_k l h) = tt
said_double (line_r v h) = tt
said_double (line_f vs h k) = tt

pub lines_double : (ls : List (List ℕ)) → Each Double (calls_of (map call_in ls))
unfolding calls_of
lines_double [] = tt
lines_double (l ∷ ls) = go (call_in l) refl (lines_double ls)
  where
    go : (o : Option Call) → call_in l ≡ o → Each Double (calls_of (map call_in ls)) → Each Double (calls_of (o ∷ map call_in ls))
    go none e h = h
    go (some c) e h = (said_double ((call_said l c).0 e), h)

-- ---- what every operation of a chooser keeps, a run keeps

abbrev IfNext : {S : Type 0} → (S → Type 0) → Next S → Type 0
IfNext P (chose v c) = P c
IfNext P (nothing c) = P c
IfNext P stuck = Unit {0}

record Keeps (O : Operations) (P : O.State → Type 0) : Type 0 where
  pub tune : (t : Tune) (c : O.State) → DoubleTune t → P c → IfSome P (O.tune t c)
  pub insert : (v : ℕ) (c : O.State) → P c → P (O.insert v c)
  pub offer : (v : ℕ) (c : O.State) → P c → P (O.offer v c)
  pub turn_off : (v : ℕ) (c : O.State) → P c → P (O.turn_off v c)
  pub next : (values : List ℕ) (c : O.State) → P c → IfNext P (O.get_next values c)

module _ (n m : ℕ) {O : Operations} {P : O.State → Type 0} (K : Keeps O P) where
  abbrev Has : Session n m O → Type 0
  Has s = P s.chooser

  needed : (s : Session n m O) → Has s → (b : Bool) (k : ℕ) (x : Result (Session n m O)) → Has (leaves s x) → Has (leaves s (need b k x))
  unfolding need
  needed s g true k x h = h
  needed s g false k x h = g

  tuned_has : (s : Session n m O) → Has s → (t : Tune) → DoubleTune t → Has (leaves s (tuned n m O s (O.tune t s.chooser)))
  unfolding tuned
  tuned_has s g t d = go (O.tune t s.chooser) (K.tune t s.chooser d g)
    where
      go : (x : Option O.State) → IfSome P x → Has (leaves s (tuned n m O s x))
      go none q = g
      go (some c) q = q

  decided_has : (s : Session n m O) → Has s → (p : ℕ) → Has (leaves s (decided n m O p s (O.get_next s.trail.values s.chooser)))
  unfolding decided
  decided_has s g p = go (O.get_next s.trail.values s.chooser) (K.next s.trail.values s.chooser g)
    where
      go : (x : Next O.State) → IfNext P x → Has (leaves s (decided n m O p s x))
      go (chose v c) q = q
      go (nothing c) q = q
      go stuck q = g

  offers : (vs : List ℕ) (c : O.State) → P c → P (offer_all n m O vs c)
  unfolding offer_all
  offers [] c q = q
  offers (v ∷ vs) c q = offers vs (O.offer v c) (K.offer v c q)

  went_has : (s : Session n m O) → Has s → (l : ℕ) → Has (went_back n m O l s)
  unfolding went_back
  went_has s g l = cond_elim P (ltb l s.trail.level) (λ _. offers _ s.chooser g) (λ _. g)

  call_has : (s : Session n m O) → Has s → (c : Call) → Double c → Has (leaves s (call n m O s c))
  unfolding call enqueued
  call_has s g (bump v) d = needed s g _ _ _ (tuned_has s g (bump_variable v) tt)
  call_has s g decay d = tuned_has s g decay_var_inc tt
  call_has s g (set_decay x) d = needed s g _ _ _ (tuned_has s g (set_var_decay x) d)
  call_has s g (insert v) d = needed s g _ _ _ (K.insert v s.chooser g)
  call_has s g (switch_off v) d = needed s g _ _ _ (K.turn_off v s.chooser g)
  call_has s g (decide p) d = needed s g _ _ _ (decided_has s g p)
  call_has s g (enqueue code reason) d = needed s g _ _ _ (needed s g _ _ _ (needed s g _ _ _ g))
  call_has s g (learn_unit code) d = needed s g _ _ _ (needed s g _ _ _ (went_has s g 0))
  call_has s g (go_back l) d = went_has s g l
  call_has s g (bump_reason v) d = needed s g _ _ _ (tuned_has s g (bump_reason_literals (get_or s.trail.reasons v 0)) tt)
  call_has s g (group vs) d = needed s g _ _ _ (tuned_has s g (bump_vec_of_vars vs) tt)

-- ---- heap mode

rescale_double : (v : ℕ) (h : Vsids) → DoubleStep h → DoubleStep (rescale v h)
unfolding rescale scaled_all
rescale_double v h q = cond_elim DoubleStep (lt limit (get_or h.activity v nan)) (λ _. (mul-fits binary64 _ _, q.1)) (λ _. q)

bump_double : (v : ℕ) (h : Vsids) → DoubleStep h → DoubleStep (vsids.bump_variable v h)
unfolding vsids.bump_variable move_up add_step
bump_double v h q = let u = rescale v (add_step v h) in let w = rescale_double v (add_step v h) q in cond_elim DoubleStep (in_heap u.indices v) (λ _. w) (λ _. w)

all_double : (codes : List ℕ) (h : Vsids) → DoubleStep h → DoubleStep (bump_all codes h)
unfolding bump_all
all_double [] h q = q
all_double (c ∷ codes) h q = all_double codes (vsids.bump_variable (index c) h) (bump_double (index c) h q)

insert_double : (v : ℕ) (h : Vsids) → DoubleStep h → DoubleStep (vsids.insert v h)
unfolding vsids.insert
insert_double v h q = cond_elim DoubleStep (not (in_heap h.indices v) && is_on h.decision v) (λ _. q) (λ _. q)

next_double : (k : ℕ) (values : List ℕ) (h : Vsids) → DoubleStep h → IfNext DoubleStep (heap.next_of (get_next_of k values h))
unfolding get_next_of remove_first
next_double zero values h q = q
next_double (suc k) values h q =
    cond_elim (λ (r : Found). IfNext DoubleStep (heap.next_of r)) (is_open values h.decision (get_or h.heap 0 0)) (λ _. q) (λ _. next_double k values (remove_first h) q)

heap_keeps : (n : ℕ) (lits ends : List ℕ) → Keeps (heap_ops n lits ends) DoubleStep
unfolding get_next turn_off
heap_keeps n lits ends = record { tune = tunes; insert = insert_double; offer = insert_double; turn_off = λ v h q. q; next = λ values h q. next_double h.len values h q }
  where
    tunes : (t : Tune) (h : Vsids) → DoubleTune t → DoubleStep h → IfSome DoubleStep (heap.tune lits ends t h)
    tunes (bump_variable v) h d q = bump_double v h q
    tunes decay_var_inc h d q = cond_elim (IfSome DoubleStep) (large_step h.step) (λ _. tt) (λ _. (mul-fits binary64 _ _, q.1))
    tunes (set_var_decay x) h d q = (q.0, d)
    tunes (bump_reason_literals r) h d q = cond_elim DoubleStep (eqb r NONE) (λ _. q) (λ _. all_double (drop 1 (clause lits ends r)) h q)
    tunes (bump_vec_of_vars vs) h d q = q

-- ---- list mode: there are fewer variables than stamps

abbrev pub FewStamps : Vmtf → Type 0
FewStamps l = LongStamp l × (length l.next < max_stamp)

relink_few : (v : ℕ) (l : Vmtf) → FewStamps l → FewStamps (relink v l)
unfolding relink
relink_few v l q = (q.0, simp length-set q.1)

tick_few : (l : Vmtf) → FewStamps l → FewStamps (tick l)
unfolding tick rescore
tick_few l q = cond_elim FewStamps (eqb l.timestamp max_stamp) (λ _. (omega (arith, q.1), q.1)) (λ e. (omega (arith, q.0, eqb-false l.timestamp max_stamp e), q.1))

move_few : (v : ℕ) (l : Vmtf) → FewStamps l → FewStamps (move_to_front v l)
unfolding move_to_front
move_few v l q = cond_elim FewStamps (eqb v l.start) (λ _. q) (λ _. tick_few (relink v l) (relink_few v l q))

moves_few : (vs : List ℕ) (l : Vmtf) → FewStamps l → FewStamps (move_all vs l)
unfolding move_all
moves_few [] l q = q
moves_few (v ∷ vs) l q = moves_few vs (move_to_front v l) (move_few v l q)

next_few : (values : List ℕ) (l : Vmtf) → FewStamps l → IfNext FewStamps (list.next_of (vmtf.get_next values l))
unfolding vmtf.get_next
next_few values l q =
    cond_elim (λ (r : vmtf.Found). IfNext FewStamps (list.next_of r)) (eqb (first_open values (from l.next (length l.next) l.search)) NONE)
    (λ _. cond_elim (λ (r : vmtf.Found). IfNext FewStamps (list.next_of r)) (any_open values (length values)) (λ _. tt) (λ _. q))
    (λ _. q)

list_keeps : (n : ℕ) (lits : List ℕ) → Keeps (list_ops n lits) FewStamps
unfolding vmtf.bump_vec_of_vars
list_keeps n lits = record { tune = tunes; insert = λ v l q. q; offer = λ v l q. q; turn_off = λ v l q. q; next = next_few }
  where
    tunes : (t : Tune) (l : Vmtf) → DoubleTune t → FewStamps l → IfSome FewStamps (list.tune t l)
    tunes (bump_variable v) l d q = q
    tunes decay_var_inc l d q = q
    tunes (set_var_decay x) l d q = q
    tunes (bump_reason_literals r) l d q = q
    tunes (bump_vec_of_vars vs) l d q = moves_few (by_stamp l.ts vs) l q

-- so each call keeps them
pub heap_double : (n m : ℕ) (lits ends : List ℕ) (s : Session n m (heap_ops n lits ends)) → DoubleStep s.chooser → (c : Call) → Double c → DoubleStep (leaves s (call n m (heap_ops n lits ends) s c)).chooser
heap_double n m lits ends = call_has n m (heap_keeps n lits ends)

pub list_few : (n m : ℕ) (lits : List ℕ) (s : Session n m (list_ops n lits)) → FewStamps s.chooser → (c : Call) → Double c → FewStamps (leaves s (call n m (list_ops n lits) s c)).chooser
list_few n m lits = call_has n m (list_keeps n lits)
