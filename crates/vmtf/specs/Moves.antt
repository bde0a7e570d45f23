-- A move keeps a good list good, and on the plain order it takes the variable out and puts it first: `move_good`.
-- Assumes nothing.
use Prim.Native.Nat.{ℕ, zero, suc, ◌+◌, ◌-◌, ◌<◌, ◌≤◌}
use Rattle.std.specs.Prelude.{◌≡◌, ◌≢◌, eqb, leb}
use Rattle.std.proofs.Math.Path.{refl, sym}
use Rattle.std.proofs.Common.{ap, subst, ◌∙◌, get_or-set_same}
use mathlib.Core.List.{List, [], ◌∷◌}
use native.Mathlib.Omega.{arith}
use Rattle.std.proofs.Math.ListN.{length, get_or, set, length-set}
use Rattle.std.proofs.Math.Seq.{get_or-set_other}
use borrow.Author.Tests.{eqb-true, eqb-false, eq-eqb, ne_eqb}
use Rattle.laws.specs.Tests.{cond_elim}
use Rattle.laws.specs.Lists.{set_cases}
use Rattle.lit.specs.Numbers.{NONE}
use Rattle.vmtf.specs.Vmtf.{Vmtf, max_stamp, first, renumber, rescore, relink, tick, move_to_front, move_all, insert_by_stamp, by_stamp, bump_vec_of_vars, Chain, Vars}
use Rattle.vmtf.specs.Laws.{renumber_none, renumber_step, length_renumber}
use Rattle.vmtf.specs.Order.{count, remove, to_front, all_to_front, at_every, after, before, count_here, count_there, count_more, count_head, count_cons, count_swap, remove_count_same, front_count, first_remove, front_front, after_here, after_there, before_here, before_there, after_in, before_some, before_first, before_other, after_self, after_before, before_after, after_cut, after_kept, before_cut, before_kept}
use Rattle.vmtf.specs.Good.{Falls, Linked, GoodList, beside_row, falls_weaken, falls_frame, order_length, in_order, at_most, next_is, prev_is, few, chain, start_in}

module _ {n : ℕ} {order : List ℕ} {l : Vmtf} (k : Linked n order l) (v : ℕ) (v_in : v < n) (back : v ≢ l.start) where
  abbrev P : ℕ
  P = before NONE v order

  abbrev Q : ℕ
  Q = after v order

  some : {w : ℕ} → w < n → w ≢ NONE
  some h e = omega (arith, k.small)

  not_first : v ≢ first order
  not_first e = back (e ∙ sym k.front)

  P_in : P < n
  P_in = k.vars P (before_some NONE v order (in_order k v v_in) not_first)

  after_P : after P order ≡ v
  after_P = before_after P v NONE order (some P_in) (some P_in) (at_most k P) refl

  Q_not : Q ≢ v
  Q_not = after_self v order (some v_in) (at_most k v)

  P_not : P ≢ v
  P_not e = Q_not (rw e at after_P)

  -- each variable has the one after it in the new order as its next
  next_new : (w : ℕ) → w < n → get_or (relink v l).next w 0 ≡ after w (to_front v order)
  unfolding relink
  next_new w h = rw (prev_is k v v_in, next_is k v v_in, k.front)
      (set_cases (λ (x : ℕ). x ≡ after w (to_front v order)) (set l.next v (first order)) P w Q 0 (simp length-set (omega (arith, k.next_long, P_in)))
      (λ e. rw e (sym (after_there P v (remove v order) (λ z. P_not (sym z)) ∙ after_cut v P (some v_in) (some P_in) P_not order (at_most k v) after_P)))
      (λ d. set_cases (λ (x : ℕ). x ≡ after w (to_front v order)) l.next v w (first order) 0 (omega (arith, k.next_long))
      (λ e. rw e (sym (after_here v v (remove v order) refl ∙ first_remove v order (λ z. not_first (sym z)))))
      (λ o. next_is k w h ∙ sym (after_there w v (remove v order) (λ z. o (sym z)) ∙ after_kept v w (some v_in) (some h) o order (λ z. d (sym (after_before w v NONE order (some v_in) (at_most k v) z)))))))

  -- the first stays the first of those behind v
  first_rest : first (remove v order) ≡ first order
  first_rest = first_remove v order (λ z. not_first (sym z))

  -- the links back, but for the one after v
  prev_old : (w : ℕ) → w < n → w ≢ Q → get_or (set (set l.prev v NONE) (first order) v) w 0 ≡ before NONE w (to_front v order)
  prev_old w h d =
      set_cases (λ (x : ℕ). x ≡ before NONE w (to_front v order)) (set l.prev v NONE) (first order) w v 0 (simp length-set (omega (arith, k.prev_long, k.front, start_in k (omega arith))))
      (λ e. sym (before_there w v (remove v order) NONE (λ z. not_first (z ∙ e)) ∙ before_first v w (remove v order) (e ∙ sym first_rest) (some h)))
      (λ s. set_cases (λ (x : ℕ). x ≡ before NONE w (to_front v order)) l.prev v w NONE 0 (omega (arith, k.prev_long))
      (λ e. sym (before_here w v (remove v order) NONE (sym e)))
      (λ o. prev_is k w h ∙ sym (before_there w v (remove v order) NONE (λ z. o (sym z)) ∙ before_other v NONE w (remove v order) (λ z. s (z ∙ first_rest))
      ∙ before_kept v w (some v_in) (some h) o NONE order (λ z. d (sym (before_after v w NONE order (some v_in) (some v_in) (at_most k v) z))))))

  prev_new : (w : ℕ) → w < n → get_or (relink v l).prev w 0 ≡ before NONE w (to_front v order)
  unfolding relink
  prev_new w h = rw (prev_is k v v_in, next_is k v v_in, k.front)
      (cond_elim (λ (p : List ℕ). get_or p w 0 ≡ before NONE w (to_front v order)) (eqb Q NONE)
      (λ e. prev_old w h (λ z. some h (z ∙ eqb-true Q NONE e)))
      (λ e. set_cases (λ (x : ℕ). x ≡ before NONE w (to_front v order)) (set (set l.prev v NONE) (first order) v) Q w P 0 (simp length-set (omega (arith, k.prev_long, Q_in (eqb-false Q NONE e))))
      (λ z. sym (ap (λ (u : ℕ). before NONE u (to_front v order)) z ∙ close (eqb-false Q NONE e)))
      (prev_old w h)))
    where
      Q_in : Q ≢ NONE → Q < n
      Q_in d = k.vars Q (after_in v order d)

      -- the one after v comes after the one that was before v
      close : Q ≢ NONE → before NONE Q (to_front v order) ≡ P
      close d =
          let b : before NONE Q order ≡ v = after_before v Q NONE order d (at_most k Q) refl in
          before_there Q v (remove v order) NONE (λ z. Q_not (sym z)) ∙ before_other v NONE Q (remove v order) (λ z. some v_in (sym b ∙ before_first NONE Q order (z ∙ first_rest) d))
          ∙ before_cut v Q (some v_in) d Q_not NONE order (λ z. some v_in (sym z)) (at_most k v) b

  relink_linked : Linked n (to_front v order) (relink v l)
  unfolding relink
  relink_linked = record {
    small = k.small;
    next_long = simp length-set k.next_long;
    prev_long = cond_elim (λ (p : List ℕ). length p ≡ n) (eqb (get_or l.next v 0) NONE) (λ e. simp length-set k.prev_long) (λ e. simp length-set k.prev_long);
    vars = λ w h. k.vars w (rw (same w) at h);
    once = λ w h. same w ∙ k.once w h;
    front = refl;
    row = beside_row _ _ NONE (to_front v order) (λ w. rw (same w) (at_most k w)) (λ w h. let b : w < n = k.vars w (rw (same w) at h) in (next_new w b, prev_new w b));
  }
    where
      same : (w : ℕ) → count w (to_front v order) ≡ count w order
      same w = front_count v w order (in_order k v v_in)

-- ---- stamps

falls_remove : (ts : List ℕ) (b v : ℕ) (o : List ℕ) → Falls ts b o → Falls ts b (remove v o)
unfolding Falls remove
falls_remove ts b v [] f = tt
falls_remove ts b v (x ∷ xs) f =
    cond_elim (Falls ts b) (eqb x v)
    (λ _. falls_weaken ts (get_or ts x 0) b xs f.1 (omega (arith, f.0)))
    (λ _. (f.0, falls_remove ts (get_or ts x 0) v xs f.1))

-- the moved variable gets the timestamp, and the others' stamps stay below it
stamped : (ts : List ℕ) (b v : ℕ) (o : List ℕ) → v < length ts → count v o ≤ 1 → Falls ts b o → Falls (set ts v b) (b + 1) (to_front v o)
unfolding Falls
stamped ts b v o h c f = rw (get_or-set_same ts v b 0 h) (omega arith, falls_frame ts (set ts v b) b (remove v o) (λ w k. get_or-set_other ts v w b 0 (away w k)) (falls_remove ts b v o f))
  where
    away : (w : ℕ) → 0 < count w (remove v o) → w ≢ v
    away w k e = omega (arith, rw e at k, remove_count_same v o)

module _ (next : List ℕ) (small : length next ≤ NONE) where
  -- stamping anew leaves the others alone
  renumber_other : (o : List ℕ) (k c w : ℕ) (ts : List ℕ) → Chain next c o → length o ≤ k → count w o ≡ 0 → get_or (renumber next k c ts) w 0 ≡ get_or ts w 0
  unfolding Chain
  renumber_other [] k c w ts h s e = rw (renumber_none next k c ts h)
  renumber_other (x ∷ xs) k c w ts h s e =
      let n : c ≢ NONE = λ z. omega (arith, h.0, h.1) in
      let d : x ≢ w = λ z. omega (arith, count_here w x xs z) in
      rw (renumber_step next k c ts n (omega arith))
      (renumber_other xs (k - 1) (get_or next c 0) w (set ts c k) (rw h.0 h.2) (omega arith) (omega (arith, count_there w x xs d)) ∙ get_or-set_other ts c w k 0 (λ z. d (sym h.0 ∙ sym z)))

  -- the first gets the highest
  first_stamp : (x : ℕ) (xs : List ℕ) (k c : ℕ) (ts : List ℕ) → Chain next c (x ∷ xs) → length (x ∷ xs) ≤ k → ((w : ℕ) → count w (x ∷ xs) ≤ 1) → ((w : ℕ) → 0 < count w (x ∷ xs) → w < length ts)
      → get_or (renumber next (k - 1) (get_or next c 0) (set ts c k)) x 0 ≡ k
  unfolding Chain
  first_stamp x xs k c ts h s once within =
      renumber_other xs (k - 1) (get_or next c 0) x (set ts c k) (rw h.0 h.2) (omega arith) (omega (arith, once x, count_here x x xs refl)) ∙ rw h.0 (get_or-set_same ts x k 0 (within x (count_head x xs)))

  -- the new stamps fall from the number of variables on
  renumber_falls : (o : List ℕ) (k c : ℕ) (ts : List ℕ) → Chain next c o → length o ≤ k → ((w : ℕ) → count w o ≤ 1) → ((w : ℕ) → 0 < count w o → w < length ts)
      → Falls (renumber next k c ts) (k + 1) o
  unfolding Chain Falls
  renumber_falls [] k c ts h s once within = tt
  renumber_falls (x ∷ xs) k c ts h s once within =
      let n : c ≢ NONE = λ z. omega (arith, h.0, h.1) in
      let t : List ℕ = set ts c k in
      let here : get_or (renumber next (k - 1) (get_or next c 0) t) x 0 ≡ k = first_stamp x xs k c ts h s once within in
      let e : k - 1 + 1 ≡ k = omega arith in
      let now : renumber next k c ts ≡ renumber next (k - 1) (get_or next c 0) t = renumber_step next k c ts n (omega arith) in
      let rest = renumber_falls xs (k - 1) (get_or next c 0) t (rw h.0 h.2) (omega arith) (λ w. omega (arith, once w, count_more w x xs)) (λ w q. simp length-set (within w (omega (arith, count_more w x xs)))) in
      subst (λ (r : List ℕ). Falls r (k + 1) (x ∷ xs)) (sym now) (rw here (omega arith), rw here (rw e at rest))

  -- each is less by one than the one before it
  renumber_stamps : (o : List ℕ) (k c : ℕ) (ts : List ℕ) → Chain next c o → length o ≤ k → ((w : ℕ) → count w o ≤ 1) → ((w : ℕ) → 0 < count w o → w < length ts)
      → (i : ℕ) → i < length o → get_or (renumber next k c ts) (get_or o i 0) 0 ≡ k - i
  unfolding Chain
  renumber_stamps [] k c ts h s once within i b = absurd (omega arith)
  renumber_stamps (x ∷ xs) k c ts h s once within zero b =
      rw (renumber_step next k c ts (λ z. omega (arith, h.0, h.1)) (omega arith)) (first_stamp x xs k c ts h s once within ∙ omega arith)
  renumber_stamps (x ∷ xs) k c ts h s once within (suc i) b =
      let rest = renumber_stamps xs (k - 1) (get_or next c 0) (set ts c k) (rw h.0 h.2) (omega arith) (λ w. omega (arith, once w, count_more w x xs)) (λ w q. simp length-set (within w (omega (arith, count_more w x xs)))) i (omega arith) in
      rw (renumber_step next k c ts (λ z. omega (arith, h.0, h.1)) (omega arith)) (rest ∙ omega arith)

-- ---- the whole move

-- stamping the list anew makes its stamps good, whatever they were
pub rescore_good : {n : ℕ} {order : List ℕ} {l : Vmtf} → Linked n order l → length l.ts ≡ n → (l.search ≢ NONE → l.search < n) → GoodList n order (rescore l)
unfolding rescore
rescore_good {n} {order} {l} k t s = record {
  linked = record { small = k.small; next_long = k.next_long; prev_long = k.prev_long; vars = k.vars; once = k.once; front = k.front; row = k.row };
  ts_long = length_renumber l.next (length l.next) l.start l.ts ∙ t;
  falls = renumber_falls l.next (few k) order (length l.next) l.start l.ts (chain k) (omega (arith, order_length k, k.next_long)) (at_most k) (λ w h. omega (arith, k.vars w h, t));
  search_in = s;
}

-- "`rescore` numbers the list N down to 1 and timestamp is N+1", and nothing else changes
pub rescore_is : {n : ℕ} {order : List ℕ} {l : Vmtf} → Linked n order l → length l.ts ≡ n → let m = rescore l in
    (m.next ≡ l.next) × (m.prev ≡ l.prev) × (m.start ≡ l.start) × (m.search ≡ l.search) × (m.timestamp ≡ n + 1) × ((i : ℕ) → i < n → get_or m.ts (get_or order i 0) 0 ≡ n - i)
unfolding rescore
rescore_is {n} {order} {l} k t = (
  refl,
  refl,
  refl,
  refl,
  rw k.next_long,
  λ i b. renumber_stamps l.next (few k) order (length l.next) l.start l.ts (chain k) (omega (arith, order_length k, k.next_long)) (at_most k) (λ w h. omega (arith, k.vars w h, t)) i (omega (arith, order_length k))
      ∙ omega (arith, k.next_long),
)

-- the stamp of the front may be the timestamp itself: after it the timestamp is above every stamp again
tick_good : {n : ℕ} {order : List ℕ} {l : Vmtf} → Linked n order l → length l.ts ≡ n → Falls l.ts (l.timestamp + 1) order → (l.search ≢ NONE → l.search < n) → GoodList n order (tick l)
unfolding tick
tick_good {n} {order} {l} k t f s =
    cond_elim (GoodList n order) (eqb l.timestamp max_stamp) (λ e. rescore_good k t s)
    (λ e. record {
      linked = record { small = k.small; next_long = k.next_long; prev_long = k.prev_long; vars = k.vars; once = k.once; front = k.front; row = k.row };
      ts_long = t;
      falls = f;
      search_in = s;
    })

pub move_good : {n : ℕ} {order : List ℕ} {l : Vmtf} (v : ℕ) → v < n → GoodList n order l → GoodList n (to_front v order) (move_to_front v l)
unfolding move_to_front relink
move_good {n} {order} {l} v h g =
    let k = g.linked in
    let d : v ≢ NONE = λ e. omega (arith, k.small) in
    cond_elim (GoodList n (to_front v order)) (eqb v l.start)
    (λ e. rw (front_front v order (eqb-true v l.start e ∙ k.front) d) g)
    (λ e. tick_good (relink_linked k v h (eqb-false v l.start e)) (simp length-set g.ts_long) (stamped l.ts l.timestamp v order (omega (arith, g.ts_long)) (at_most k v) g.falls) g.search_in)

-- ---- its stamps: with the order they are all that a move changes

-- "A variable that is at the front when its turn comes is left without a new stamp"
pub front_stays : (l : Vmtf) → move_to_front l.start l ≡ l
unfolding move_to_front
front_stays l = rw (eq-eqb l.start l.start refl)

-- any other gets the timestamp as its stamp, and the next timestamp is one more
pub move_stamps : (v : ℕ) (l : Vmtf) → v ≢ l.start → l.timestamp ≢ max_stamp → let m = move_to_front v l in (m.ts ≡ set l.ts v l.timestamp) × (m.timestamp ≡ l.timestamp + 1)
unfolding move_to_front relink tick
move_stamps v l d e = rw (ne_eqb v l.start d, ne_eqb l.timestamp max_stamp e) (refl, refl)

-- "After a stamp of 18446744073709551615" the list is numbered
pub move_renumbers : {n : ℕ} {order : List ℕ} {l : Vmtf} (v : ℕ) → v < n → GoodList n order l → v ≢ l.start → l.timestamp ≡ max_stamp → let m = move_to_front v l in
    (m.timestamp ≡ n + 1) × ((i : ℕ) → i < n → get_or m.ts (get_or (to_front v order) i 0) 0 ≡ n - i)
unfolding move_to_front relink tick
move_renumbers {n} {order} {l} v h g d e =
    let r = rescore_is (relink_linked g.linked v h d) (simp length-set g.ts_long) in
    rw (ne_eqb v l.start d, eq-eqb l.timestamp max_stamp e) (r.4, r.5)

-- ---- a group

moves_good : {n : ℕ} (vs : List ℕ) {order : List ℕ} {l : Vmtf} → ((v : ℕ) → 0 < count v vs → v < n) → GoodList n order l → GoodList n (all_to_front vs order) (move_all vs l)
unfolding move_all all_to_front
moves_good [] h g = g
moves_good (v ∷ vs) h g = moves_good vs (λ w k. h w (omega (arith, count_more w v vs))) (move_good v (h v (count_head v vs)) g)

module _ (ts : List ℕ) where
  insert_count : (v w : ℕ) (vs : List ℕ) → count w (insert_by_stamp ts v vs) ≡ count w (v ∷ vs)
  unfolding insert_by_stamp
  insert_count v w [] = refl
  insert_count v w (x ∷ xs) = cond_elim (λ (o : List ℕ). count w o ≡ count w (v ∷ x ∷ xs)) (leb (get_or ts v 0) (get_or ts x 0)) (λ e. refl)
      (λ e. count_cons w x (insert_by_stamp ts v xs) (v ∷ xs) (insert_count v w xs) ∙ count_swap w x v xs)

  -- the sort keeps the group
  pub sort_count : (w : ℕ) (vs : List ℕ) → count w (by_stamp ts vs) ≡ count w vs
  unfolding by_stamp
  sort_count w [] = refl
  sort_count w (v ∷ vs) = insert_count v w (by_stamp ts vs) ∙ count_cons w v (by_stamp ts vs) vs (sort_count w vs)

-- a group takes its variables to the front in turn, the lowest stamp first
pub group_good : {n : ℕ} (vs : List ℕ) {order : List ℕ} {l : Vmtf} → Vars n vs → GoodList n order l → GoodList n (all_to_front (by_stamp l.ts vs) order) (bump_vec_of_vars vs l)
unfolding bump_vec_of_vars
group_good {n} vs {order} {l} h g = moves_good (by_stamp l.ts vs) (λ v k. at_every (λ u. u < n) vs h v (rw (sort_count l.ts v vs) at k)) g

-- ---- search stays where it is

pub move_search : (v : ℕ) (l : Vmtf) → (move_to_front v l).search ≡ l.search
unfolding move_to_front tick relink rescore
move_search v l =
    cond_elim (λ (m : Vmtf). m.search ≡ l.search) (eqb v l.start) (λ _. refl)
    (λ _. cond_elim (λ (m : Vmtf). m.search ≡ l.search) (eqb l.timestamp max_stamp) (λ _. refl) (λ _. refl))

moves_search : (vs : List ℕ) (l : Vmtf) → (move_all vs l).search ≡ l.search
unfolding move_all
moves_search [] l = refl
moves_search (v ∷ vs) l = moves_search vs (move_to_front v l) ∙ move_search v l

pub group_search : (vs : List ℕ) (l : Vmtf) → (bump_vec_of_vars vs l).search ≡ l.search
unfolding bump_vec_of_vars
group_search vs l = moves_search (by_stamp l.ts vs) l
