-- A fresh list is good, `new_good`, and what it holds is fixed: `new_is`. Assumes nothing.
use Rattle.std.specs.Prelude.{ℕ, zero, suc, ◌+◌, ◌-◌, ◌<◌, ◌≤◌, ◌≡◌, refl, ◌≢◌, List, [], ◌∷◌, get_or, replicate}
use Rattle.std.proofs.Math.Path.{sym}
use Rattle.std.proofs.Common.{◌∙◌, arith, add-one, length-set, get_or-set_same, get_or-set_other}
use Rattle.std.proofs.Math.Logic.{by_cases}
use Rattle.std.proofs.Math.Decide.{dec_lt}
use Rattle.std.proofs.Math.ListN.{length, length-replicate}
use Rattle.laws.specs.InPlace.{length_up_to, get_or_up_to}
use Rattle.lit.specs.Numbers.{NONE}
use Rattle.util.specs.Pairs.{same_sym, stood}
use Rattle.vmtf.specs.Vmtf.{Vmtf, lit_order, first, linked, link_from, unlinked, make_linked_list, new}
use Rattle.vmtf.specs.Laws.{length_count, lit_pairs, lit_ordering}
use Rattle.vmtf.specs.Order.{count, count_here, count_more, count_head, first_in, at_every, every_at}
use Rattle.vmtf.specs.Good.{Row, Falls, GoodList, every_once}

-- ---- linking

-- the numbers, and the lengths, stay
record Same (l m : Vmtf) : Type 0 where
  next_long : length m.next ≡ length l.next
  prev_long : length m.prev ≡ length l.prev
  ts_long : length m.ts ≡ length l.ts
  start : m.start ≡ l.start
  search : m.search ≡ l.search
  timestamp : m.timestamp ≡ l.timestamp

link_same : (p : ℕ) (vs : List ℕ) (l : Vmtf) → Same l (link_from p vs l)
unfolding link_from
link_same p [] l = record { next_long = refl; prev_long = refl; ts_long = refl; start = refl; search = refl; timestamp = refl }
link_same p (v ∷ vs) l =
    let s = link_same v vs (linked p v (first vs) (length (v ∷ vs)) l) in
    record {
      next_long = s.next_long ∙ length-set l.next v (first vs);
      prev_long = s.prev_long ∙ length-set l.prev v p;
      ts_long = s.ts_long ∙ length-set l.ts v (length (v ∷ vs));
      start = s.start;
      search = s.search;
      timestamp = s.timestamp;
    }

-- what is not in the order stays
record Kept (w : ℕ) (l m : Vmtf) : Type 0 where
  next : get_or m.next w 0 ≡ get_or l.next w 0
  prev : get_or m.prev w 0 ≡ get_or l.prev w 0
  ts : get_or m.ts w 0 ≡ get_or l.ts w 0

link_kept : (p : ℕ) (vs : List ℕ) (l : Vmtf) (w : ℕ) → count w vs ≡ 0 → Kept w l (link_from p vs l)
unfolding link_from
link_kept p [] l w e = record { next = refl; prev = refl; ts = refl }
link_kept p (v ∷ vs) l w e =
    let d : w ≢ v = λ z. omega (arith, count_here w v vs (sym z)) in
    let k = link_kept v vs (linked p v (first vs) (length (v ∷ vs)) l) w (omega (arith, count_more w v vs)) in
    record {
      next = k.next ∙ get_or-set_other l.next v w (first vs) 0 d;
      prev = k.prev ∙ get_or-set_other l.prev v w p 0 d;
      ts = k.ts ∙ get_or-set_other l.ts v w (length (v ∷ vs)) 0 d;
    }

-- what is in the order is linked and stamped
link_row : (p : ℕ) (vs : List ℕ) (l : Vmtf) → ((w : ℕ) → count w vs ≤ 1) → ((w : ℕ) → 0 < count w vs → (w < length l.next) × (w < length l.prev) × (w < length l.ts))
    → Row (link_from p vs l).next (link_from p vs l).prev p vs × Falls (link_from p vs l).ts (length vs + 1) vs
unfolding link_from Row Falls
link_row p [] l once h = (tt, tt)
link_row p (v ∷ vs) l once h =
    let m : Vmtf = linked p v (first vs) (length (v ∷ vs)) l in
    let k : Kept v m (link_from v vs m) = link_kept v vs m v (omega (arith, once v, count_here v v vs refl)) in
    let b = h v (count_head v vs) in
    let stamp : get_or (link_from v vs m).ts v 0 ≡ suc (length vs) = k.ts ∙ get_or-set_same l.ts v (length (v ∷ vs)) 0 b.2 in
    let t = link_row v vs m (λ w. omega (arith, once w, count_more w v vs)) (λ w q. let r = h w (omega (arith, count_more w v vs)) in (simp length-set r.0, simp length-set r.1, simp length-set r.2)) in (
      (k.prev ∙ get_or-set_same l.prev v p 0 b.1, k.next ∙ get_or-set_same l.next v (first vs) 0 b.0, t.0),
      rw stamp (omega arith, rw add-one at t.1),
    )

-- and its stamp is the number of those from it on
link_stamps : (p : ℕ) (vs : List ℕ) (l : Vmtf) → ((w : ℕ) → count w vs ≤ 1) → ((w : ℕ) → 0 < count w vs → w < length l.ts) → (i : ℕ) → i < length vs → get_or (link_from p vs l).ts (get_or vs i 0) 0 ≡ length vs - i
unfolding link_from
link_stamps p [] l once h i b = absurd (omega arith)
link_stamps p (v ∷ vs) l once h zero b =
    let k = link_kept v vs (linked p v (first vs) (length (v ∷ vs)) l) v (omega (arith, once v, count_here v v vs refl)) in
    k.ts ∙ get_or-set_same l.ts v (length (v ∷ vs)) 0 (h v (count_head v vs)) ∙ omega arith
link_stamps p (v ∷ vs) l once h (suc i) b =
    link_stamps v vs (linked p v (first vs) (length (v ∷ vs)) l) (λ w. omega (arith, once w, count_more w v vs)) (λ w q. simp length-set (h w (omega (arith, count_more w v vs)))) i (omega arith)
    ∙ omega arith

module _ (n : ℕ) (order : List ℕ) (small : n ≤ NONE) (long : length order ≡ n) (vars : (v : ℕ) → 0 < count v order → v < n) (once : (v : ℕ) → v < n → count v order ≡ 1) where
  abbrev bare : Vmtf
  bare = unlinked (length order) (first order)

  most : (w : ℕ) → count w order ≤ 1
  most w = by_cases (dec_lt 0 (count w order)) (λ h. omega (arith, once w (vars w h))) (λ h. omega arith)

  make_good : GoodList n order (make_linked_list order)
  unfolding make_linked_list
  make_good =
      let s = link_same NONE order bare in
      let r = link_row NONE order bare most (λ w h.
      let b : w < length order = omega (arith, vars w h) in
      (simp length-replicate b, simp length-replicate b, simp length-replicate b)) in
      record {
        linked = record {
          small = small;
          next_long = s.next_long ∙ length-replicate (length order) NONE ∙ long;
          prev_long = s.prev_long ∙ length-replicate (length order) NONE ∙ long;
          vars = vars;
          once = once;
          front = s.start;
          row = r.0;
        };
        ts_long = s.ts_long ∙ length-replicate (length order) 0 ∙ long;
        falls = rw s.timestamp r.1;
        search_in = λ d. rw s.search (vars (first order) (first_in order (λ e. d (s.search ∙ e))));
      }

  make_is : let l = make_linked_list order in (l.search ≡ l.start) × (l.timestamp ≡ n + 1) × ((i : ℕ) → i < n → get_or l.ts (get_or order i 0) 0 ≡ n - i)
  unfolding make_linked_list
  make_is =
      let s = link_same NONE order bare in
      (s.search ∙ sym s.start, rw (s.timestamp, long), λ i b. link_stamps NONE order bare most (λ w h. simp length-replicate (omega (arith, vars w h))) i (omega arith) ∙ omega arith)

-- ---- the order of the counts

module _ (n : ℕ) (codes : List ℕ) where
  lit_vars : (v : ℕ) → 0 < count v (lit_order n codes) → v < n
  lit_vars = at_every (λ v. v < n) (lit_order n codes) (lit_ordering n codes).vars

  -- each variable stands in the list of pairs, before the sort and so after it
  lit_every : (v : ℕ) → v < n → 0 < count v (lit_order n codes)
  lit_every v h =
      let r = stood (same_sym (lit_pairs n codes)) v (omega (arith, length_count (replicate n 0) codes, length-replicate {A = ℕ} n 0)) (omega (arith, length_up_to n)) in
      rw (r.is_right ∙ get_or_up_to n v h) at (every_at (lit_order n codes) r.place r.in_right)

  lit_long : length (lit_order n codes) ≡ n
  lit_long = (lit_ordering n codes).long

  lit_once : (v : ℕ) → v < n → count v (lit_order n codes) ≡ 1
  lit_once = every_once n (lit_order n codes) lit_vars lit_every lit_long

  pub new_good : n ≤ NONE → GoodList n (lit_order n codes) (new n codes)
  unfolding new
  new_good small = make_good n (lit_order n codes) small lit_long lit_vars lit_once

  -- in that order, search at the front, stamps from n at the front down to 1: with the links of a good list this is all of its memory
  pub new_is : n ≤ NONE → let l = new n codes in (l.search ≡ l.start) × (l.timestamp ≡ n + 1) × ((i : ℕ) → i < n → get_or l.ts (get_or (lit_order n codes) i 0) 0 ≡ n - i)
  unfolding new
  new_is small = make_is n (lit_order n codes) small lit_long lit_vars lit_once
