-- A good list: the facts that document 01 states of the move-to-front list, over the plain order of its variables.
-- Assumes nothing.
use Rattle.std.specs.Prelude.{ℕ, zero, suc, ◌+◌, ◌<◌, ◌≤◌, ◌≡◌, ◌≢◌, ◌↔◌, length}
use Rattle.std.proofs.Math.Path.{refl, sym, ap}
use Rattle.std.proofs.Common.{◌∙◌, arith}
use Rattle.std.proofs.Math.Logic.{by_cases}
use mathlib.Core.List.{List, [], ◌∷◌}
use Rattle.std.proofs.Math.Decide.{ℕ_discrete, dec_lt}
use Rattle.std.proofs.Math.ListN.{get_or}
use Rattle.lit.specs.Numbers.{NONE}
use Rattle.vmtf.specs.Vmtf.{Vmtf, first, from, Safe, Chain, Ends}
use Rattle.vmtf.specs.Laws.{chain_from}
use Rattle.vmtf.specs.Order.{count, after, before, count_here, count_there, count_more, count_head, count_nil, after_here, after_there, before_here, before_there, after_in, before_some, first_in, first_var, after_before, before_after}

-- vs stand in a row after p: the links of each agree with the one before it and the one after it, NONE after the last
unfoldable pub Row : List ℕ → List ℕ → ℕ → List ℕ → Type 0
Row next prev p [] = Unit {0}
Row next prev p (v ∷ vs) = (get_or prev v 0 ≡ p) × (get_or next v 0 ≡ first vs) × Row next prev v vs

-- the stamps of vs fall strictly, from below b on
unfoldable pub Falls : List ℕ → ℕ → List ℕ → Type 0
Falls ts b [] = Unit {0}
Falls ts b (v ∷ vs) = (get_or ts v 0 < b) × Falls ts (get_or ts v 0) vs

-- The links of a list of n variables, which stand in this order.
pub record Linked (n : ℕ) (order : List ℕ) (l : Vmtf) : Type 0 where
  pub small : n ≤ NONE
  pub next_long : length l.next ≡ n
  pub prev_long : length l.prev ≡ n
  -- the order holds variables, and each variable stands once
  pub vars : (v : ℕ) → 0 < count v order → v < n
  pub once : (v : ℕ) → v < n → count v order ≡ 1
  -- links agree both ways, with NONE before the front and after the last
  pub front : l.start ≡ first order
  pub row : Row l.next l.prev NONE order

pub record GoodList (n : ℕ) (order : List ℕ) (l : Vmtf) : Type 0 where
  pub linked : Linked n order l
  pub ts_long : length l.ts ≡ n
  -- stamps fall strictly from the front, and the timestamp is above them all
  pub falls : Falls l.ts l.timestamp order
  -- search is a variable or NONE
  pub search_in : l.search ≢ NONE → l.search < n

-- good, in some order: the links tell which (`order_is`)
abbrev pub InOrder : ℕ → Vmtf → Type 0
InOrder n l = (order : List ℕ) × GoodList n order l

-- ---- counting

-- how many of an order are below n
total : ℕ → List ℕ → ℕ
total zero o = 0
total (suc n) o = total n o + count n o

total_none : (n : ℕ) → total n [] ≡ 0
unfolding total
total_none zero = refl
total_none (suc n) = rw (total_none n, count_nil n)

total_above : (n x : ℕ) (xs : List ℕ) → n ≤ x → total n (x ∷ xs) ≡ total n xs
unfolding total
total_above zero x xs h = refl
total_above (suc n) x xs h = rw (total_above n x xs (omega arith), count_there n x xs (λ e. omega arith))

total_below : (n x : ℕ) (xs : List ℕ) → x < n → total n (x ∷ xs) ≡ suc (total n xs)
unfolding total
total_below zero x xs h = absurd (omega arith)
total_below (suc n) x xs h =
    by_cases (ℕ_discrete x n)
    (λ e. omega (arith, total_above n x xs (omega arith), count_here n x xs e))
    (λ d. omega (arith, total_below n x xs (omega arith), count_there n x xs d))

total_length : (n : ℕ) (o : List ℕ) → ((v : ℕ) → 0 < count v o → v < n) → total n o ≡ length o
total_length n [] h = total_none n
total_length n (x ∷ xs) h = total_below n x xs (h x (count_head x xs)) ∙ ap suc (total_length n xs (λ v k. h v (omega (arith, count_more v x xs))))

total_once : (n : ℕ) (o : List ℕ) → ((v : ℕ) → v < n → count v o ≡ 1) → total n o ≡ n
unfolding total
total_once zero o h = refl
total_once (suc n) o h = omega (arith, total_once n o (λ v k. h v (omega arith)), h n (omega arith))

total_most : (n : ℕ) (o : List ℕ) → ((v : ℕ) → count v o ≤ 1) → total n o ≤ n
unfolding total
total_most zero o h = omega arith
total_most (suc n) o h = omega (arith, total_most n o h, h n)

total_all : (n : ℕ) (o : List ℕ) → ((v : ℕ) → count v o ≤ 1) → n ≤ total n o → (v : ℕ) → v < n → count v o ≡ 1
unfolding total
total_all zero o h k v b = absurd (omega arith)
total_all (suc n) o h k v b =
    by_cases (ℕ_discrete v n)
    (λ e. rw e (omega (arith, total_most n o h, h n)))
    (λ d. total_all n o h (omega (arith, h n)) v (omega arith))

total_least : (n : ℕ) (o : List ℕ) → ((v : ℕ) → v < n → 0 < count v o) → n ≤ total n o
unfolding total
total_least zero o h = omega arith
total_least (suc n) o h = omega (arith, total_least n o (λ v k. h v (omega arith)), h n (omega arith))

total_exact : (n : ℕ) (o : List ℕ) → ((v : ℕ) → v < n → 0 < count v o) → total n o ≤ n → (v : ℕ) → v < n → count v o ≡ 1
unfolding total
total_exact zero o h k v b = absurd (omega arith)
total_exact (suc n) o h k v b =
    let below : (w : ℕ) → w < n → 0 < count w o = λ w q. h w (omega arith) in
    by_cases (ℕ_discrete v n)
    (λ e. rw e (omega (arith, total_least n o below, h n (omega arith))))
    (λ d. total_exact n o below (omega (arith, h n (omega arith))) v (omega arith))

-- an order in which each of n variables stands once, and nothing else, has n places
once_length : (n : ℕ) (o : List ℕ) → ((v : ℕ) → 0 < count v o → v < n) → ((v : ℕ) → v < n → count v o ≡ 1) → length o ≡ n
once_length n o vars once = sym (total_length n o vars) ∙ total_once n o once

-- an order of n places in which only variables stand, none twice, has each of them
pub length_once : (n : ℕ) (o : List ℕ) → ((v : ℕ) → 0 < count v o → v < n) → ((v : ℕ) → count v o ≤ 1) → length o ≡ n → (v : ℕ) → v < n → count v o ≡ 1
length_once n o vars most long = total_all n o most (omega (arith, total_length n o vars))

-- an order of n places in which only variables stand, and each of them, has none twice
pub every_once : (n : ℕ) (o : List ℕ) → ((v : ℕ) → 0 < count v o → v < n) → ((v : ℕ) → v < n → 0 < count v o) → length o ≡ n → (v : ℕ) → v < n → count v o ≡ 1
every_once n o vars every long = total_exact n o every (omega (arith, total_length n o vars))

-- ---- links

module _ (next prev : List ℕ) where
  -- along a row each variable's links are the ones beside it
  row_beside : (p : ℕ) (o : List ℕ) → Row next prev p o → (w : ℕ) → 0 < count w o → (get_or next w 0 ≡ after w o) × (get_or prev w 0 ≡ before p w o)
  unfolding Row
  row_beside p [] r w h = absurd (omega (arith, count_nil w))
  row_beside p (x ∷ xs) r w h =
      by_cases (ℕ_discrete x w)
      (λ e. (sym (ap (λ (u : ℕ). get_or next u 0) e) ∙ r.1 ∙ sym (after_here w x xs e), sym (ap (λ (u : ℕ). get_or prev u 0) e) ∙ r.0 ∙ sym (before_here w x xs p e)))
      (λ d.
      let t = row_beside x xs r.2 w (omega (arith, count_there w x xs d)) in
      (t.0 ∙ sym (after_there w x xs d), t.1 ∙ sym (before_there w x xs p d)))

  -- and where they are, the order is a row
  pub beside_row : (p : ℕ) (o : List ℕ) → ((w : ℕ) → count w o ≤ 1) → ((w : ℕ) → 0 < count w o → (get_or next w 0 ≡ after w o) × (get_or prev w 0 ≡ before p w o)) → Row next prev p o
  unfolding Row
  beside_row p [] once f = tt
  beside_row p (x ∷ xs) once f =
      let h = f x (count_head x xs) in (
        h.1 ∙ before_here x x xs p refl,
        h.0 ∙ after_here x x xs refl,
        beside_row x xs (λ w. omega (arith, once w, count_more w x xs)) (λ w k.
            let d : x ≢ w = λ e. omega (arith, once w, count_here w x xs e) in
            let t = f w (omega (arith, count_more w x xs)) in
            (t.0 ∙ after_there w x xs d, t.1 ∙ before_there w x xs p d)),
      )

  -- a row is a walk that ends
  row_chain : (p : ℕ) (o : List ℕ) → Row next prev p o → ((w : ℕ) → 0 < count w o → w < length next) → Chain next (first o) o
  unfolding Row Chain
  row_chain p [] r h = refl
  row_chain p (x ∷ xs) r h = (refl, h x (count_head x xs), rw r.1 (row_chain x xs r.2 (λ w k. h w (omega (arith, count_more w x xs)))))

-- from any variable of a walk that ends, the walk ends
chain_at : (next : List ℕ) → length next ≤ NONE → (o : List ℕ) (c : ℕ) → Chain next c o → length o ≤ length next → (w : ℕ) → 0 < count w o → Ends next w
unfolding Chain
chain_at next few [] c k s w h = absurd (omega (arith, count_nil w))
chain_at next few (x ∷ xs) c k s w h =
    by_cases (ℕ_discrete x w)
    (λ e. record { rest = x ∷ xs; chain = (sym e, k.1, k.2); short = s; small = few })
    (λ d. chain_at next few xs (get_or next x 0) k.2 (omega arith) w (omega (arith, count_there w x xs d)))

-- ---- stamps

module _ (ts : List ℕ) where
  pub falls_below : (b : ℕ) (o : List ℕ) → Falls ts b o → (w : ℕ) → 0 < count w o → get_or ts w 0 < b
  unfolding Falls
  falls_below b [] f w h = absurd (omega (arith, count_nil w))
  falls_below b (x ∷ xs) f w h =
      by_cases (ℕ_discrete x w)
      (λ e. rw (sym e) f.0)
      (λ d. omega (arith, falls_below (get_or ts x 0) xs f.1 w (omega (arith, count_there w x xs d)), f.0))

  -- what falls stands once
  pub falls_once : (b : ℕ) (o : List ℕ) → Falls ts b o → (w : ℕ) → count w o ≤ 1
  unfolding Falls
  falls_once b [] f w = omega (arith, count_nil w)
  falls_once b (x ∷ xs) f w =
      by_cases (ℕ_discrete x w)
      (λ e. by_cases (dec_lt 0 (count w xs)) (λ k. absurd (omega (arith, falls_below (get_or ts x 0) xs f.1 w k, ap (λ (u : ℕ). get_or ts u 0) e))) (λ k. omega (arith, count_here w x xs e)))
      (λ d. omega (arith, count_there w x xs d, falls_once (get_or ts x 0) xs f.1 w))

  pub falls_weaken : (b c : ℕ) (o : List ℕ) → Falls ts b o → b ≤ c → Falls ts c o
  unfolding Falls
  falls_weaken b c [] f h = tt
  falls_weaken b c (x ∷ xs) f h = (omega (arith, f.0), f.1)

-- stamps elsewhere do not matter
pub falls_frame : (ts ts' : List ℕ) (b : ℕ) (o : List ℕ) → ((w : ℕ) → 0 < count w o → get_or ts' w 0 ≡ get_or ts w 0) → Falls ts b o → Falls ts' b o
unfolding Falls
falls_frame ts ts' b [] e f = tt
falls_frame ts ts' b (x ∷ xs) e f =
    let h : get_or ts' x 0 ≡ get_or ts x 0 = e x (count_head x xs) in
    (rw h f.0, rw h (falls_frame ts ts' (get_or ts x 0) xs (λ w k. e w (omega (arith, count_more w x xs))) f.1))

-- ---- what the links give

module _ {n : ℕ} {order : List ℕ} {l : Vmtf} (k : Linked n order l) where
  pub order_length : length order ≡ n
  order_length = once_length n order k.vars k.once

  pub in_order : (v : ℕ) → v < n → 0 < count v order
  in_order v h = omega (arith, k.once v h)

  pub at_most : (v : ℕ) → count v order ≤ 1
  at_most v = by_cases (dec_lt 0 (count v order)) (λ h. omega (arith, k.once v (k.vars v h))) (λ h. omega arith)

  pub next_is : (v : ℕ) → v < n → get_or l.next v 0 ≡ after v order
  next_is v h = (row_beside l.next l.prev NONE order k.row v (in_order v h)).0

  pub prev_is : (v : ℕ) → v < n → get_or l.prev v 0 ≡ before NONE v order
  prev_is v h = (row_beside l.next l.prev NONE order k.row v (in_order v h)).1

  -- links agree both ways
  pub links_agree : (v w : ℕ) → v < n → w < n → (get_or l.next v 0 ≡ w) ↔ (get_or l.prev w 0 ≡ v)
  links_agree v w hv hw =
      let dv : v ≢ NONE = λ e. omega (arith, k.small) in
      let dw : w ≢ NONE = λ e. omega (arith, k.small) in (
        λ e. prev_is w hw ∙ after_before v w NONE order dw (at_most w) (sym (next_is v hv) ∙ e),
        λ e. next_is v hv ∙ before_after v w NONE order dv dv (at_most v) (sym (prev_is w hw) ∙ e),
      )

  pub few : length l.next ≤ NONE
  few = omega (arith, k.next_long, k.small)

  pub chain : Chain l.next l.start order
  chain = rw k.front (row_chain l.next l.prev NONE order k.row (λ w h. omega (arith, k.vars w h, k.next_long)))

  -- the links alone tell the order
  pub order_is : from l.next (length l.next) l.start ≡ order
  order_is = chain_from l.next order (length l.next) l.start few chain (omega (arith, order_length, k.next_long))

  pub start_in : 0 < n → l.start < n
  start_in h = rw k.front (k.vars _ (first_var order (omega (arith, order_length))))

-- ---- what a good list gives

module _ {n : ℕ} {order : List ℕ} {l : Vmtf} (g : GoodList n order l) where
  -- the timestamp is above every stamp
  pub stamp_below : (v : ℕ) → v < n → get_or l.ts v 0 < l.timestamp
  stamp_below v h = falls_below l.ts l.timestamp order g.falls v (in_order g.linked v h)

  -- a good list is safe to move in
  pub good_safe : Safe n l
  good_safe =
      let k = g.linked in
      record {
        links = record {
          next_long = k.next_long;
          next_in = λ v h d. rw (next_is k v h) (k.vars _ (after_in v order (λ e. d (next_is k v h ∙ e))));
          curr_in = λ d. rw k.front (k.vars _ (first_in order (λ e. d (k.front ∙ e))));
        };
        prev_long = k.prev_long;
        ts_long = g.ts_long;
        prev_in = λ v h d. rw (prev_is k v h) (k.vars _ (before_some NONE v order (in_order k v h) (λ e. d (e ∙ sym k.front))));
        front = start_in k;
      }

  -- from search on the links lead to NONE
  pub good_ends : Ends l.next l.search
  unfolding Chain
  good_ends =
      by_cases (ℕ_discrete l.search NONE)
      (λ e. record { rest = []; chain = e; short = omega arith; small = few g.linked })
      (λ d. chain_at l.next (few g.linked) order l.start (chain g.linked) (omega (arith, order_length g.linked, g.linked.next_long)) l.search (in_order g.linked l.search (g.search_in d)))
