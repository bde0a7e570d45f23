-- The check of a lent list says yes to the good lists and to no others: `check_good`. Assumes nothing.
use Prim.Native.Nat.{ℕ, zero, suc, ◌<◌, ◌≤◌}
use Rattle.std.specs.Prelude.{◌≡◌, refl, ◌≢◌, ◌↔◌, ◌&&◌, ◌||◌, get_or}
use Rattle.std.proofs.Common.{sym, ◌∙◌, arith}
use Rattle.std.proofs.Math.Path.{ap}
use Rattle.std.proofs.Math.Logic.{by_cases}
use Rattle.std.proofs.Math.Bool.{true}
use mathlib.Core.List.{List, [], ◌∷◌}
use Rattle.std.proofs.Math.Decide.{ℕ_discrete}
use Rattle.std.proofs.Math.ListN.{length}
use Rattle.std.proofs.Math.Dec.{eqb, ltb}
use borrow.Author.Tests.{eqb-true, eq-eqb, ne_eqb, ltb-true, lt-ltb}
use Rattle.laws.specs.Tests.{and_left, and_right, and_both}
use Rattle.lit.specs.Numbers.{NONE}
use Rattle.vmtf.specs.Vmtf.{Vmtf, first, stands, check_row, check_list}
use Rattle.vmtf.specs.Order.{count, count_there, count_more, count_head, count_nil}
use Rattle.vmtf.specs.Good.{Row, Falls, GoodList, InOrder, falls_once, length_once, order_length}

-- what the walk of the check shows: an order of k variables from c on, which come after p with stamps below b
record Walked (l : Vmtf) (k p b c : ℕ) : Type 0 where
  order : List ℕ
  long : length order ≡ k
  start : c ≡ first order
  vars : (v : ℕ) → 0 < count v order → v < length l.next
  row : Row l.next l.prev p order
  falls : Falls l.ts b order

module _ (l : Vmtf) where
  checked : (k p b c : ℕ) → check_row l k p b c ≡ true → Walked l k p b c
  unfolding check_row stands Row Falls
  checked zero p b c e = record { order = []; long = refl; start = eqb-true c NONE e; vars = λ v h. absurd (omega (arith, count_nil v)); row = tt; falls = tt }
  checked (suc k) p b c e =
      let n : ℕ = length l.next in
      let s : stands l p b c ≡ true = and_left (stands l p b c) _ e in
      let t : eqb (get_or l.prev c 0) p && ltb (get_or l.ts c 0) b ≡ true = and_right (ltb c n) _ s in
      let w = checked k c (get_or l.ts c 0) (get_or l.next c 0) (and_right (stands l p b c) _ e) in
      record {
        order = c ∷ w.order;
        long = ap suc w.long;
        start = refl;
        vars = λ v h. by_cases (ℕ_discrete c v) (λ q. rw (sym q) (ltb-true c n (and_left (ltb c n) _ s))) (λ d. w.vars v (omega (arith, count_there v c w.order d)));
        row = (eqb-true (get_or l.prev c 0) p (and_left (eqb (get_or l.prev c 0) p) _ t), w.start, w.row);
        falls = (ltb-true (get_or l.ts c 0) b (and_right (eqb (get_or l.prev c 0) p) _ t), w.falls);
      }

  passes : (o : List ℕ) (p b c : ℕ) → c ≡ first o → ((v : ℕ) → 0 < count v o → v < length l.next) → Row l.next l.prev p o → Falls l.ts b o → check_row l (length o) p b c ≡ true
  unfolding check_row stands Row Falls
  passes [] p b c e vars row falls = eq-eqb c NONE e
  passes (x ∷ xs) p b c e vars row falls = rw e
      (and_both (and_both (lt-ltb x (length l.next) (vars x (count_head x xs))) (and_both (eq-eqb (get_or l.prev x 0) p row.0) (lt-ltb (get_or l.ts x 0) b falls.0)))
      (passes xs x (get_or l.ts x 0) (get_or l.next x 0) row.1 (λ v h. vars v (omega (arith, count_more v x xs))) row.2 falls.1))

  search_true : (n : ℕ) → eqb l.search NONE || ltb l.search n ≡ true → l.search ≢ NONE → l.search < n
  search_true n e d = ltb-true l.search n (rw (ne_eqb l.search NONE d) at e)

  true_search : (n : ℕ) → (l.search ≢ NONE → l.search < n) → eqb l.search NONE || ltb l.search n ≡ true
  true_search n f = by_cases (ℕ_discrete l.search NONE) (λ e. rw (eq-eqb l.search NONE e)) (λ d. rw (ne_eqb l.search NONE d) (lt-ltb l.search n (f d)))

-- for memory of the right lengths: the check passes exactly when the list is good, in some order
pub check_good : (n : ℕ) (l : Vmtf) → n ≤ NONE → length l.next ≡ n → length l.prev ≡ n → length l.ts ≡ n
    → (check_list l ≡ true) ↔ InOrder n l
unfolding check_list
check_good n l small en ep et = (good, λ r. pass r.0 r.1)
  where
    good : check_list l ≡ true → InOrder n l
    good e =
        let w = checked l (length l.next) NONE l.timestamp l.start (and_left (check_row l (length l.next) NONE l.timestamp l.start) _ e) in
        let vars : (v : ℕ) → 0 < count v w.order → v < n = λ v h. omega (arith, w.vars v h) in (
          w.order,
          record {
            linked = record {
              small = small;
              next_long = en;
              prev_long = ep;
              vars = vars;
              once = length_once n w.order vars (falls_once l.ts l.timestamp w.order w.falls) (w.long ∙ en);
              front = w.start;
              row = w.row;
            };
            ts_long = et;
            falls = w.falls;
            search_in = search_true l n (rw en at (and_right (check_row l (length l.next) NONE l.timestamp l.start) _ e));
          },
        )

    pass : (order : List ℕ) → GoodList n order l → check_list l ≡ true
    pass o g =
        let k = g.linked in
        let long : length o ≡ length l.next = order_length k ∙ sym en in
        and_both (rw long at (passes l o NONE l.timestamp l.start k.front (λ v h. omega (arith, k.vars v h)) k.row g.falls))
        (true_search l (length l.next) (λ d. omega (arith, g.search_in d)))
