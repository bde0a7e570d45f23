-- What `get_next` answers: an open variable before which no open variable comes, and none exactly when nothing is open. Assumes nothing.
use Rattle.std.specs.Prelude.{◌≡◌, refl, true, false, List, ℕ, zero, suc, ◌<◌, T, get_or, set}
use Rattle.std.proofs.Common.{sym, ap, ◌∙◌, true≢false, arith}
use Rattle.std.specs.Float.{nan}
use Rattle.std.specs.Float.Ieee.{le}
use Rattle.heap.specs.Heap.{parent}
use Rattle.laws.specs.Tests.{cond_elim, not_true}
use Rattle.vsids.specs.Vsids.{Vsids, places, before, is_open, remove_first, Found, chose, nothing, get_next_of, get_next}
use Rattle.vsids.specs.Good.{GoodHeap, Chosen, Right}
use Rattle.heap.specs.Inverses.{remove_inverse}
use Rattle.heap.specs.Orders.{remove_order, first}
use Rattle.heap.specs.Members.{member, remove_member}
use Rattle.vsids.proofs.Scoring.{comes_order, no_higher}
use Rattle.vsids.proofs.Kept.{closed}
use Rattle.vsids.specs.Choice.{says_none}

module _ {n : ℕ} {values : List ℕ} (h : Vsids) (g : GoodHeap n values h) (z : 0 < h.len) where
  -- the first member goes: what is left is good for values under which it is closed
  taken : (values' : List ℕ) → ((u : ℕ) → is_open values' h.decision u ≡ true → (is_open values h.decision u ≡ true) × (u ≡ get_or h.heap 0 0 → ⊥)) → GoodHeap n values' (remove_first h)
  unfolding remove_first
  taken values' f = record {
    inverse = remove_inverse (before h) (places h) g.inverse z;
    ordered = remove_order (comes_order g.scores) (places h) g.inverse.room z g.ordered;
    scores = g.scores;
    switches = g.switches;
    on_or_off = g.on_or_off;
    open_in = λ u l q. let w = f u q in remove_member (before h) (omega (arith, g.inverse.room.fits, g.inverse.room.small)) (places h) u w.1 (g.open_in u l w.0);
  }

  -- no open variable comes before the first member
  top : (u : ℕ) → u < n → is_open values h.decision u ≡ true → before h u (get_or h.heap 0 0) ≡ false
  top u l e =
      let w = member g.inverse u l (g.open_in u l e) in
      let t = first (comes_order g.scores) h.len h.heap g.inverse.room.members g.ordered (get_or h.indices u 0) w.0 in
      rw w.1 at t

  chosen : is_open values h.decision (get_or h.heap 0 0) ≡ true → Chosen n values h (get_or h.heap 0 0) (remove_first h)
  unfolding remove_first
  chosen e = record {
    var = g.inverse.room.members 0 z;
    chosen_open = e;
    highest = top;
    good = λ p b. taken (set values (get_or h.heap 0 0) p) (λ u q. closed values h.decision (get_or h.heap 0 0) p u b q);
    switches = refl;
  }

-- what is right after a member is dropped was right before
lift : (n : ℕ) (values : List ℕ) (h : Vsids) (r : Found) → Right n values (remove_first h) r → Right n values h r
unfolding remove_first
lift n values h (chose v h') c = record { var = c.var; chosen_open = c.chosen_open; highest = c.highest; good = c.good; switches = c.switches }
lift n values h (nothing h') c = record { none = c.none; good = c.good; switches = c.switches }

one_less : (h : Vsids) (k : ℕ) → h.len ≡ suc k → (remove_first h).len ≡ k
unfolding remove_first
one_less h k e = omega arith

right_of : {n : ℕ} {values : List ℕ} (k : ℕ) (h : Vsids) → h.len ≡ k → GoodHeap n values h → Right n values h (get_next_of k values h)
unfolding get_next_of
right_of {n} {values} zero h e g = record {
  none = λ u l. not_true (is_open values h.decision u) (λ q. omega (arith, (member g.inverse u l (g.open_in u l q)).0));
  good = g;
  switches = refl;
}
right_of {n} {values} (suc k) h e g =
    let v = get_or h.heap 0 0 in
    let z : 0 < h.len = omega arith in
    cond_elim (Right n values h) (is_open values h.decision v)
    (λ q. chosen h g z q)
    (λ q. lift n values h (get_next_of k values (remove_first h)) (right_of k (remove_first h) (one_less h k e) (taken h g z values (λ u o. (o, λ d. true≢false (sym o ∙ ap (is_open values h.decision) d ∙ q))))))

pub get_next_right : {n : ℕ} {values : List ℕ} (h : Vsids) → GoodHeap n values h → Right n values h (get_next values h)
unfolding get_next
get_next_right h g = right_of h.len h refl g

-- the same, for an answer that is known
pub chose_right : {n : ℕ} {values : List ℕ} {v : ℕ} {h' : Vsids} (h : Vsids) → GoodHeap n values h → get_next values h ≡ chose v h' → Chosen n values h v h'
chose_right h g e = rw e at (get_next_right h g)

-- in activities: the chosen variable's is no lower than any other open variable's, and a parent's no lower than its member's
pub chosen_highest : {n : ℕ} {values : List ℕ} {v : ℕ} {h h' : Vsids} → GoodHeap n values h → Chosen n values h v h'
    → (u : ℕ) → u < n → is_open values h.decision u ≡ true → T (le (get_or h.activity u nan) (get_or h.activity v nan))
chosen_highest {v = v} g c u l e = no_higher g.scores u v l c.var (c.highest u l e)

pub parent_no_lower : {n : ℕ} {values : List ℕ} {h : Vsids} → GoodHeap n values h → (i : ℕ) → 0 < i → i < h.len
    → T (le (get_or h.activity (get_or h.heap i 0) nan) (get_or h.activity (get_or h.heap (parent i) 0) nan))
parent_no_lower g i z l = let m = g.inverse.room.members in no_higher g.scores _ _ (m i l) (m (parent i) (omega arith)) (g.ordered i z l)

pub none_open : {n : ℕ} {values : List ℕ} (h : Vsids) → GoodHeap n values h → says_none (get_next values h) ≡ true → (u : ℕ) → u < n → is_open values h.decision u ≡ false
none_open {n} {values} h g = go (get_next values h) (get_next_right h g)
  where
    go : (r : Found) → Right n values h r → says_none r ≡ true → (u : ℕ) → u < n → is_open values h.decision u ≡ false
    go (chose v h') c e = absurd (true≢false (sym e))
    go (nothing h') c e = c.none

pub open_none : {n : ℕ} {values : List ℕ} (h : Vsids) → GoodHeap n values h → ((u : ℕ) → u < n → is_open values h.decision u ≡ false) → says_none (get_next values h) ≡ true
open_none {n} {values} h g closed = go (get_next values h) (get_next_right h g)
  where
    go : (r : Found) → Right n values h r → says_none r ≡ true
    go (chose v h') c = absurd (true≢false (sym c.chosen_open ∙ closed v c.var))
    go (nothing h') c = refl
