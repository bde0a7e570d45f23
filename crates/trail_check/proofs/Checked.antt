-- The check's tests say what the facts say: each test against its fact or two, then the whole.
use Prim.Native.Nat.{ℕ, zero, suc, ◌-◌, ◌≤◌, ◌<◌}
use Rattle.std.specs.Prelude.{◌≡◌, ◌↔◌, ◌≢◌, false, List, length, get_or, leb, ltb, eqb}
use Rattle.std.proofs.Common.{sym, ◌∙◌, inl, inr}
use Rattle.std.proofs.Math.Logic.{by_cases, ⊎_elim}
use Rattle.std.proofs.Math.Bool.{true, false≢true}
use native.Mathlib.Omega.{arith}
use Rattle.std.proofs.Math.Decide.{ℕ_discrete, dec_lt}
use borrow.Author.Tests as test
use Rattle.laws.specs.Tests.{and_left, and_right, and_both}
use Rattle.laws.specs.Choices.{or_left, or_right, or_cases}
use Rattle.laws.specs.Every.{every_at, every_all}
use Rattle.laws.specs.Some.{some_at, some_none, some_found}
use Rattle.lit.specs.Numbers.{NONE, unassigned}
use Rattle.lit.specs.Lits.{index, lit_sat}
use Rattle.trail.specs.Trail.{Trail}
use Rattle.trail.specs.Memory.{Sized}
use Rattle.trail.specs.Good.{IsReason, not_above, GoodTrail}
use Rattle.lit.specs.Unused.{none_at, unused_ok}
use Rattle.trail_check.specs.Check.{counts_ok, value_ok, values_ok, reason_ok, reasons_ok, level_ok, opened_ok, stands, place_ok, places_ok, held_at, held_ok, level_is, levels_ok, trail_ok}
use Rattle.trail_check.specs.Checked.{Counts, Openings, Places, Reasons}

module _ (values : List ℕ) where
  pub values_right : (values_ok values ≡ true) ↔ ((v : ℕ) → v < length values → get_or values v 0 ≤ unassigned)
  unfolding values_ok
  values_right = (
    λ e v h. test.leb-true _ _ (every_at (value_ok values) (length values) v e h),
    λ f. every_all (value_ok values) (length values) (λ v h. test.le-leb _ _ (f v h)),
  )

module _ (m : ℕ) (values reasons : List ℕ) where
  reason_at : (v : ℕ) → reason_ok m values reasons v ≡ true → IsReason m (get_or reasons v 0) × (get_or values v 0 ≡ unassigned → get_or reasons v 0 ≡ NONE)
  reason_at v e =
      or_cases (eqb (get_or reasons v 0) NONE) _ e
      (λ q. let h = test.eqb-true _ _ q in (inr h, λ _. h))
      (λ q. (inl (test.ltb-true _ _ (and_left _ _ q)), λ u. absurd (omega (arith, u, test.ltb-true (get_or values v 0) unassigned (and_right (ltb (get_or reasons v 0) m) _ q)))))

  pub reasons_right : ((v : ℕ) → v < length values → get_or values v 0 ≤ unassigned) → (reasons_ok m values reasons ≡ true) ↔ Reasons m values reasons
  unfolding reasons_ok
  reasons_right g = (
    λ e. record {
      good = λ v h. (reason_at v (every_at (reason_ok m values reasons) (length values) v e h)).0;
      none = λ v h. (reason_at v (every_at (reason_ok m values reasons) (length values) v e h)).1;
    },
    λ r. every_all (reason_ok m values reasons) (length values) (λ v h. ⊎_elim
        (λ q. by_cases (ℕ_discrete (get_or values v 0) unassigned)
        (λ u. or_left (eqb (get_or reasons v 0) NONE) _ (test.eq-eqb _ _ (r.none v h u)))
        (λ u. or_right (eqb (get_or reasons v 0) NONE) _ (and_both (test.lt-ltb _ _ q) (test.lt-ltb (get_or values v 0) unassigned (omega (arith, g v h, u))))))
        (λ q. or_left (eqb (get_or reasons v 0) NONE) _ (test.eq-eqb _ _ q))
        (r.good v h)),
  )

module _ (l : List ℕ) (used : ℕ) where
  pub unused_right : (unused_ok l used ≡ true) ↔ ((i : ℕ) → used ≤ i → i < length l → get_or l i 0 ≡ NONE)
  unfolding unused_ok
  unused_right = (
    λ e i u h. or_cases (ltb i used) _ (every_at (none_at l used) (length l) i e h) (λ q. absurd (omega (arith, test.ltb-true i used q))) (test.eqb-true _ _),
    λ f. every_all (none_at l used) (length l) (λ i h.
        by_cases (dec_lt i used)
        (λ q. or_left (ltb i used) _ (test.lt-ltb i used q))
        (λ q. or_right (ltb i used) _ (test.eq-eqb _ _ (f i (omega arith) h)))),
  )

module _ (opened : List ℕ) (level len : ℕ) where
  -- from neighbours to all
  rises : ((k : ℕ) → suc k < level → get_or opened k 0 < get_or opened (suc k) 0) → (j k : ℕ) → j < k → k < level → get_or opened j 0 < get_or opened k 0
  rises f j zero h b = absurd (omega arith)
  rises f j (suc k) h b =
      by_cases (ℕ_discrete j k)
      (λ e. rw e (f k b))
      (λ e. omega (arith, f k b, rises f j k (omega arith) (omega arith)))

  pub opened_right : (opened_ok opened level len ≡ true) ↔ Openings opened level len
  unfolding opened_ok
  opened_right = (
    λ e. record {
      rising = rises (λ k h. or_cases (eqb (suc k) 0) _ (and_right (ltb (get_or opened (suc k) 0) len) _ (every_at (level_ok opened len) level (suc k) e h)) (λ q. absurd (omega (arith, test.eqb-true (suc k) 0 q))) (λ q. let z : suc k - 1 ≡ k = omega arith in rw z at (test.ltb-true (get_or opened (suc k - 1) 0) (get_or opened (suc k) 0) q)));
      below = λ k h. test.ltb-true _ _ (and_left _ _ (every_at (level_ok opened len) level k e h));
    },
    λ r. every_all (level_ok opened len) level (λ k h. and_both (test.lt-ltb _ _ (r.below k h)) (
        by_cases (ℕ_discrete k 0)
        (λ q. or_left (eqb k 0) _ (test.eq-eqb k 0 q))
        (λ q. or_right (eqb k 0) _ (test.lt-ltb _ _ (r.rising (k - 1) k (omega arith) h))))),
  )

-- standing at one of the first places
pub stands_at : (trail : List ℕ) (v k i : ℕ) → i < k → index (get_or trail i 0) ≡ v → stands trail v k ≡ true
unfolding stands
stands_at trail v k i h e = some_at (λ j. eqb (index (get_or trail j 0)) v) k i h (test.eq-eqb _ _ e)

pub stands_not : (trail : List ℕ) (v k : ℕ) → ((i : ℕ) → i < k → index (get_or trail i 0) ≢ v) → stands trail v k ≡ false
unfolding stands
stands_not trail v k f = some_none (λ j. eqb (index (get_or trail j 0)) v) k (λ i h. test.ne_eqb _ _ (f i h))

pub stands_where : (trail : List ℕ) (v k : ℕ) → stands trail v k ≡ true → (i : ℕ) × ((i < k) × (index (get_or trail i 0) ≡ v))
unfolding stands
stands_where trail v k e = let r = some_found (λ j. eqb (index (get_or trail j 0)) v) k e in (r.0, (r.1.0, test.eqb-true _ _ r.1.1))

module _ (values trail : List ℕ) (len : ℕ) where
  pub places_right : (places_ok values trail len ≡ true) ↔ Places values trail len
  unfolding places_ok
  places_right = (
    λ e. let p : (i : ℕ) → i < len → place_ok values trail i ≡ true = λ i h. every_at (place_ok values trail) len i e h in record {
      codes_in = λ i h. test.ltb-true _ _ (and_left _ _ (p i h));
      agrees = λ i h. test.eqb-true _ _ (and_left _ _ (and_right (ltb (index (get_or trail i 0)) (length values)) _ (p i h)));
      once = λ i j b h q.
          let z = test.not-true _ (and_right (lit_sat (get_or trail j 0) values) _ (and_right (ltb (index (get_or trail j 0)) (length values)) _ (p j h))) in
          false≢true (sym z ∙ stands_at trail (index (get_or trail j 0)) j i b q);
    },
    λ r. every_all (place_ok values trail) len (λ i h. and_both (test.lt-ltb _ _ (r.codes_in i h)) (and_both (test.eq-eqb _ _ (r.agrees i h)) (
        rw (stands_not trail (index (get_or trail i 0)) i (λ j b. r.once j i b h))))),
  )

  pub held_right : ((v : ℕ) → v < length values → get_or values v 0 ≤ unassigned)
      → (held_ok values trail len ≡ true) ↔ ((v : ℕ) → v < length values → get_or values v 0 ≢ unassigned → (i : ℕ) × ((i < len) × (index (get_or trail i 0) ≡ v)))
  unfolding held_ok
  held_right g = (
    λ e v h u. or_cases (leb unassigned (get_or values v 0)) _ (every_at (held_at values trail len) (length values) v e h)
        (λ q. absurd (omega (arith, g v h, u, test.leb-true unassigned (get_or values v 0) q)))
        (stands_where trail v len),
    λ f. every_all (held_at values trail len) (length values) (λ v h.
        by_cases (ℕ_discrete (get_or values v 0) unassigned)
        (λ u. or_left (leb unassigned (get_or values v 0)) _ (test.le-leb unassigned (get_or values v 0) (omega (arith, u))))
        (λ u. let r = f v h u in or_right (leb unassigned (get_or values v 0)) _ (stands_at trail v len r.0 r.1.0 r.1.1))),
  )

module _ (levels trail opened : List ℕ) (level len : ℕ) where
  pub levels_right : (levels_ok levels trail opened level len ≡ true) ↔ ((i : ℕ) → i < len → get_or levels (index (get_or trail i 0)) 0 ≡ not_above opened level i)
  unfolding levels_ok
  levels_right = (
    λ e i h. test.eqb-true _ _ (every_at (level_is levels trail opened level) len i e h),
    λ f. every_all (level_is levels trail opened level) len (λ i h. test.eq-eqb _ _ (f i h)),
  )

pub counts_right : (n len level curr : ℕ) → (counts_ok n len level curr ≡ true) ↔ Counts n len level curr
unfolding counts_ok
counts_right n len level curr = (
  λ e. record {
    len_in = test.leb-true _ _ (and_left _ _ e);
    level_in = test.leb-true _ _ (and_left _ _ (and_right (leb len n) _ e));
    curr_in = test.leb-true _ _ (and_right (leb level n) _ (and_right (leb len n) _ e));
  },
  λ r. and_both (test.le-leb _ _ r.len_in) (and_both (test.le-leb _ _ r.level_in) (test.le-leb _ _ r.curr_in)),
)

-- the check's parts
record Parts (m : ℕ) (t : Trail) : Type 0 where
  counts : counts_ok (length t.values) t.len t.level t.curr ≡ true
  values : values_ok t.values ≡ true
  reasons : reasons_ok m t.values t.reasons ≡ true
  trail_unused : unused_ok t.trail t.len ≡ true
  opened_unused : unused_ok t.opened t.level ≡ true
  places : places_ok t.values t.trail t.len ≡ true
  held : held_ok t.values t.trail t.len ≡ true
  opened : opened_ok t.opened t.level t.len ≡ true
  levels : levels_ok t.levels t.trail t.opened t.level t.len ≡ true

parts : (m : ℕ) (t : Trail) → (trail_ok m t ≡ true) ↔ Parts m t
unfolding trail_ok
parts m t = (λ e. search (and_left, and_right), λ p. search and_both depth 9)

-- The check passes exactly the good trails.
pub trail_right : (n m : ℕ) (t : Trail) → Sized n t → (trail_ok m t ≡ true) ↔ GoodTrail n m t
trail_right n m t s = (
  λ e.
      let p = (parts m t).0 e in
      let counts = (counts_right _ _ _ _).0 p.counts in
      let values = (values_right t.values).0 p.values in
      let reasons = (reasons_right m t.values t.reasons values).0 p.reasons in
      let places = (places_right t.values t.trail t.len).0 p.places in
      let openings = (opened_right t.opened t.level t.len).0 p.opened in
      record {
        lengths = s;
        values_good = λ v h. values v (omega arith);
        reasons_good = λ v h. reasons.good v (omega arith);
        no_reason = λ v h. reasons.none v (omega arith);
        len_in = omega arith;
        level_in = omega arith;
        curr_in = counts.curr_in;
        codes_in = λ i h. omega (arith, places.codes_in i h);
        agrees = places.agrees;
        held = λ v h. (held_right t.values t.trail t.len values).0 p.held v (omega arith);
        once = places.once;
        rising = openings.rising;
        below = openings.below;
        levels_good = (levels_right t.levels t.trail t.opened t.level t.len).0 p.levels;
        trail_unused = λ i u h. (unused_right t.trail t.len).0 p.trail_unused i u (omega arith);
        opened_unused = λ k u h. (unused_right t.opened t.level).0 p.opened_unused k u (omega arith);
      },
  λ g.
      let values : (v : ℕ) → v < length t.values → get_or t.values v 0 ≤ unassigned = λ v h. g.values_good v (omega arith) in
      (parts m t).1 (record {
        counts = (counts_right (length t.values) t.len t.level t.curr).1 (record { len_in = omega (arith, g.len_in); level_in = omega (arith, g.level_in); curr_in = g.curr_in });
        values = (values_right t.values).1 values;
        reasons = (reasons_right m t.values t.reasons values).1 (record { good = λ v h. g.reasons_good v (omega arith); none = λ v h. g.no_reason v (omega arith) });
        trail_unused = (unused_right t.trail t.len).1 (λ i u h. g.trail_unused i u (omega arith));
        opened_unused = (unused_right t.opened t.level).1 (λ k u h. g.opened_unused k u (omega arith));
        places = (places_right t.values t.trail t.len).1 (record { codes_in = λ i h. omega (arith, g.codes_in i h); agrees = g.agrees; once = g.once });
        held = (held_right t.values t.trail t.len values).1 (λ v h. g.held v (omega arith));
        opened = (opened_right t.opened t.level t.len).1 (record { rising = g.rising; below = g.below });
        levels = (levels_right t.levels t.trail t.opened t.level t.len).1 g.levels_good;
      }),
)
