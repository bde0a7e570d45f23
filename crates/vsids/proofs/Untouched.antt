-- A heap with its members in the order of their numbers and no activity above 0, as creation leaves it: it passes the check. Assumes nothing.
use Rattle.std.specs.Prelude.{◌≡◌, refl, true, false, List, ℕ, ◌≤◌, ◌<◌, T, eqb, Float, length, get_or}
use Rattle.std.proofs.Common.{◌∙◌, arith}
use Rattle.std.proofs.Math.Decide.{ℕ_discrete}
use Rattle.std.specs.Float.{nan}
use Rattle.std.specs.Float.Ieee.{le, of_bits}
use borrow.Author.Tests.{eqb-true, lt-ltb, eq-eqb, ne_eqb}
use Rattle.laws.specs.Tests.{and_left, and_right}
use Rattle.laws.specs.Every.{every, every_at, every_all}
use Rattle.lit.specs.Numbers.{NONE, max_vars}
use Rattle.activity.specs.Doubles.{zero_activity, max_activity}
use Rattle.activity.specs.Step.{within, upright}
use Rattle.activity.specs.Upright.{Upright, finite, infinite, number, le_inf, le_trans, lt_of_le, cross→le}
use Rattle.activity.specs.Bounds.{Within, within_true, true_within, zero_within}
use Rattle.heap.specs.Heap.{comes_first, parent, rises}
use Rattle.heap.specs.Walks.{rises_by, top_stays}
use Rattle.vsids.specs.Vsids.{Vsids, places, before}
use Rattle.vsids.specs.Check.{member_ok, place_ok, activity_ok, position_ok}
use Rattle.vsids.specs.Untouched.{activity_within, own_place, untouched}

-- 0 is the least, so no activity of an untouched heap comes before another
zero_least : {x : Float} → Upright x → T (le zero_activity x)
unfolding of_bits
zero_least {x} (finite p) = cross→le (number _ _) p (omega arith)
zero_least infinite = le_inf (finite (number _ _))

max_sound : Within max_activity max_activity
unfolding of_bits within le upright
max_sound = within_true refl

zero_activity_lem : {x : Float} → Within zero_activity x → Within max_activity x
zero_activity_lem w = record { sound = w.sound; small = le_trans w.sound zero_within.sound max_sound.sound w.small zero_within.small }

module _ (activity : List Float) where
  none_first : (x y : ℕ) → Within zero_activity (get_or activity x nan) → Within zero_activity (get_or activity y nan) → comes_first activity x y ≡ false
  unfolding comes_first
  none_first x y v w = lt_of_le w.sound v.sound (le_trans v.sound zero_within.sound w.sound v.small (zero_least w.sound))

-- what the test says of a heap whose slices have one length
module _ (h : Vsids) (heap_long : length h.heap ≡ length h.activity) (indices_long : length h.indices ≡ length h.activity) (e : untouched h.len h.activity h.heap h.indices ≡ true) where
  untouched_full : h.len ≡ length h.activity
  unfolding untouched
  untouched_full = eqb-true h.len _ (and_left (eqb h.len (length h.activity)) _ e)

  zero : (v : ℕ) → v < length h.activity → Within zero_activity (get_or h.activity v nan)
  unfolding untouched
  zero v b = within_true (every_at (activity_within zero_activity h.activity) _ v (and_left (every (activity_within zero_activity h.activity) (length h.activity)) _ (and_right (eqb h.len (length h.activity)) _ e)) b)

  own : (i : ℕ) → i < length h.activity → (get_or h.heap i 0 ≡ i) × (get_or h.indices i 0 ≡ i)
  unfolding untouched
  own i b =
      let r = and_right (every (activity_within zero_activity h.activity) (length h.activity)) _ (and_right (eqb h.len (length h.activity)) _ e) in (
        eqb-true _ i (every_at (own_place h.heap) _ i (and_left (every (own_place h.heap) (length h.heap)) _ r) (omega (arith, heap_long))),
        eqb-true _ i (every_at (own_place h.indices) _ i (and_right (every (own_place h.heap) (length h.heap)) _ r) (omega (arith, indices_long))),
      )

  stays : (i : ℕ) → i < length h.activity → Dec (i ≡ 0) → rises (before h) i i h.heap ≡ false
  stays i b (yes z) = top_stays (before h) i i h.heap (omega arith)
  stays i b (no f) =
      let b' : parent i < length h.activity = omega arith in
      rises_by (before h) i i h.heap (omega arith) ∙ rw (own (parent i) b').0 (none_first h.activity i (parent i) (zero i b) (zero (parent i) b'))

  place : (i : ℕ) → i < length h.activity → place_ok (length h.activity) h.len (before h) (places h) i ≡ true
  unfolding place_ok member_ok
  place i b = rw (lt-ltb i h.len (omega (arith, untouched_full)), (own i b).0, lt-ltb i (length h.activity) b, eq-eqb (get_or h.indices i 0) i (own i b).1, stays i b (ℕ_discrete i 0))

  pub untouched_places : every (place_ok (length h.activity) h.len (before h) (places h)) (length h.activity) ≡ true
  untouched_places = every_all _ _ place

  pub untouched_activities : every (activity_ok h.activity) (length h.activity) ≡ true
  untouched_activities = every_all _ _ (λ v b. true_within (zero_activity_lem (zero v b)))

  pub untouched_positions : (values : List ℕ) → length h.activity ≤ max_vars → every (position_ok values h) (length h.activity) ≡ true
  unfolding position_ok
  untouched_positions values small = every_all _ _ (λ v b.
      rw ((own v b).1, ne_eqb v NONE (omega arith), lt-ltb v h.len (omega (arith, untouched_full)), eq-eqb (get_or h.heap v 0) v (own v b).0))
