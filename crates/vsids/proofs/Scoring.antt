-- Activities and the comparison by them: it has the laws of `Order`, a bump keeps the bounds, and only the bumped variable can come further ahead.
-- Assumes nothing.
use Rattle.std.specs.Prelude.{◌≡◌, refl, false, List, ℕ, ◌<◌, Float, length, get_or, replicate}
use Rattle.std.proofs.Common.{◌∙◌, subst, arith, get_or-set_other}
use Rattle.std.proofs.Math.Dec.{T}
use Rattle.std.specs.Float.Ieee.{nan, binary64, fits, add, mul, lt, le}
use Rattle.std.specs.Float.Ieee.Fits.{add-fits, mul-fits}
use Rattle.std.proofs.Math.ListN.{length-set, length-map, get_or-map}
use Rattle.std.proofs.lemmas.List.{length-replicate, get_or-replicate}
use Rattle.std.proofs.Math.Seq.{get_or-set_same}
use Rattle.laws.specs.Tests.{cond_elim}
use Rattle.laws.specs.Lists.{set_cases}
use Rattle.activity.specs.declared.Step.{Step}
use Rattle.activity.specs.Doubles.{zero_activity, limit, max_activity, max_inc}
use Rattle.activity.specs.Step.{fresh_step, scale, scale_all}
use Rattle.activity.specs.Upright.{Upright, lt_asym, lt_pass, lt_false, lt_of_le}
use Rattle.activity.specs.Rounding.{add_grows}
use Rattle.activity.specs.Bounds.{Within, zero_within, zero_fits, fresh_good, sum_within, scale_mono, scale_upright, scale_within, below_limit, activity_inc, scaled_good}
use Rattle.heap.specs.Heap.{comes_first}
use Rattle.heap.specs.Members.{Raises}
use Rattle.vsids.specs.Vsids.{Vsids, add_step, scaled_all, rescale}
use Rattle.heap.specs.Order.{Order}
use Rattle.vsids.specs.Good.{Scores}
use Rattle.vsids.specs.Scoring.{Bumped}

module _ {n : ℕ} {a : List Float} {s : Step} (c : Scores n a s) where
  sound : (v : ℕ) → v < n → Upright (get_or a v nan)
  sound v l = (c.bounded v l).sound

  pub comes_order : Order (comes_first a) n
  unfolding comes_first
  comes_order = record {
    asym = λ x y l m e. lt_asym (sound y m) (sound x l) e;
    pass = λ x y z l m k e f. lt_pass (sound z k) (sound y m) (sound x l) f e;
  }

  -- what does not come before another has no higher activity
  pub no_higher : (x y : ℕ) → x < n → y < n → comes_first a x y ≡ false → T (le (get_or a x nan) (get_or a y nan))
  unfolding comes_first
  no_higher x y l m e = lt_false (sound y m) (sound x l) e

nan_scaled : scale nan ≡ nan
unfolding mul
nan_scaled = refl

at_scaled : (a : List Float) (v : ℕ) → get_or (scale_all a) v nan ≡ scale (get_or a v nan)
at_scaled a v = subst (λ (d : Float). get_or (scale_all a) v d ≡ scale (get_or a v nan)) nan_scaled (get_or-map scale a v nan)

-- scaling keeps the order: no variable comes before another that it did not come before
scaled_keeps : (a : List Float) (x y : ℕ) → Upright (get_or a x nan) → Upright (get_or a y nan) → comes_first a x y ≡ false → comes_first (scale_all a) x y ≡ false
unfolding comes_first
scaled_keeps a x y u w e =
    rw (at_scaled a x, at_scaled a y) (lt_of_le (scale_upright w) (scale_upright u) (scale_mono u w (lt_false w u e)))

-- fresh activities and the fresh step
pub fresh_scores : (n : ℕ) → Scores n (replicate n zero_activity) fresh_step
fresh_scores n = record {
  long = length-replicate n zero_activity;
  doubles = λ v l. rw (get_or-replicate n v zero_activity nan l) zero_fits;
  bounded = λ v l. rw (get_or-replicate n v zero_activity nan l) zero_within;
  step = fresh_good;
}

module _ {n : ℕ} (h : Vsids) (c : Scores n h.activity h.step) (v : ℕ) (vn : v < n) where
  sum : Float
  sum = add binary64 (get_or h.activity v nan) h.step.inc

  v_in : v < length h.activity
  v_in = omega (arith, c.long)

  sum_good : Within max_inc sum
  unfolding sum
  sum_good = sum_within (c.bounded v vn) c.step.inc

  -- what holds of the sum and of every activity holds after it is stored
  each : (P : Float → Type 0) → P sum → ((u : ℕ) → u < n → P (get_or h.activity u nan)) → (u : ℕ) → u < n → P (get_or (add_step v h).activity u nan)
  unfolding add_step sum
  each P p q u l = set_cases P h.activity v u sum nan v_in (λ e. p) (λ f. q u l)

  -- the sum is no lower, so only v may come further ahead
  added_raises : Raises (comes_first h.activity) (comes_first (add_step v h).activity) n v
  unfolding comes_first add_step sum
  added_raises x y l m f e =
      let grown = add_grows binary64 (c.doubles v vn) (sound c v vn) c.step.inc.sound in
      rw (get_or-set_other h.activity v x sum nan f) (set_cases (λ w. lt w (get_or h.activity x nan) ≡ false) h.activity v y sum nan v_in
      (λ q. lt_pass sum_good.sound (sound c v vn) (sound c x l) (lt_of_le sum_good.sound (sound c v vn) grown) (rw q at e))
      (λ q. e))

  added_long : length (add_step v h).activity ≡ n
  unfolding add_step
  added_long = length-set h.activity v _ ∙ c.long

  added_top : (u : ℕ) → u < n → Within max_inc (get_or (add_step v h).activity u nan)
  added_top = each (Within max_inc) sum_good (λ u l. activity_inc (c.bounded u l))

  at_v : get_or (add_step v h).activity v nan ≡ sum
  unfolding add_step sum
  at_v = get_or-set_same h.activity v sum nan v_in

  pub bumped : Bumped n v h (rescale v (add_step v h))
  unfolding rescale scaled_all add_step sum
  bumped =
      let a = (add_step v h).activity in
      cond_elim (Bumped n v h) (lt limit (get_or a v nan))
      (λ e. record {
        scores = record {
          long = length-map a scale ∙ added_long;
          doubles = λ u l. rw (at_scaled a u) (mul-fits binary64 _ _);
          bounded = λ u l. rw (at_scaled a u) (scale_within (added_top u l));
          step = scaled_good h.step c.step;
        };
        raises = λ x y l m f q. scaled_keeps a x y (added_top x l).sound (added_top y m).sound (added_raises x y l m f q);
        same = refl;
      })
      (λ e. record {
        scores = record {
          long = added_long;
          doubles = each (λ x. T (fits binary64 x)) (add-fits binary64 _ _) c.doubles;
          bounded = each (Within max_activity) (below_limit sum_good (rw at_v at e)) c.bounded;
          step = c.step;
        };
        raises = added_raises;
        same = refl;
      })
