-- Activities at most 1e101 and a step at most 1e200 stay so: through a bump with its scaling, and through a decay that is not refused.
-- Each bound is one computed fact on the constants, carried by monotone rounding. Assumes nothing.
use Rattle.std.specs.Prelude.{◌≡◌, refl, Bool, true, false, not, ◌&&◌, ◌||◌, ◌+◌, ◌*◌, ◌<◌, T, Float}
use Rattle.std.proofs.Common.{sym, subst, arith, lt-ltb, ne_eqb}
use Rattle.std.proofs.lemmas.Bool.{false≢true, not-false}
use Rattle.std.proofs.Math.Bool.{and-false}
use Rattle.std.specs.Float.{nan, inf, fin, binary64}
use Rattle.std.specs.Float.Ieee.{of_bits, add, mul, div, le, lt, up, down, is_nan, fits}
use Rattle.std.specs.Float.Ieee.Bits.{is_true}
use Rattle.std.specs.Float.Ieee.Fits.{down_pos}
use Rattle.laws.specs.Tests.{and_left, and_right}
use Rattle.activity.specs.Doubles.{zero_activity, one, limit, shrink, max_activity, max_inc, min_decay, max_decay}
use Rattle.activity.specs.declared.Step.{Step}
use Rattle.activity.specs.Step.{fresh_step, decayed, decayed_inc, with_decay, scale, scaled, good_decay, bad_decay, large_step, upright, within, good_step}
use Rattle.activity.specs.Upright.{Finite, number, Upright, finite, infinite, Positive, finite_of, upright_of, positive_of, upright_of_le, positive_of_le, under, le_refl, le_trans, lt_is, lt_false}
use Rattle.activity.specs.Rounding.{add_upright, add_mono, mul_upright, mul_mono, div_upright, div_anti}

-- a test that holds
holds : (t : Bool) → t ≡ true → T t
holds t e = subst T (sym e) tt

-- ---- the constants, computed
shrink_positive : Positive shrink
unfolding of_bits
shrink_positive = positive_of shrink tt

one_positive : Positive one
unfolding of_bits
one_positive = positive_of one tt

min_decay_positive : Positive min_decay
unfolding of_bits
min_decay_positive = positive_of min_decay tt

max_decay_positive : Positive max_decay
unfolding of_bits
max_decay_positive = positive_of max_decay tt

limit_positive : Positive limit
unfolding of_bits
limit_positive = positive_of limit tt

max_activity_positive : Positive max_activity
unfolding of_bits
max_activity_positive = positive_of max_activity tt

max_inc_positive : Positive max_inc
unfolding of_bits
max_inc_positive = positive_of max_inc tt

sum_top : add binary64 max_activity max_inc ≡ max_inc
unfolding of_bits add
sum_top = refl

scaled_top : T (le (mul binary64 max_inc shrink) max_activity)
unfolding of_bits mul le
scaled_top = tt

limit_low : T (le limit max_activity)
unfolding of_bits le
limit_low = tt

activity_low : T (le max_activity max_inc)
unfolding of_bits le
activity_low = tt

one_by_one : T (le one (div binary64 one max_decay))
unfolding of_bits div le
one_by_one = tt

two_finite : Finite (div binary64 one min_decay)
unfolding of_bits div
two_finite = finite_of (positive_of (div binary64 one min_decay) tt)

-- ---- without sign bit, no NaN, and at most hi
pub record Within (hi x : Float) : Type 0 where
  pub sound : Upright x
  pub small : T (le x hi)

pub upright_true : (x : Float) → upright x ≡ true → Upright x
unfolding upright
upright_true nan e = absurd (false≢true e)
upright_true (inf true) e = absurd (false≢true e)
upright_true (inf false) e = infinite
upright_true (fin true m e) q = absurd (false≢true q)
upright_true (fin false m e) q = finite (number m e)

pub true_upright : {x : Float} → Upright x → upright x ≡ true
unfolding upright
true_upright (finite (number m e)) = refl
true_upright infinite = refl

pub within_true : {hi x : Float} → within hi x ≡ true → Within hi x
unfolding within
within_true {hi} {x} e = record { sound = upright_true x (and_right (le x hi) (upright x) e); small = holds (le x hi) (and_left (le x hi) (upright x) e) }

pub true_within : {hi x : Float} → Within hi x → within hi x ≡ true
unfolding within
true_within {hi} {x} w = rw (is_true (le x hi) w.small, true_upright w.sound)

wider : {lo hi x : Float} → Positive lo → Positive hi → T (le lo hi) → Within lo x → Within hi x
wider p q h w = record { sound = w.sound; small = le_trans w.sound (upright_of p) (upright_of q) w.small h }

pub zero_within : Within max_activity zero_activity
unfolding of_bits within le upright
zero_within = within_true refl

-- ---- a bump: the sum is at most 1e200; above 1e100 it is scaled, and else it is at most 1e101 as it stands
pub sum_within : {x s : Float} → Within max_activity x → Within max_inc s → Within max_inc (add binary64 x s)
sum_within w v = record {
  sound = add_upright binary64 w.sound v.sound;
  small = rw sum_top at (add_mono binary64 w.sound (upright_of max_activity_positive) v.sound (upright_of max_inc_positive) w.small v.small);
}

pub scale_mono : {x y : Float} → Upright x → Upright y → T (le x y) → T (le (scale x) (scale y))
scale_mono u v h = mul_mono binary64 u v shrink_positive shrink_positive h (le_refl (upright_of shrink_positive))

pub scale_upright : {x : Float} → Upright x → Upright (scale x)
scale_upright u = mul_upright binary64 u shrink_positive

pub scale_within : {x : Float} → Within max_inc x → Within max_activity (scale x)
scale_within w =
    let m = upright_of max_inc_positive in
    record { sound = scale_upright w.sound; small = le_trans (scale_upright w.sound) (scale_upright m) (upright_of max_activity_positive) (scale_mono w.sound m w.small) scaled_top }

pub below_limit : {x : Float} → Within max_inc x → lt limit x ≡ false → Within max_activity x
below_limit w e = record { sound = w.sound; small = le_trans w.sound (upright_of limit_positive) (upright_of max_activity_positive) (lt_false (upright_of limit_positive) w.sound e) limit_low }

pub activity_inc : {x : Float} → Within max_activity x → Within max_inc x
activity_inc w = wider max_activity_positive max_inc_positive activity_low w

-- ---- the step
pub record Decay (d : Float) : Type 0 where
  pub low : T (le min_decay d)
  pub high : T (le d max_decay)

pub record GoodStep (s : Step) : Type 0 where
  pub inc : Within max_inc s.inc
  pub decay : Decay s.decay

pub decay_true : {d : Float} → good_decay d ≡ true → Decay d
decay_true {d} e =
    let l = le min_decay d in
    let h = le d max_decay in record { low = holds l (and_left l h e); high = holds h (and_right l h e) }

pub true_decay : {d : Float} → Decay d → good_decay d ≡ true
true_decay {d} g = rw (is_true (le min_decay d) g.low, is_true (le d max_decay) g.high)

pub step_true : (s : Step) → good_step s ≡ true → GoodStep s
step_true s e =
    let i = within max_inc s.inc in
    let d = good_decay s.decay in record { inc = within_true (and_left i d e); decay = decay_true (and_right i d e) }

pub true_step : (s : Step) → GoodStep s → good_step s ≡ true
true_step s g = rw (true_within g.inc) (true_decay g.decay)

pub fresh_good : GoodStep fresh_step
unfolding of_bits within le upright
fresh_good = step_true fresh_step refl

pub scaled_good : (s : Step) → GoodStep s → GoodStep (scaled s)
scaled_good s g = record { inc = activity_inc (scale_within g.inc); decay = g.decay }

pub with_good : (s : Step) (d : Float) → GoodStep s → bad_decay d ≡ false → GoodStep (with_decay s d)
with_good s d g e = record { inc = g.inc; decay = decay_true (not-false (good_decay d) e) }

-- 1 / decay is positive, so the decayed step is upright, and at most 1e200 where it is not refused
decay_positive : {d : Float} → Decay d → Positive d
decay_positive {d} g = positive_of_le min_decay_positive (under (upright_of_le min_decay_positive d g.low) (finite_of max_decay_positive) g.high) g.low

quotient_positive : {d : Float} → Decay d → Positive (div binary64 one d)
quotient_positive {d} g =
    let p = decay_positive g in
    let f = finite_of one_positive in
    let u = div_upright binary64 f p in
    let low : T (le one (div binary64 one d)) = le_trans (upright_of one_positive) (div_upright binary64 f max_decay_positive) u one_by_one (div_anti binary64 f max_decay_positive p g.high) in
    positive_of_le one_positive (under u two_finite (div_anti binary64 f p min_decay_positive g.low)) low

pub decayed_upright : (s : Step) → GoodStep s → Upright (decayed_inc s)
decayed_upright s g = mul_upright binary64 g.inc.sound (quotient_positive g.decay)

pub decayed_good : (s : Step) → GoodStep s → large_step s ≡ false → GoodStep (decayed s)
decayed_good s g e = let u = decayed_upright s g in record { inc = record { sound = u; small = lt_false (upright_of max_inc_positive) u e }; decay = g.decay }

-- ---- refusal 12 in the words of document 01
or_not : (a b : Bool) → not (a && b) ≡ not a || not b
or_not true b = refl
or_not false b = refl

bad_upright : {d : Float} → Upright d → is_nan d ≡ false → bad_decay d ≡ is_nan d || (lt d min_decay || lt max_decay d)
bad_upright {d} u e = rw (e, lt_is u (upright_of min_decay_positive), lt_is (upright_of max_decay_positive) u) (or_not (le min_decay d) (le d max_decay))

pub bad_decay_is : (d : Float) → bad_decay d ≡ is_nan d || (lt d min_decay || lt max_decay d)
unfolding of_bits le lt is_nan
bad_decay_is nan = refl
bad_decay_is (inf true) = refl
bad_decay_is (inf false) = bad_upright infinite refl
bad_decay_is (fin true m e) =
    let z : 0 < 1 * down e = omega (arith, down_pos e) in
    rw (lt-ltb 0 (m * up e * 2 + 1 * down e) (omega arith), ne_eqb (1 * down e) 0 (omega arith), and-false)
bad_decay_is (fin false m e) = bad_upright (finite (number m e)) refl

pub zero_fits : T (fits binary64 zero_activity)
unfolding of_bits fits
zero_fits = tt
