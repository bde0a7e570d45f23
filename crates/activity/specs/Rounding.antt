-- Sum, product and quotient of doubles without sign: each is upright and grows with what is added, multiplied or divided. Assumes nothing.
use Rattle.std.specs.Prelude.{◌≡◌, refl, Bool, true, false, ◌&&◌, cond, ℕ, zero, suc, ◌+◌, ◌-◌, ◌*◌, ◌%◌, ◌^◌, ◌≤◌, ◌<◌, ℤ, pos, negsuc, T, ltb, eqb, leb, Float}
use Rattle.std.proofs.Common.{sym, ap, ◌∙◌, mul_comm, mul_assoc, mul_left_comm, mul-le-mul_right, mul-le-mul, mul-lt-mul_of_pos_right, mul-one, mul-pos, add-mul, arith, ltb→lt, leb→le, pow_pos, pow-add, pow_mono, shl_lt}
use Rattle.std.proofs.Math.Nat as N
use Rattle.std.proofs.Math.Nat.{mul-mul-mul_comm}
use Rattle.std.proofs.Math.Dec.{eqb-suc-zero}
use Rattle.std.proofs.Math.Pow.{pow-lt}
use Rattle.std.specs.Float.{inf, fin, Format}
use Rattle.std.specs.Float.Ieee.{prec, emax, low, up, down, odd, units, round, sum, add, mul, div, le, fits}
use Rattle.std.specs.Float.Ieee.Fits.{up_pos, down_pos, and_l, and_r, round_is, reach}
use Rattle.std.specs.Float.Ieee.Exact.{HasValue, round_exact}
use Rattle.std.specs.Float.Ieee.Order.{le_of_values, round_mono}
use Rattle.std.specs.Float.Ieee.Positive.{num, den, den_pos}
use Rattle.activity.specs.Upright.{Finite, number, Upright, finite, infinite, own_value, le→cross, le_inf, under, le_trans, Positive, above, finite_of}

-- ---- `round` of a fraction
cond_upright : (b : Bool) (x y : Float) → Upright x → Upright y → Upright (cond b x y)
cond_upright true x y u v = u
cond_upright false x y u v = v

odd_upright : (d q k l : ℕ) → Upright (odd d false q k l)
unfolding odd
odd_upright d zero k l = finite (number 0 _)
odd_upright d (suc q) k l = finite (number _ _)

units_upright : (f : Format) (q k : ℕ) → Upright (units f false q k)
unfolding units
units_upright f q k = cond_upright (ltb (q * 2 ^ k) (2 ^ (low f + suc (emax f)))) _ _ (odd_upright (suc (prec f)) q k (low f)) infinite

pub round_upright : (f : Format) (a b : ℕ) → Upright (round f false a b)
round_upright f a b = rw round_is (units_upright f _ _)

-- a value of the format is its own rounding
parts : (f : Format) (m : ℕ) (e : ℤ) → T (fits f (fin false (suc m) e)) → (suc m < 2 ^ prec f) × (down e ≤ 2 ^ low f) × (suc m * up e < 2 ^ suc (emax f) * down e)
unfolding fits
parts f m e t =
    let a : Bool = eqb (suc m % 2) 1 in
    let b : Bool = ltb (suc m) (2 ^ prec f) in
    let c : Bool = leb (down e) (2 ^ low f) in
    let d : Bool = ltb (suc m * up e) (2 ^ suc (emax f) * down e) in (
      ltb→lt (suc m) (2 ^ prec f) (and_r a b (and_l (a && b) c (and_l (a && b && c) d t))),
      leb→le (down e) (2 ^ low f) (and_r (a && b) c (and_l (a && b && c) d t)),
      ltb→lt (suc m * up e) (2 ^ suc (emax f) * down e) (and_r (a && b && c) d t),
    )

pow_le_back : (a b : ℕ) → 2 ^ a ≤ 2 ^ b → a ≤ b
pow_le_back a b h = N.le_of_suc-le-suc (N.lt_of_not-le (λ (g : suc b ≤ a). N.not-le_of_lt (pow-lt g) h))

room : (p l x k : ℕ) → p ≤ suc x → p + (l - k) ≤ l + suc x
room p l x k h = omega arith

self_val : (f : Format) (m : ℕ) (e : ℤ) → T (fits f (fin false (suc m) e)) → HasValue (round f false (suc m * up e) (down e)) false (suc m * up e) (down e)
self_val f m (pos k) t =
    let h = parts f m (pos k) t in
    let e : suc m * 2 ^ k * 2 ^ low f ≡ suc m * 2 ^ (k + low f) = rw (mul_assoc, ← pow-add) in
    round_exact f false (suc m * 2 ^ k) 1 (suc m) (k + low f) (N.zero-lt-suc 0) h.0
    (rw (← e, pow-add, mul_comm (2 ^ low f)) (mul-lt-mul_of_pos_right (rw mul-one at h.2) (pow_pos (low f))))
    (e ∙ sym (mul-one (suc m * 2 ^ (k + low f))))
self_val f m (negsuc k) t =
    let h = parts f m (negsuc k) t in
    let l : suc k ≤ low f = pow_le_back (suc k) (low f) h.1 in
    let e : low f ≡ (low f - suc k) + suc k = omega arith in
    round_exact f false (suc m * 1) (2 ^ suc k) (suc m) (low f - suc k) (pow_pos (suc k)) h.0
    (N.lt_of_lt_of_le (shl_lt (prec f) (low f - suc k) h.0) (pow_mono (room (prec f) (low f) (emax f) (suc k) (reach f))))
    (ap (λ (z : ℕ). z * 2 ^ low f) (mul-one (suc m)) ∙ ap (λ (z : ℕ). suc m * z) (ap (λ (z : ℕ). 2 ^ z) e ∙ pow-add 2 (low f - suc k) (suc k)) ∙ sym (mul_assoc (suc m) (2 ^ (low f - suc k)) (2 ^ suc k)))

own_rounding : (f : Format) {x : Float} → Finite x → T (fits f x) → HasValue (round f false (num x) (den x)) false (num x) (den x)
own_rounding f (number zero e) t = round_exact f false (0 * up e) (down e) 0 0 (down_pos e) (pow_pos (prec f)) (pow_pos (low f + suc (emax f))) (simp N.zero-mul)
own_rounding f (number (suc m) e) t = self_val f m e t

dens : (x y : Float) → 0 < den x * den y
dens x y = mul-pos (den_pos x) (den_pos y)

-- ---- the sum
abbrev add_num : Float → Float → ℕ
add_num x y = num x * den y + num y * den x

add_is : (f : Format) {x y : Float} → Finite x → Finite y → add f x y ≡ round f false (add_num x y) (den x * den y)
unfolding add sum
add_is f (number m e) (number n d) = refl

add_inf : (f : Format) {x : Float} → Upright x → add f x (inf false) ≡ inf false
unfolding add
add_inf f (finite (number m e)) = refl
add_inf f infinite = refl

inf_add : (f : Format) {x : Float} → Upright x → add f (inf false) x ≡ inf false
unfolding add
inf_add f (finite (number m e)) = refl
inf_add f infinite = refl

pub add_upright : (f : Format) {x y : Float} → Upright x → Upright y → Upright (add f x y)
add_upright f u infinite = rw (add_inf f u) infinite
add_upright f infinite (finite q) = rw (inf_add f (finite q)) infinite
add_upright f (finite p) (finite q) = rw (add_is f p q) (round_upright f _ _)

sum_mono : (X dx X' dx' Y dy Y' dy' : ℕ) → X * dx' ≤ X' * dx → Y * dy' ≤ Y' * dy → (X * dy + Y * dx) * (dx' * dy') ≤ (X' * dy' + Y' * dx') * (dx * dy)
sum_mono X dx X' dx' Y dy Y' dy' h k =
    let a : X * dy * (dx' * dy') ≤ X' * dy' * (dx * dy) = simp (mul_assoc, mul_comm, mul_left_comm) (simp (mul_assoc, mul_comm) at (mul-le-mul_right (dy * dy') h)) in
    let b : Y * dx * (dx' * dy') ≤ Y' * dx' * (dx * dy) = simp (mul_assoc, mul_comm, mul_left_comm) (simp (mul_assoc, mul_comm, mul_left_comm) at (mul-le-mul_right (dx * dx') k)) in
    rw (add-mul (X * dy), add-mul (X' * dy')) (omega arith)

pub add_mono : (f : Format) {x x' y y' : Float} → Upright x → Upright x' → Upright y → Upright y' → T (le x x') → T (le y y') → T (le (add f x y) (add f x' y'))
add_mono f u u' v infinite h k = rw (add_inf f u') (le_inf (add_upright f u v))
add_mono f u infinite v (finite q') h k = rw (inf_add f (finite q')) (le_inf (add_upright f u v))
add_mono f {x} {x'} {y} {y'} u (finite p') v (finite q') h k =
    let p : Finite x = under u p' h in
    let q : Finite y = under v q' k in
    rw (add_is f p q, add_is f p' q')
    (round_mono f (add_num x y) (den x * den y) (add_num x' y') (den x' * den y') (dens x y) (dens x' y')
    (sum_mono (num x) (den x) (num x') (den x') (num y) (den y) (num y') (den y') (le→cross p p' h) (le→cross q q' k)))

-- adding never lowers, where the first term is a value of the format
first_term : (X dx Y dy : ℕ) → X * (dx * dy) ≤ (X * dy + Y * dx) * dx
first_term X dx Y dy = let a : X * dy * dx ≡ X * (dx * dy) = simp (mul_assoc, mul_comm) in rw add-mul (omega arith)

pub add_grows : (f : Format) {x y : Float} → T (fits f x) → Upright x → Upright y → T (le x (add f x y))
add_grows f t u infinite = rw (add_inf f u) (le_inf u)
add_grows f t infinite (finite q) = rw (inf_add f (finite q)) (le_inf infinite)
add_grows f {x} {y} t (finite p) (finite q) =
    let z = round f false (num x) (den x) in
    let a : T (le x z) = le_of_values x z (num x) (den x) (num x) (den x) (den_pos x) (den_pos x) (own_value p) (own_rounding f p t) (N.le_refl (num x * den x)) in
    let b : T (le z (add f x y)) = rw (add_is f p q) (round_mono f (num x) (den x) (add_num x y) (den x * den y) (den_pos x) (dens x y) (first_term (num x) (den x) (num y) (den y))) in
    le_trans (finite p) (round_upright f (num x) (den x)) (add_upright f (finite p) (finite q)) a b

-- ---- the product with a positive number
mul_is : (f : Format) {x y : Float} → Finite x → Finite y → mul f x y ≡ round f false (num x * num y) (den x * den y)
unfolding mul
mul_is f (number m e) (number n d) = refl

inf_mul : (f : Format) {c : Float} → Positive c → mul f (inf false) c ≡ inf false
unfolding mul
inf_mul f (above m e) = rw (eqb-suc-zero m)

pub mul_upright : (f : Format) {x c : Float} → Upright x → Positive c → Upright (mul f x c)
mul_upright f infinite q = rw (inf_mul f q) infinite
mul_upright f (finite p) q = rw (mul_is f p (finite_of q)) (round_upright f _ _)

pub mul_mono : (f : Format) {x y c d : Float} → Upright x → Upright y → Positive c → Positive d → T (le x y) → T (le c d) → T (le (mul f x c) (mul f y d))
mul_mono f u infinite a b h k = rw (inf_mul f b) (le_inf (mul_upright f u a))
mul_mono f {x} {y} {c} {d} u (finite q) a b h k =
    let p : Finite x = under u q h in
    rw (mul_is f p (finite_of a), mul_is f q (finite_of b))
    (round_mono f (num x * num c) (den x * den c) (num y * num d) (den y * den d) (dens x c) (dens y d)
    (rw (mul-mul-mul_comm (num x), mul-mul-mul_comm (num y)) (mul-le-mul (le→cross p q h) (le→cross (finite_of a) (finite_of b) k))))

-- ---- the quotient by a positive number: it falls as the divisor grows
num_pos : {x : Float} → Positive x → 0 < num x
num_pos (above m e) = mul-pos (N.zero-lt-suc m) (up_pos e)

div_is : (f : Format) {x y : Float} → Finite x → Positive y → div f x y ≡ round f false (num x * den y) (num y * den x)
unfolding div
div_is f (number m e) (above n d) = rw (eqb-suc-zero n)

pub div_upright : (f : Format) {x y : Float} → Finite x → Positive y → Upright (div f x y)
div_upright f p q = rw (div_is f p q) (round_upright f _ _)

pub div_anti : (f : Format) {x y z : Float} → Finite x → Positive y → Positive z → T (le z y) → T (le (div f x y) (div f x z))
div_anti f {x} {y} {z} p q r h =
    rw (div_is f p q, div_is f p r)
    (round_mono f (num x * den y) (num y * den x) (num x * den z) (num z * den x) (mul-pos (num_pos q) (den_pos x)) (mul-pos (num_pos r) (den_pos x))
    (simp (mul_assoc, mul_comm, mul_left_comm) (simp (mul_assoc, mul_comm, mul_left_comm) at (mul-le-mul_right (num x * den x) (le→cross (finite_of r) (finite_of q) h)))))
