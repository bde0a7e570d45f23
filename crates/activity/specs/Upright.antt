-- Doubles without sign bit that are no NaN: on them `le` is a total preorder, and `lt` denies its converse.
-- A finite one is the fraction num / den, and its order is that of fractions; the infinity is above all. Assumes nothing.
use Rattle.std.specs.Prelude.{◌≡◌, refl, ◌⊎◌, Bool, true, false, not, ◌&&◌, ◌||◌, ℕ, zero, suc, ◌*◌, ◌≤◌, ◌<◌, ℤ, T, ltb, eqb, Float}
use Rattle.std.proofs.Common.{sym, ◌∙◌, inl, inr, true≢false, arith, ltb→lt, lt→ltb, eqb→eq, lt-ltb, le-ltb, eq-eqb, ne_eqb}
use Rattle.std.proofs.Math.Nat as N
use Rattle.std.proofs.Math.Decide.{dec_le, ℕ_discrete}
use Rattle.std.specs.Float.{nan, inf, fin}
use Rattle.std.specs.Float.Ieee.{up, down, le, lt}
use Rattle.std.specs.Float.Ieee.Bits.{is_true}
use Rattle.std.specs.Float.Ieee.Exact.{HasValue}
use Rattle.std.specs.Float.Ieee.Order.{le_of_values}
use Rattle.std.specs.Float.Ieee.Positive.{num, den, den_pos, through, positive, above as Ieee·above, above_of_le}

pub data Finite : Float → Type 0 where
  number : (m : ℕ) (e : ℤ) → Finite (fin false m e)

pub data Positive : Float → Type 0 where
  above : (m : ℕ) (e : ℤ) → Positive (fin false (suc m) e)

pub data Upright : Float → Type 0 where
  finite : {x : Float} → Finite x → Upright x
  infinite : Upright (inf false)

pub own_value : {x : Float} → Finite x → HasValue x false (num x) (den x)
own_value (number m e) = (refl, refl)

-- the order of fractions
le_or : (a b : ℕ) → T (ltb a b || (eqb a b && true)) → a ≤ b
le_or a b t = go (ltb a b) (eqb a b) (ltb→lt a b) (eqb→eq a b) t
  where
    go : (s r : Bool) → (T s → a < b) → (T r → a ≡ b) → T (s || (r && true)) → a ≤ b
    go true r f g t = N.le_of_lt (f tt)
    go false true f g t = N.le_of_eq (g tt)
    go false false f g t = absurd t

pub le→cross : {x y : Float} → Finite x → Finite y → T (le x y) → num x * den y ≤ num y * den x
unfolding le
le→cross (number m e) (number n d) h = le_or (m * up e * down d) (n * up d * down e) h

pub cross→le : {x y : Float} → Finite x → Finite y → num x * den y ≤ num y * den x → T (le x y)
cross→le {x} {y} p q h = le_of_values x y (num x) (den x) (num y) (den y) (den_pos x) (den_pos y) (own_value p) (own_value q) h

-- the infinity is the largest, and what is no larger than a finite value is finite
pub le_inf : {x : Float} → Upright x → T (le x (inf false))
unfolding le
le_inf (finite (number m e)) = tt
le_inf infinite = tt

pub under : {x hi : Float} → Upright x → Finite hi → T (le x hi) → Finite x
unfolding le
under (finite p) q h = p
under infinite (number n d) h = absurd h

-- `le` is reflexive, transitive and total
pub le_refl : {x : Float} → Upright x → T (le x x)
le_refl {x} (finite p) = cross→le p p (N.le_refl (num x * den x))
le_refl infinite = le_inf infinite

pub le_trans : {x y z : Float} → Upright x → Upright y → Upright z → T (le x y) → T (le y z) → T (le x z)
le_trans u v infinite h k = le_inf u
le_trans {x} {y} {z} u v (finite r) h k =
    let q : Finite y = under v r k in
    let p : Finite x = under u q h in
    cross→le p r (through (num x) (num y) (num z) (den x) (den y) (den z) (den_pos y) (le→cross p q h) (le→cross q r k))

pub le_total : {x y : Float} → Upright x → Upright y → T (le x y) ⊎ T (le y x)
le_total u infinite = inl (le_inf u)
le_total infinite (finite q) = inr (le_inf (finite q))
le_total {x} {y} (finite p) (finite q) = go (dec_le (num x * den y) (num y * den x))
  where
    go : Dec (num x * den y ≤ num y * den x) → T (le x y) ⊎ T (le y x)
    go (yes h) = inl (cross→le p q h)
    go (no f) = inr (cross→le q p (omega arith))

-- `lt` is the denial of the converse
denied : (a b : ℕ) → ltb a b ≡ not (ltb b a || (eqb b a && true))
denied a b = go (dec_le b a) (ℕ_discrete b a)
  where
    go : Dec (b ≤ a) → Dec (b ≡ a) → ltb a b ≡ not (ltb b a || (eqb b a && true))
    go (yes h) (yes e) = rw (le-ltb a b h, le-ltb b a (omega arith), eq-eqb b a e)
    go (yes h) (no f) = rw (le-ltb a b h, lt-ltb b a (omega arith))
    go (no f) d = rw (lt-ltb a b (omega arith), le-ltb b a (omega arith), ne_eqb b a (omega arith))

pub lt_is : {x y : Float} → Upright x → Upright y → lt x y ≡ not (le y x)
unfolding lt le
lt_is (finite (number m e)) (finite (number n d)) = denied (m * up e * down d) (n * up d * down e)
lt_is (finite (number m e)) infinite = refl
lt_is infinite (finite (number n d)) = refl
lt_is infinite infinite = refl

pub lt_false : {x y : Float} → Upright x → Upright y → lt x y ≡ false → T (le y x)
lt_false {x} {y} u v e = go (le y x) (sym (lt_is u v) ∙ e)
  where
    go : (b : Bool) → not b ≡ false → T b
    go true h = tt
    go false h = absurd (true≢false h)

pub lt_of_le : {x y : Float} → Upright x → Upright y → T (le y x) → lt x y ≡ false
lt_of_le {x} {y} u v h = rw (lt_is u v, is_true (le y x) h)

-- what the heap's moves ask of a comparison: it is asymmetric, and its denial can be passed on
pub lt_asym : {x y : Float} → Upright x → Upright y → lt x y ≡ true → lt y x ≡ false
lt_asym {x} {y} u v e = elim (le_total u v) [
  | inl h ↦ lt_of_le v u h
  | inr h ↦ absurd (true≢false (sym e ∙ lt_of_le u v h))
]

pub lt_pass : {x y z : Float} → Upright x → Upright y → Upright z → lt x y ≡ false → lt y z ≡ false → lt x z ≡ false
lt_pass u v w h k = lt_of_le u w (le_trans w v u (lt_false v w k) (lt_false u v h))

-- ---- positive numbers
pub finite_of : {x : Float} → Positive x → Finite x
finite_of (above m e) = number (suc m) e

pub upright_of : {x : Float} → Positive x → Upright x
upright_of p = finite (finite_of p)

pub positive_test : {x : Float} → Positive x → T (positive x)
positive_test (above m e) = lt→ltb 0 (suc m) (omega arith)

pub positive_of : (x : Float) → T (positive x) → Positive x
positive_of nan p = absurd p
positive_of (inf s) p = absurd p
positive_of (fin true m e) p = absurd p
positive_of (fin false zero e) p = absurd p
positive_of (fin false (suc m) e) p = above m e

-- what is at or above a positive number is without sign, and where finite it is positive
pub upright_of_le : {lo : Float} → Positive lo → (x : Float) → T (le lo x) → Upright x
upright_of_le {lo} p x h = go x (above_of_le lo x (positive_test p) h)
  where
    go : (z : Float) → T (Ieee·above z) → Upright z
    go nan a = absurd a
    go (inf true) a = absurd a
    go (inf false) a = infinite
    go (fin true m e) a = absurd a
    go (fin false m e) a = finite (number m e)

pub positive_of_le : {lo x : Float} → Positive lo → Finite x → T (le lo x) → Positive x
positive_of_le {lo} p (number m e) h = positive_of (fin false m e) (above_of_le lo (fin false m e) (positive_test p) h)
