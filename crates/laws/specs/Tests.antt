-- Tests: what a conjunction, a negation and a choice say. Assumes nothing.
use Rattle.std.specs.Prelude.{◌≡◌, refl, Bool, true, false, ◌&&◌, cond}
use Rattle.std.proofs.Common.{sym}

pub and_left : (a b : Bool) → a && b ≡ true → a ≡ true
and_left true b e = refl
and_left false b e = e

pub and_right : (a b : Bool) → a && b ≡ true → b ≡ true
and_right true b e = e
and_right false true e = refl
and_right false false e = e

pub and_both : {a b : Bool} → a ≡ true → b ≡ true → a && b ≡ true
and_both p q = rw (p, q)

pub and_true : (a : Bool) → a && true ≡ a
and_true true = refl
and_true false = refl

pub and_false : (a : Bool) → a && false ≡ false
and_false true = refl
and_false false = refl

-- a test that cannot hold is false, and one that cannot fail is true
pub not_true : (t : Bool) → (t ≡ true → ⊥) → t ≡ false
not_true true f = absurd (f refl)
not_true false f = refl

pub not_false : (t : Bool) → (t ≡ false → ⊥) → t ≡ true
not_false true f = refl
not_false false f = absurd (f refl)

pub true_or_false : {C : Type 0} (t : Bool) → (t ≡ true → C) → (t ≡ false → C) → C
true_or_false true f g = f refl
true_or_false false f g = g refl

module _ {A : Type 0} where
  pub cond_elim : (P : A → Type 0) (t : Bool) {a b : A} → (t ≡ true → P a) → (t ≡ false → P b) → P (cond t a b)
  cond_elim P true f g = f refl
  cond_elim P false f g = g refl

  -- where the test holds, another choice may stand for the first
  pub cond_then : (t : Bool) {a b : A} (c : A) → (t ≡ true → a ≡ b) → cond t a c ≡ cond t b c
  cond_then true c f = f refl
  cond_then false c f = refl

-- two tests that hold together are one
pub same_test : (a b : Bool) → (a ≡ true → b ≡ true) → (b ≡ true → a ≡ true) → a ≡ b
same_test true b f g = sym (f refl)
same_test false true f g = g refl
same_test false false f g = refl
