-- A value that may be missing: definitions have it as `none` or `some`, code as `None` or `Some`. Assumes nothing.
use Rattle.std.specs.Prelude.{◌≡◌, ℕ, Some, None}
use Rattle.std.specs.Prelude as code
use Rattle.std.proofs.Math.Path.{refl}
use Rattle.std.proofs.Math.Option.{Option, none, some}
use native.Mathlib.Omega.{arith}

abbrev pub as_code : {A : Type 0} → Option A → code.Option A
as_code none = None
as_code (some x) = Some x

module _ {A : Type 0} where
  pub code_none : (o : Option A) → as_code o ≡ None → o ≡ none
  code_none none e = refl
  code_none (some x) e = let z : ◌≡◌ {A = ℕ} 0 1 = cc in absurd (omega arith)

  pub code_some : (o : Option A) {x : A} → as_code o ≡ Some x → o ≡ some x
  code_some none e = let z : ◌≡◌ {A = ℕ} 0 1 = cc in absurd (omega arith)
  code_some (some y) e = cc
