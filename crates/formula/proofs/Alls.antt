-- A test that every place below a bound passes, from its two answers. Assumes nothing.
use Rattle.std.specs.Prelude.{ℕ, ◌≡◌, ◌<◌, ◌↔◌, Bool, true, IsTrue}
use Rattle.laws.specs.Tests.{same_test}
use Rattle.laws.specs.Every.{every, every_at, every_all}

pub every_is : (p : ℕ → Bool) (n : ℕ) {b : Bool} → (IsTrue b ↔ ((i : ℕ) → i < n → p i ≡ true)) → b ≡ every p n
every_is p n {b} f = same_test b (every p n) (λ e. every_all p n (f.0 e)) (λ e. f.1 (λ i h. every_at p n i e h))
