-- What the checks of an entry point come to: the first refusal that fits is the answer, and without one the answer is what comes behind.
use Rattle.std.specs.Prelude.{ℕ, ◌≤◌, ◌≡◌, Bool, cond}
use Rattle.std.proofs.Math.Bool.{true}
use Rattle.std.proofs.Math.Option.{none}
use Rattle.std.proofs.Math.Dec.{eqb}
use Rattle.lit.specs.Numbers.{max_vars}
use Rattle.book.specs.Session.{Result, done, refuse, status}
use Rattle.session.specs.Entry.{sizes_checked, checked}

-- the first of refusals 4, 5 and 6 that fits, or 0; and with 7
abbrev pub size_refusal : ℕ → Bool → Bool → ℕ
size_refusal n lengths clauses = status (sizes_checked {S = Unit {0}} n lengths clauses (done none tt))

abbrev pub state_refusal : ℕ → Bool → Bool → Bool → ℕ
state_refusal n lengths clauses state = status (checked {S = Unit {0}} n lengths clauses state (done none tt))

-- refusal k, unless k is 0
module _ {S : Type 0} where
  unfoldable pub unless : ℕ → Result S → Result S
  unless k x = cond (eqb k 0) x (refuse k)

-- the tests that passed where there is no refusal
pub record Passed (n : ℕ) (lengths clauses : Bool) : Type 0 where
  pub small : n ≤ max_vars
  pub lengths_ok_lem : lengths ≡ true
  pub clauses_ok_lem : clauses ≡ true
