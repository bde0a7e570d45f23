-- `words::words_fit` meets its contract: twice the calls are three times the answers exactly where both have as many thirds and halves.
use Prim.Native.Nat.{ℕ, ◌*◌, ◌/◌}
use mathlib.Core.Path.{◌≡◌, sym, ◌∙◌}
use native.Mathlib.Omega.{arith}
use lib.Dec.{eqb}
use borrow.Author.Tests.{eqb-true, eq-eqb, ne_eqb}
use Rattle.laws.specs.Tests.{same_test}
use Rattle.words.specs.Words.{words_fit}
use Rattle.words.proofs.Entered.{thirds}
use Rattle.words.proofs.words_fit.Goals as goal

in-thirds : (a b : ℕ) → a ≡ a / 3 * 3 → eqb b (a / 3 * 2) ≡ words_fit a b
in-thirds a b e = same_test (eqb b (a / 3 * 2)) (eqb (a * 2) (b * 3))
    (λ q. let z = eqb-true b (a / 3 * 2) q in eq-eqb (a * 2) (b * 3) (omega (arith, e, z)))
    (λ q. let z = eqb-true (a * 2) (b * 3) q in eq-eqb b (a / 3 * 2) (omega (arith, e, z)))

no-thirds : (a b : ℕ) → (a ≡ a / 3 * 3 → ⊥) → eqb a (a / 3 * 3) ≡ words_fit a b
no-thirds a b n = ne_eqb a (a / 3 * 3) n ∙ sym (ne_eqb (a * 2) (b * 3) (λ e. n (thirds a b e).0))

pub returns-then-calls-k : goal.returns-then-calls-k
returns-then-calls-k c = in-thirds c.args.calls c.args.answers c.if-calls-k.true

pub returns-else-calls-k : goal.returns-else-calls-k
returns-else-calls-k c = no-thirds c.args.calls c.args.answers c.if-calls-k.false
