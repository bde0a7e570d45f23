-- `session::vars_below` meets its contract: `below` is a test of each variable.
use Rattle.std.proofs.Common.{◌≡◌, ℕ, List, [], ◌∷◌, refl, ap, rules, tests, ltb}
use Rattle.std.proofs.Math.Bool.{Bool, ◌&&◌}
use Rattle.std.proofs.lemmas.Iterator.{YieldsList-from_slice}
use Rattle.std.proofs.lemmas.Iterator.Search.{all_from_yields_List}
use Rattle.std.specs.List.{list_all}
use Rattle.book.specs.Chooser.{below}
use Rattle.session.proofs.vars_below.Goals as goal

below_each : (n : ℕ) (vs : List ℕ) → below n vs ≡ list_all (λ v. ltb v n) vs
unfolding below
below_each n [] = refl
below_each n (v ∷ vs) = ap (λ (b : Bool). ltb v n && b) (below_each n vs)

pub returns : goal.returns
returns c = rw below_each (all_from_yields_List (λ v. ltb v c.args.n) _ _ _ c.all.ensures.ran (YieldsList-from_slice c.args.vars.now cc) (λ x b q k. search (rules, tests)))
