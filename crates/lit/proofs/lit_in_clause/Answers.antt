-- `lit_in_clause` meets its contract: it is the library's test whether some literal of the clause is the one asked for.
use Rattle.std.proofs.Common.{◌≡◌, refl, ◌∙◌, ℕ, List, [], ◌∷◌, eqb}
use Rattle.std.specs.List.{list_any}
use Rattle.lit.specs.Lits.{lit_in_clause}
use Rattle.lit.proofs.lit_in_clause.Goals as goal

some_is : (code : ℕ) (clause : List ℕ) → list_any (λ c. eqb c code) clause ≡ lit_in_clause code clause
unfolding lit_in_clause
some_is code [] = refl
some_is code (c ∷ cs) = rw (some_is code cs)

pub returns : goal.returns
returns c = c.contains.ensures.value ∙ some_is _ _
