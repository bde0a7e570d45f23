-- `forms::begins_clause` meets its contract: the kind of the first byte tells the letter of clause lines.
use Rattle.std.proofs.Common.{◌≡◌, ℕ, length, List, [], ◌∷◌, arith, le-ltb, refl, false, sym, nat_eq, get_or, ◌∙◌}
use Rattle.forms.specs.Letters.{clause_letter}
use Rattle.forms.specs.Forms.{begins_clause}
use Rattle.forms.specs.Kinds.{clause_told, clause_untold}
use Rattle.forms.proofs.begins_clause.Goals as goal

empty : (l : List ℕ) → length l ≡ 0 → false ≡ begins_clause l
unfolding begins_clause
empty [] e = refl
empty (b ∷ bs) e = absurd (omega arith)

first : (l : List ℕ) → (length l ≡ 0 → ⊥) → nat_eq (get_or l 0 0) clause_letter ≡ begins_clause l
unfolding begins_clause
first [] n = absurd (n refl)
first (b ∷ bs) n = refl

pub returns-else-line-gt0 : goal.returns-else-line-gt0
returns-else-line-gt0 c = rw (le-ltb 0 _ c.if-line-gt0.false) (empty c.args.line.now (omega (arith, c.if-line-gt0.false)))

pub returns-in-Clause : goal.returns-in-Clause
returns-in-Clause c = sym (clause_told (get_or c.args.line.now 0 0) c.of.ensures c.in-Clause.is) ∙ first c.args.line.now (λ e. omega (arith, e, c.if-line-gt0.true))

pub returns-in_default : goal.returns-in_default
returns-in_default c = sym (clause_untold (get_or c.args.line.now 0 0) c.of.ensures c.in_default.not-Clause) ∙ first c.args.line.now (λ e. omega (arith, e, c.if-line-gt0.true))
