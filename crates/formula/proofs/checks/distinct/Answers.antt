-- `distinct`: a literal whose variable stands before it fails the test of the clause.
use Rattle.std.proofs.Common.{sym, ◌∙◌}
use Rattle.laws.specs.Every.{every_not}
use Rattle.formula.specs.Checks.{no_duplicates}
use Rattle.formula.proofs.checks.distinct.Goals as goal

pub returns-then-not-new_at : goal.returns-then-not-new_at
unfolding no_duplicates
returns-then-not-new_at c = sym (every_not _ _ _ c.loop-i-test.true (sym c.new_at.ensures ∙ c.if-not-new_at.true))
