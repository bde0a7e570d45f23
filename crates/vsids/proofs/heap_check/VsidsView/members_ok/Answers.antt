-- `members_ok` meets its contract. The loop's invariant: every place below i is good.
use mathlib.Core.Path.{sym, ◌∙◌}
use native.Mathlib.Omega.{arith}
use Rattle.laws.specs.Every.{passed_none, passed_more, passed_fails, every_at}
use Rattle.vsids.proofs.Check.{variable_says}
use Rattle.vsids.proofs.heap_check.VsidsView.members_ok.Goals as goal

pub loop-i-init : goal.loop-i-init
loop-i-init c = passed_none

pub member_ok-requires-clause-by_index : goal.member_ok-requires-clause-by_index
member_ok-requires-clause-by_index c = let l = c.loop-i in λ j b. variable_says _ _ _ j (every_at _ l.i j l.invariant.passed b)

pub returns-then-not-member_ok : goal.returns-then-not-member_ok
returns-then-not-member_ok c = sym (passed_fails c.loop-i.invariant (omega arith) (sym c.member_ok.ensures ∙ c.if-not-member_ok.true))

pub loop-i-preserved : goal.loop-i-preserved
loop-i-preserved c = passed_more c.loop-i.invariant (omega arith) (sym c.member_ok.ensures ∙ c.if-not-member_ok.false)
