-- `bump_reason` meets its contract: a reason that is not NONE is a clause, and its literals are of variables.
use mathlib.Core.Path.{refl}
use borrow.Author.Tests.{le-ltb}
use Rattle.book.specs.Session.{call}
use Rattle.session.proofs.Outcomes.{failed}
use Rattle.heap_session.proofs.Outcomes.{without_reason, reason_bumped}
use Rattle.heap_session.proofs.order.bump_reason.Goals as goal

pub returns-then-v-n-clause-answered : goal.returns-then-v-n-clause-answered
unfolding call
returns-then-v-n-clause-answered c = λ m. failed _ (le-ltb _ _ c.if-v-n.true)

pub returns-then-reason-clause-answered : goal.returns-then-reason-clause-answered
returns-then-reason-clause-answered c =
    λ m. reason_bumped _ m _ _ _ _ c.if-v-n.false _ refl c.if-reason.true _ (rw c.clause.ensures at c.bump_reason_literals.ensures.bumped)

pub returns-else-reason-clause-answered : goal.returns-else-reason-clause-answered
returns-else-reason-clause-answered c = λ m. without_reason _ m _ _ _ _ c.if-v-n.false _ refl c.if-reason.false
