-- `step_on`: each arm by the contract of its call.
use mathlib.Core.Path.{refl}
use Rattle.book.specs.Session.{call, tuned}
use Rattle.session.proofs.Outcomes.{tested, finished}
use Rattle.session.proofs.OnTrail.{enqueue_with, unit_with, back_with}
use Rattle.list_session.specs.Kept.{went}
use Rattle.list_session.proofs.step.step_on.Goals as goal

pub returns-in-Bump-clause-answered : goal.returns-in-Bump-clause-answered
unfolding call tuned
returns-in-Bump-clause-answered c = λ lits. rw (c.in-Bump.is, c.tested.ensures.status, c.tested.ensures.reply) (tested _ _)

pub returns-in-Decay-clause-answered : goal.returns-in-Decay-clause-answered
unfolding call tuned
returns-in-Decay-clause-answered c = λ lits. rw c.in-Decay.is (finished refl)

pub returns-in-SetDecay-clause-answered : goal.returns-in-SetDecay-clause-answered
unfolding call tuned
returns-in-SetDecay-clause-answered c = λ lits. rw (c.in-SetDecay.is, c.tested-in-SetDecay.ensures.status, c.tested-in-SetDecay.ensures.reply, c.good_decay.ensures) (tested _ _)

pub returns-in-Insert-clause-answered : goal.returns-in-Insert-clause-answered
unfolding call
returns-in-Insert-clause-answered c = λ lits. rw (c.in-Insert.is, c.tested-in-Insert.ensures.status, c.tested-in-Insert.ensures.reply) (tested _ _)

pub returns-in-SwitchOff-clause-answered : goal.returns-in-SwitchOff-clause-answered
unfolding call
returns-in-SwitchOff-clause-answered c = λ lits. rw (c.in-SwitchOff.is, c.tested-in-SwitchOff.ensures.status, c.tested-in-SwitchOff.ensures.reply) (tested _ _)

pub returns-in-Enqueue-clause-answered : goal.returns-in-Enqueue-clause-answered
returns-in-Enqueue-clause-answered c = λ lits. rw c.in-Enqueue.is (enqueue_with _ _ _ c.enqueue.ensures.answered)

pub returns-in-LearnUnit-clause-answered : goal.returns-in-LearnUnit-clause-answered
returns-in-LearnUnit-clause-answered c = λ lits. rw c.in-LearnUnit.is (unit_with _ (λ l. went _ _ lits l _) _ c.learn_unit.ensures.answered)

pub returns-in-GoBack-clause-answered : goal.returns-in-GoBack-clause-answered
returns-in-GoBack-clause-answered c = λ lits. rw c.in-GoBack.is (back_with _ (λ l. went _ _ lits l _) _ c.go_back.ensures.answered)

pub returns-in-BumpReason-clause-answered : goal.returns-in-BumpReason-clause-answered
unfolding call tuned
returns-in-BumpReason-clause-answered c = λ lits. rw (c.in-BumpReason.is, c.tested-in-BumpReason.ensures.status, c.tested-in-BumpReason.ensures.reply) (tested _ _)
