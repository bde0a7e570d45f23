-- `step_on` meets its contract: each arm by the contract of its call.
use Rattle.session.proofs.OnTrail.{enqueue_with}
use Rattle.heap_session.proofs.step.step_on.Goals as goal

pub returns-in-Bump-clause-answered : goal.returns-in-Bump-clause-answered
returns-in-Bump-clause-answered c = rw c.in-Bump.is (c.bump.ensures.answered _ _ _ _)

pub returns-in-Decay-clause-answered : goal.returns-in-Decay-clause-answered
returns-in-Decay-clause-answered c = rw c.in-Decay.is (c.decay.ensures.answered _ _ _ _ _)

pub returns-in-SetDecay-clause-answered : goal.returns-in-SetDecay-clause-answered
returns-in-SetDecay-clause-answered c = rw c.in-SetDecay.is (c.set_decay.ensures.answered _ _ _ _ _)

pub returns-in-Insert-clause-answered : goal.returns-in-Insert-clause-answered
returns-in-Insert-clause-answered c = rw c.in-Insert.is (c.insert.ensures.answered _ _ _ _)

pub returns-in-SwitchOff-clause-answered : goal.returns-in-SwitchOff-clause-answered
returns-in-SwitchOff-clause-answered c = rw c.in-SwitchOff.is (c.switch_off.ensures.answered _ _ _ _)

pub returns-in-Decide-clause-answered : goal.returns-in-Decide-clause-answered
returns-in-Decide-clause-answered c = rw c.in-Decide.is (c.decide.ensures.answered _ _ _ _)

pub returns-in-LearnUnit-clause-answered : goal.returns-in-LearnUnit-clause-answered
returns-in-LearnUnit-clause-answered c = rw c.in-LearnUnit.is (c.learn_unit.ensures.answered _ _ _)

pub returns-in-GoBack-clause-answered : goal.returns-in-GoBack-clause-answered
returns-in-GoBack-clause-answered c = rw c.in-GoBack.is (c.go_back.ensures.answered _ _ _ _)

pub returns-in-BumpReason-clause-answered : goal.returns-in-BumpReason-clause-answered
returns-in-BumpReason-clause-answered c = rw c.in-BumpReason.is (c.bump_reason.ensures.answered _)

pub returns-in-Enqueue-clause-answered : goal.returns-in-Enqueue-clause-answered
returns-in-Enqueue-clause-answered c = rw c.in-Enqueue.is (enqueue_with _ _ _ c.enqueue.ensures.answered)

pub returns-in-Group-clause-answered : goal.returns-in-Group-clause-answered
returns-in-Group-clause-answered c = rw c.in-Group.is (c.group.ensures _ _ _ _)
