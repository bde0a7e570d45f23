-- `list_entry::enter_session` meets its contract: a refusal is the answer; without one the memory is good, and the step answers.
use Rattle.std.proofs.lemmas.Result.{err_from_is_err_and}
use Rattle.session.specs.Asked.{asks}
use Rattle.session.proofs.Checks.{refused_by, accepted}
use Rattle.session.specs.Mode.{entered}
use Rattle.session.proofs.Entered.{admitted}
use Rattle.list_session.specs.Memory.{session_in}
use Rattle.list_entry.specs.Entry.{list_mode}
use Rattle.list_entry.specs.Checked.{list_sound}
use Rattle.list_entry.proofs.enter_session.Goals as goal

pub returns-in_err-refusal-clause-answered : goal.returns-in_err-refusal-clause-answered
unfolding entered
returns-in_err-refusal-clause-answered c =
    let p = err_from_is_err_and c.from_residual.result c.from_residual.ensures.1 in
    rw (p.1, p.2) (refused_by _ _ _ _ _ _ _ (rw (c.view.ensures.trail, c.view.ensures.list, c.scratch_ok-scratch.ensures) at c.in_err-refusal.ensures))

pub step-requires : goal.step-requires
unfolding list_sound
step-requires c =
    let a = c.args in
    let n = a.n in
    let m = a.clauses in
    let lits = a.list.lits.now in
    let ends = a.list.ends.now in
    let g = admitted n m (list_mode n m lits) lits a.literals ends (list_sound n m lits ends)
    (asks a.call a.vars.now a.stamps.now a.order.now)
    (session_in n m lits a.session.now)
    tt
    (rw (c.view.ensures.trail, c.view.ensures.list, c.scratch_ok-scratch.ensures) at c.in_ok-refusal.ensures) in
    record { good = g.0.session; right_scratch = g.1 }

pub returns-clause-answered : goal.returns-clause-answered
unfolding entered
returns-clause-answered c = rw (accepted _ _ _ _ _ (rw (c.view.ensures.trail, c.view.ensures.list, c.scratch_ok-scratch.ensures) at c.in_ok-refusal.ensures)) (c.step.ensures.answered _)
