-- `heap_entry::enter_session` meets its contract: a refusal is the answer; without one the memory is good, and the step answers.
use Rattle.std.proofs.lemmas.Result.{err_from_is_err_and}
use Rattle.session.specs.Asked.{asks}
use Rattle.session.proofs.Checks.{refused_by, accepted}
use Rattle.session.specs.Mode.{entered}
use Rattle.session.proofs.Entered.{admitted}
use Rattle.heap_session.specs.Held.{session_in}
use Rattle.heap_entry.specs.Entry.{heap_mode}
use Rattle.heap_entry.specs.Checked.{heap_sound}
use Rattle.heap_entry.proofs.enter_session.Goals as goal

pub returns-in_err-refusal-clause-answered : goal.returns-in_err-refusal-clause-answered
unfolding entered
returns-in_err-refusal-clause-answered c =
    let p = err_from_is_err_and c.from_residual.result c.from_residual.ensures.1 in
    rw (p.1, p.2) (refused_by _ _ _ _ _ _ _ (rw (c.view.ensures.trail, c.view.ensures.vsids, c.scratch_ok-scratch.ensures) at c.in_err-refusal.ensures))

pub step-requires : goal.step-requires
unfolding heap_sound
step-requires c =
    let a = c.args in
    let n = a.n in
    let m = a.clauses in
    let lits = a.list.lits.now in
    let ends = a.list.ends.now in
    let g = admitted n m (heap_mode n m lits ends) lits a.literals ends (heap_sound n m lits ends)
    (asks a.call a.vars.now a.stamps.now a.order.now)
    (session_in n m lits ends a.session.now)
    c.view.ensures.doubles
    (rw (c.view.ensures.trail, c.view.ensures.vsids, c.scratch_ok-scratch.ensures) at c.in_ok-refusal.ensures) in
    g.0.session

pub returns-clause-answered : goal.returns-clause-answered
unfolding entered
returns-clause-answered c = rw (accepted _ _ _ _ _ (rw (c.view.ensures.trail, c.view.ensures.vsids, c.scratch_ok-scratch.ensures) at c.in_ok-refusal.ensures)) c.step.ensures.answered
