-- A session in heap mode that is not refused is good.
use Rattle.std.proofs.Common.{sym, ◌∙◌}
use Rattle.session.proofs.Entered.{passed_good}
use Rattle.heap_session.specs.Held.{session_in}
use Rattle.heap_entry.specs.Entry.{heap_mode}
use Rattle.heap_entry.specs.Checked.{heap_sound}
use Rattle.mode.proofs.heap_mode.HeapSessionSession.refusal.Goals as goal

pub returns-clause-refused : goal.returns-clause-refused
returns-clause-refused c = rw (c.view.ensures.trail, c.view.ensures.vsids) at c.refusal.ensures

pub returns-clause-good : goal.returns-clause-good
unfolding heap_sound
returns-clause-good c = λ e.
    let a = c.args in
    let n = a.n in
    let m = a.clauses in
    let lits = a.list.lits.now in
    let ends = a.list.ends.now in
    let g = passed_good n m (heap_mode n m lits ends) lits a.literals ends (heap_sound n m lits ends) a.fits (session_in n m lits ends a.self.now) c.view.ensures.doubles
    (sym e ∙ (rw (c.view.ensures.trail, c.view.ensures.vsids) at c.refusal.ensures)) in
    (g.0.session, g.1)
