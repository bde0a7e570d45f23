-- A session in list mode that is not refused is good.
use Rattle.std.proofs.Common.{sym, ◌∙◌}
use Rattle.session.proofs.Entered.{passed_good}
use Rattle.list_session.specs.Memory.{session_in}
use Rattle.list_entry.specs.Entry.{list_mode}
use Rattle.list_entry.specs.Checked.{list_sound}
use Rattle.mode.proofs.list_mode.ListSessionSession.refusal.Goals as goal

pub returns-clause-good : goal.returns-clause-good
unfolding list_sound
returns-clause-good c = λ e.
    let a = c.args in
    let n = a.n in
    let m = a.clauses in
    let lits = a.list.lits.now in
    let ends = a.list.ends.now in
    let g = passed_good n m (list_mode n m lits) lits a.literals ends (list_sound n m lits ends) a.fits (session_in n m lits a.self.now) tt
    (sym e ∙ (rw (c.view.ensures.trail, c.view.ensures.list) at c.refusal.ensures)) in
    (g.0.session, g.1)
