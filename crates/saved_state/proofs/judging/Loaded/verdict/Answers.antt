-- `saved_state::judging::Loaded::verdict` meets its contract: the lengths come first, then why what was read is no session.
use Rattle.book.specs.Session.{need}
use Rattle.session.specs.Entry.{sizes_checked, checked}
use Rattle.saved_state.specs.Judging.{unfit_refused}
use borrow.Author.Tests.{le-leb, eq-eqb, ne_eqb}
use Rattle.saved_state.proofs.judging.Loaded.verdict.Goals as goal
use Rattle.saved_state.proofs.judging.Loaded.verdict.Goals.{then-lits-self-via-then-lits-self, then-lits-self-via-else-lits-self+then-ends-self}

pub returns-then-lits-self-clause-status : goal.returns-then-lits-self-clause-status
unfolding checked sizes_checked need
returns-then-lits-self-clause-status g c = elim c.then-lits-self.branch [
  | then-lits-self-via-then-lits-self w ↦ rw (le-leb _ _ c.requires, ne_eqb _ _ w.if-lits-self.true)
  | then-lits-self-via-else-lits-self+then-ends-self w ↦ rw (le-leb _ _ c.requires, eq-eqb _ _ w.if-lits-self.false, ne_eqb _ _ w.if-ends-self.true)
]

pub returns-in-Ok-clause-status : goal.returns-in-Ok-clause-status
unfolding checked sizes_checked need
returns-in-Ok-clause-status g c = rw (c.in-Ok.is, le-leb _ _ c.requires, eq-eqb _ _ c.if-lits-self.false, eq-eqb _ _ c.if-ends-self.false)

pub returns-in-Err-clause-status : goal.returns-in-Err-clause-status
returns-in-Err-clause-status g c = rw (c.refusal.ensures, c.in-Err.is, eq-eqb _ _ c.if-lits-self.false, eq-eqb _ _ c.if-ends-self.false) (unfit_refused g.row.S.Denot c.in-Err.unfit _ c.requires)
