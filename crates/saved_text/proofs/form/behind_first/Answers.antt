-- `saved_text::form::behind_first` meets its contract: the clauses, then the state, and then the text ends.
use Rattle.saved_text.specs.FormLaws.{behind_none, behind_bad, behind_more, behind_opened}
use borrow.Author.Rules.{rules}
use Rattle.saved_text.proofs.form.behind_first.Goals as goal

pub returns-in_err-clauses : goal.returns-in_err-clauses
returns-in_err-clauses c = rw c.from_residual.ensures (behind_none _ _ c.requires _ (rw c.in_err-clauses.was at c.clause_section.ensures))

pub past_state-requires : goal.past_state-requires
past_state-requires c = (c.clause_section.ensures.sound _ c.in_ok-clauses.was).within

pub returns-in_err-end : goal.returns-in_err-end
returns-in_err-end c = rw c.from_residual-in_err-end.ensures (behind_bad _ _ c.requires _ (rw c.in_ok-clauses.was at c.clause_section.ensures) (rw c.in_err-end.was at c.past_state.ensures))

pub returns-then-end-text : goal.returns-then-end-text
returns-then-end-text c = behind_more _ _ c.requires _ (rw c.in_ok-clauses.was at c.clause_section.ensures) (rw c.in_ok-end.was at c.past_state.ensures) c.if-end-text.true

pub returns : goal.returns
returns c = behind_opened _ _ c.requires _ _ (rw c.in_ok-clauses.was at c.clause_section.ensures) (rw c.in_ok-end.was at c.past_state.ensures) c.if-end-text.false (search rules)
