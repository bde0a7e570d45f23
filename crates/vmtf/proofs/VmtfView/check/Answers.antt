-- `VmtfView::check`: each test that fails decides the definition's.
use mathlib.Core.Path.{sym, ◌∙◌}
use borrow.Author.Tests.{eq-eqb, ne_eqb}
use Rattle.vmtf.specs.Vmtf.{check_list}
use Rattle.vmtf.proofs.VmtfView.check.Goals as goal

pub returns-then-not-check_row : goal.returns-then-not-check_row
unfolding check_list
returns-then-not-check_row c = rw (sym c.check_row.ensures ∙ c.if-not-check_row.true)

pub returns-then-self-eq-NONE : goal.returns-then-self-eq-NONE
unfolding check_list
returns-then-self-eq-NONE c = rw (sym c.check_row.ensures ∙ c.if-not-check_row.false, eq-eqb _ _ c.if-self-eq-NONE.true)

pub returns : goal.returns
unfolding check_list
returns c = rw (sym c.check_row.ensures ∙ c.if-not-check_row.false, ne_eqb _ _ c.if-self-eq-NONE.false)
