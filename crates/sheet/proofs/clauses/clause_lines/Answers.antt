-- `sheet::clauses::clause_lines` meets its contract: each line that is passed leaves the run's end where it was.
use mathlib.Core.Path.{sym, ◌∙◌}
use Rattle.sheet.proofs.Section.{so_far_none, so_far_more}
use Rattle.sheet.proofs.clauses.clause_lines.Goals as goal

pub loop-out-init : goal.loop-out-init
loop-out-init c = so_far_none c.requires

pub next_is_clause-requires : goal.next_is_clause-requires
next_is_clause-requires c = (_, c.loop-out.invariant.ready.room)

pub clause_step-u-requires : goal.clause_step-u-requires
clause_step-u-requires c = (c.loop-out.invariant.ready, sym c.next_is_clause.ensures ∙ c.loop-out-test.true)

pub loop-out-smaller : goal.loop-out-smaller
loop-out-smaller c = c.clause_step-u.ensures.left_lt_left

pub loop-out-preserved : goal.loop-out-preserved
loop-out-preserved c = so_far_more c.loop-out.invariant c.clause_step-u.ensures.so_far

pub returns : goal.returns
returns c = record { from_value = sym c.next_is_clause.ensures ∙ c.loop-out-test.false; so_far = c.loop-out.invariant }
