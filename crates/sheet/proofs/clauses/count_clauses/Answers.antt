-- `sheet::clauses::count_clauses` meets its contract: each line that is passed leaves the list that all of them make.
use mathlib.Core.Path.{sym, ◌∙◌}
use Rattle.sheet.proofs.Counting.{counted_none, counted_more, counted_all}
use Rattle.sheet.proofs.clauses.count_clauses.Goals as goal

pub loop-lits-init : goal.loop-lits-init
loop-lits-init c = let pre = c.requires in (pre.0, counted_none pre.1)

pub next_is_clause-requires : goal.next_is_clause-requires
next_is_clause-requires c = (_, c.loop-lits.invariant.1.ready.room)

pub count_step-u-requires : goal.count_step-u-requires
count_step-u-requires c = let i = c.loop-lits.invariant in ((i.0, i.1.ready), sym c.next_is_clause.ensures ∙ c.loop-lits-test.true)

pub loop-lits-smaller : goal.loop-lits-smaller
loop-lits-smaller c = c.count_step-u.ensures.left_lt_left

pub loop-lits-preserved : goal.loop-lits-preserved
loop-lits-preserved c =
    let i = c.loop-lits.invariant in
    (i.0, counted_more i.1 (c.count_step-u.ensures.by_index i.0 i.1.ready))

pub returns : goal.returns
returns c = counted_all c.loop-lits.invariant.1 (sym c.next_is_clause.ensures ∙ c.loop-lits-test.false)
