-- `list_sheet::from_fresh` meets its contract: the session passes its check, and its lines end the run.
use mathlib.Core.Path.{sym, ◌∙◌}
use mathlib.Core.Bool.{true≢false}
use native.Mathlib.Omega.{arith}
use Rattle.sheet.proofs.SessionLines.{along_over}
use Rattle.list_entry.specs.Checked.{list_sound}
use Rattle.list_sheet.specs.Lines.{list_along}
use Rattle.list_sheet.specs.Start.{started_good, started_passes, started_ended}
use Rattle.list_sheet.proofs.from_fresh.Goals as goal

pub overflow_cast-list : goal.overflow_cast-list
overflow_cast-list c = omega (arith, c.requires.room.2.list.few_clauses)

pub check-requires : goal.check-requires
check-requires c =
    let v = c.view.ensures in
    let g = started_good c.args.list.lits.now c.requires.room.1 (v.trail ∙ c.requires.fresh.0) (v.list ∙ c.requires.fresh.1) 0 in
    let lengths = g.trail.lengths in
    let linked = g.list.1.linked in
    record { lengths = rw lengths.values_long lengths; small = omega (arith, lengths.values_long, c.requires.room.1); even = (linked.prev_long ∙ sym linked.next_long, g.list.1.ts_long ∙ sym linked.next_long) }

pub returns-then-not-check : goal.returns-then-not-check
returns-then-not-check c =
    let v = c.view.ensures in
    absurd (true≢false (sym (c.check.ensures ∙ started_passes c.args.list.lits.now c.requires.room.1 (v.trail ∙ c.requires.fresh.0) (v.list ∙ c.requires.fresh.1) _) ∙ c.if-not-check.true))

pub lines-requires : goal.lines-requires
unfolding list_sound
lines-requires c =
    record { room = (c.requires.room.0, c.requires.room.2.list.few_clauses); good = started_good c.args.list.lits.now c.requires.room.1 c.requires.fresh.0 c.requires.fresh.1 _ }

pub returns : goal.returns
returns c =
    let a = c.args in
    let lits = a.list.lits.now in
    let l = c.lines in
    started_ended lits c.requires.room.1 c.requires.fresh.0 c.requires.fresh.1 a.list.ends.now (along_over (list_along a.n lits a.list.ends.now l.ensures.went) l.ensures.left)
