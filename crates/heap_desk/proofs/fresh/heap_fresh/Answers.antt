-- `heap_desk::fresh::heap_fresh` meets its contract: a fresh session is good, so the check lets it through, and its lines and its text follow.
use mathlib.Core.Path.{sym, subst, ◌∙◌}
use mathlib.Core.Bool.{true≢false}
use native.Mathlib.Omega.{arith}
use Rattle.sheet.specs.Stages.{Stage}
use Rattle.heap_sheet.specs.Start.{started_opened, started_sized, started_lengths, started_passes}
use Rattle.saved_run.specs.Ends.{Saves}
use Rattle.heap_desk.specs.Saving.{heap_fresh}
use Rattle.heap_desk.proofs.fresh.heap_fresh.Goals as goal

pub overflow_cast-list : goal.overflow_cast-list
overflow_cast-list c = omega (arith, c.requires.room.2.list.few_clauses)

pub check-requires : goal.check-requires
check-requires c =
    let a = c.args in
    let v = c.view.ensures in
    let t = v.trail ∙ c.requires.fresh.0 in
    let h = v.vsids ∙ c.requires.fresh.1 in
    record { lengths = started_sized a.n a.list.lits.now a.list.ends.now t h c.requires.room.1 c.requires.room.2; same_lengths = started_lengths a.n a.list.lits.now a.list.ends.now t h c.requires.room.1 c.requires.room.2 }

pub returns-then-not-check : goal.returns-then-not-check
returns-then-not-check c =
    let a = c.args in
    let v = c.view.ensures in
    let t = v.trail ∙ c.requires.fresh.0 in
    let h = v.vsids ∙ c.requires.fresh.1 in
    absurd (true≢false (sym (c.check.ensures ∙ started_passes a.n a.list.lits.now a.list.ends.now t h c.requires.room.1 c.requires.room.2) ∙ c.if-not-check.true))

pub heap_done-requires : goal.heap_done-requires
heap_done-requires c = record { room = (c.requires.room.0, c.requires.room.3); savable = heap_fresh c.args.list.lits.now c.args.list.ends.now c.requires.fresh.0 c.requires.fresh.1 c.requires.room.1 c.requires.room.2 }

pub returns : goal.returns
returns c =
    let a = c.args in
    let d = c.heap_done in
    subst (λ (x : Stage). Saves a.sheet.now a.p x a.out.now a.text.now d.result d.new.out d.new.text) (started_opened a.n a.list.lits.now a.list.ends.now c.requires.fresh.0 c.requires.fresh.1) d.ensures
