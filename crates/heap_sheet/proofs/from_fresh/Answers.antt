-- `heap_sheet::from_fresh` meets its contract: a fresh session is good, so the check lets it through, and its lines are answered.
use mathlib.Core.Path.{sym, subst, ◌∙◌}
use mathlib.Core.Bool.{true≢false}
use native.Mathlib.Omega.{arith}
use Rattle.sheet.specs.Stages.{Stage}
use Rattle.sheet.specs.Running.{Ended}
use Rattle.sheet.proofs.SessionLines.{along_over}
use Rattle.heap_entry.specs.Checked.{heap_sound}
use Rattle.heap_sheet.specs.Lines.{heap_along}
use Rattle.heap_sheet.specs.Start.{started_opened, started_good, started_sized, started_lengths, started_passes}
use Rattle.heap_sheet.proofs.from_fresh.Goals as goal

pub overflow_cast-list : goal.overflow_cast-list
overflow_cast-list c = omega (arith, c.requires.room.2.list.few_clauses)

pub check-requires : goal.check-requires
check-requires c =
    let a = c.args in
    let v = c.view.ensures in
    let t = v.trail ∙ c.requires.fresh.0 in
    let h = v.vsids ∙ c.requires.fresh.1 in
    record { lengths = started_sized a.n a.list.lits.now a.list.ends.now t h c.requires.room.1 c.requires.room.2; same_lengths = started_lengths a.n a.list.lits.now a.list.ends.now t h c.requires.room.1 c.requires.room.2 }

pub returns-then-not-check : goal.returns-then-not-check
returns-then-not-check c =
    let a = c.args in
    let v = c.view.ensures in
    let t = v.trail ∙ c.requires.fresh.0 in
    let h = v.vsids ∙ c.requires.fresh.1 in
    absurd (true≢false (sym (c.check.ensures ∙ started_passes a.n a.list.lits.now a.list.ends.now t h c.requires.room.1 c.requires.room.2) ∙ c.if-not-check.true))

pub lines-requires : goal.lines-requires
unfolding heap_sound
lines-requires c =
    record { room = (c.requires.room.0, c.requires.room.2.list.few_clauses); good = started_good c.args.n c.args.list.lits.now c.args.list.ends.now c.requires.fresh.0 c.requires.fresh.1 c.requires.room.1 c.requires.room.2 }

pub returns : goal.returns
returns c =
    let a = c.args in
    let l = c.lines in
    record {
      ended = subst (λ (x : Stage). Ended a.sheet.now a.p x a.out.now l.result.at l.new.out) (started_opened a.n a.list.lits.now a.list.ends.now c.requires.fresh.0 c.requires.fresh.1) (along_over (heap_along a.n a.list.lits.now a.list.ends.now l.ensures.went) l.ensures.left);
      same_slices = l.ensures.same_slices;
    }
