-- `saved_text::cursor::read_row` meets its contract: each turn reads a tab and a field, and a line that stands there goes on behind what was read.
use mathlib.Core.Path.{refl}
use native.Mathlib.Omega.{arith}
use Rattle.saved_text.specs.CursorLaws.{so_far_none, row_stuck, row_ends, row_unread, so_far_next}
use Rattle.saved_text.proofs.cursor.read_row.Goals as goal
use Rattle.saved_text.proofs.cursor.read_row.Goals.{else-loop-i-test, then-i-text-via-else-i-text+then-text-i-ne-NEWLINE, then-i-text-via-then-i-text, then-loop-i-test+else-text-i-eq-TAB}

pub loop-i-init : goal.loop-i-init
loop-i-init g c = so_far_none _ _ _ _ _ (omega (arith, c.if-at-text.false)) c.if-text-at.false

pub returns-in_err-v : goal.returns-in_err-v
returns-in_err-v g c = rw c.from_residual.ensures (row_unread _ _ _ _ _ _ _ _ c.loop-i.invariant c.loop-i-test.true c.if-text-i-eq-TAB.true (rw c.in_err-v.was at c.read.ensures))

pub loop-i-smaller : goal.loop-i-smaller
loop-i-smaller g c = let f = (rw c.in_ok-v.was at c.read.ensures).sound _ refl in omega (arith, f.1, f.2)

pub loop-i-preserved : goal.loop-i-preserved
loop-i-preserved g c =
    rw (c.keep.ensures, c.max-greatest.ensures, c.wide.ensures) (so_far_next _ _ _ _ _ _ _ _ c.loop-i.invariant c.loop-i-test.true c.if-text-i-eq-TAB.true _ _ (rw c.in_ok-v.was at c.read.ensures))

pub returns-then-i-text : goal.returns-then-i-text
returns-then-i-text g c =
    row_stuck _ _ _ _ _ _ _ _ c.loop-i.invariant
    (λ h e. elim c.loop-i-test.branch [ then-loop-i-test+else-text-i-eq-TAB w ↦ w.if-text-i-eq-TAB.false e | else-loop-i-test w ↦ omega (arith, w.loop-i-test.false) ])
    (λ h e. elim c.then-i-text.branch [ then-i-text-via-then-i-text w ↦ omega (arith, w.if-i-text.true) | then-i-text-via-else-i-text+then-text-i-ne-NEWLINE w ↦ w.if-text-i-ne-NEWLINE.true e ])

pub returns : goal.returns
returns g c = let l = c.loop-i in row_ends _ _ _ _ _ _ _ _ l.invariant (omega (arith, c.if-i-text.false, l.invariant.within)) c.if-text-i-ne-NEWLINE.false
