-- `saved_text::form::heap_text` meets its contract: the clauses, the trail's lines and the heap's, and then the text ends.
use Rattle.saved_text.specs.FormLaws.{behind_none, behind_bad, behind_more, behind_is, state_bad, state_past, head_past, opens_within, opens_whole, nothing_read, something_read, told}
use mathlib.Core.Path.{refl}
use Rattle.saved_text.proofs.form.heap_text.Goals as goal

pub returns-in_err-clauses : goal.returns-in_err-clauses
returns-in_err-clauses c = rw (c.from_residual.ensures, nothing_read c.requires.0 (behind_none _ _ (opens_within c.requires.0) _ (rw c.in_err-clauses.was at c.clause_section.ensures))) refl

pub trail_rows-requires : goal.trail_rows-requires
trail_rows-requires c = (c.clause_section.ensures.sound _ c.in_ok-clauses.was).within

pub returns-in_err-trail : goal.returns-in_err-trail
returns-in_err-trail c = rw (c.from_residual-in_err-trail.ensures, nothing_read c.requires.0 (behind_bad _ _ (opens_within c.requires.0) _ (rw c.in_ok-clauses.was at c.clause_section.ensures) (state_bad _ (rw c.in_err-trail.was at c.trail_rows.ensures)))) refl

pub returns-in_err-heap : goal.returns-in_err-heap
returns-in_err-heap c = rw (c.from_residual-in_err-heap.ensures, nothing_read c.requires.0 (behind_bad _ _ (opens_within c.requires.0) _ (rw c.in_ok-clauses.was at c.clause_section.ensures) (state_past _ (rw c.in_ok-trail.was at c.trail_rows.ensures) (head_past (rw c.in_err-heap.was at c.heap_rows.ensures))))) refl

pub returns-then-heap-text : goal.returns-then-heap-text
returns-then-heap-text c = rw (nothing_read c.requires.0 (behind_more _ _ (opens_within c.requires.0) _ (rw c.in_ok-clauses.was at c.clause_section.ensures) (state_past _ (rw c.in_ok-trail.was at c.trail_rows.ensures) (head_past (rw c.in_ok-heap.was at c.heap_rows.ensures))) c.if-heap-text.true)) refl

pub returns : goal.returns
returns c =
    let w = c.requires.0 in
    let clauses = rw c.in_ok-clauses.was at c.clause_section.ensures in
    let trail = rw c.in_ok-trail.was at c.trail_rows.ensures in
    let heap = rw c.in_ok-heap.was at c.heap_rows.ensures in
    let read = something_read w (behind_is _ _ (opens_within w) _ clauses (state_past _ trail (head_past heap)) c.if-heap-text.false (opens_whole w)) in
    rw read.1 (_, _, _, refl, told w clauses refl trail refl heap read.0 read.1)
