-- `saved_text::form::list_text` meets its contract: the clauses, the trail's lines and the list's, and then the text ends.
use Rattle.saved_text.specs.FormLaws.{behind_none, behind_bad, behind_more, behind_is, state_bad, state_past, head_past, opens_within, opens_whole, nothing_read, something_read, told}
use mathlib.Core.Path.{refl}
use Rattle.saved_text.proofs.form.list_text.Goals as goal

pub returns-in_err-clauses : goal.returns-in_err-clauses
returns-in_err-clauses c = rw (c.from_residual.ensures, nothing_read c.requires.0 (behind_none _ _ (opens_within c.requires.0) _ (rw c.in_err-clauses.was at c.clause_section.ensures))) refl

pub trail_rows-requires : goal.trail_rows-requires
trail_rows-requires c = (c.clause_section.ensures.sound _ c.in_ok-clauses.was).within

pub returns-in_err-trail : goal.returns-in_err-trail
returns-in_err-trail c = rw (c.from_residual-in_err-trail.ensures, nothing_read c.requires.0 (behind_bad _ _ (opens_within c.requires.0) _ (rw c.in_ok-clauses.was at c.clause_section.ensures) (state_bad _ (rw c.in_err-trail.was at c.trail_rows.ensures)))) refl

pub returns-in_err-list : goal.returns-in_err-list
returns-in_err-list c = rw (c.from_residual-in_err-list.ensures, nothing_read c.requires.0 (behind_bad _ _ (opens_within c.requires.0) _ (rw c.in_ok-clauses.was at c.clause_section.ensures) (state_past _ (rw c.in_ok-trail.was at c.trail_rows.ensures) (head_past (rw c.in_err-list.was at c.list_rows.ensures))))) refl

pub returns-then-list-text : goal.returns-then-list-text
returns-then-list-text c = rw (nothing_read c.requires.0 (behind_more _ _ (opens_within c.requires.0) _ (rw c.in_ok-clauses.was at c.clause_section.ensures) (state_past _ (rw c.in_ok-trail.was at c.trail_rows.ensures) (head_past (rw c.in_ok-list.was at c.list_rows.ensures))) c.if-list-text.true)) refl

pub returns : goal.returns
returns c =
    let w = c.requires.0 in
    let clauses = rw c.in_ok-clauses.was at c.clause_section.ensures in
    let trail = rw c.in_ok-trail.was at c.trail_rows.ensures in
    let list = rw c.in_ok-list.was at c.list_rows.ensures in
    let read = something_read w (behind_is _ _ (opens_within w) _ clauses (state_past _ trail (head_past list)) c.if-list-text.false (opens_whole w)) in
    rw read.1 (_, _, _, refl, told w clauses refl trail refl list read.0 read.1)
