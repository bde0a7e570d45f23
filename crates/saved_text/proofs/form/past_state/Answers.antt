-- `saved_text::form::past_state` meets its contract: the trail's lines, and then the chooser's.
use Rattle.saved_text.specs.FormLaws.{state_bad, state_past, head_past}
use Rattle.saved_text.proofs.form.past_state.Goals as goal

pub returns-in_err-trail : goal.returns-in_err-trail
returns-in_err-trail c = rw c.from_residual.ensures (state_bad _ (rw c.in_err-trail.was at c.trail_rows.ensures))

pub returns-in_err-heap-in-Heap : goal.returns-in_err-heap-in-Heap
returns-in_err-heap-in-Heap c = rw (c.from_residual-in_err-heap-in-Heap.ensures, c.in-Heap.is) (state_past _ (rw c.in_ok-trail.was at c.trail_rows.ensures) (head_past (rw c.in_err-heap-in-Heap.was at c.heap_rows.ensures)))

pub returns-in_err-list-in-List : goal.returns-in_err-list-in-List
returns-in_err-list-in-List c = rw (c.from_residual-in_err-list-in-List.ensures, c.in-List.is) (state_past _ (rw c.in_ok-trail.was at c.trail_rows.ensures) (head_past (rw c.in_err-list-in-List.was at c.list_rows.ensures)))

pub returns-in_ok-heap-in-Heap : goal.returns-in_ok-heap-in-Heap
returns-in_ok-heap-in-Heap c = rw c.in-Heap.is (state_past _ (rw c.in_ok-trail.was at c.trail_rows.ensures) (head_past (rw c.in_ok-heap-in-Heap.was at c.heap_rows.ensures)))

pub returns-in_ok-list-in-List : goal.returns-in_ok-list-in-List
returns-in_ok-list-in-List c = rw c.in-List.is (state_past _ (rw c.in_ok-trail.was at c.trail_rows.ensures) (head_past (rw c.in_ok-list-in-List.was at c.list_rows.ensures)))
