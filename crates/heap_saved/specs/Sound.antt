-- Heap mode owes what reading and writing ask: its tests pass exactly where the memory that a text says is a good session. Assumes nothing.
use Rattle.std.specs.Prelude.{ℕ, ◌≤◌, ◌≡◌, refl, ◌↔◌, true, ◌&&◌, leb, List, length}
use Rattle.std.proofs.Common.{leb-true, le-leb}
use Rattle.laws.specs.Tests.{and_left, and_right, and_both}
use Rattle.lit.specs.Numbers.{max_vars}
use Rattle.trail.specs.Trail.{Trail}
use Rattle.vsids.specs.Vsids.{Vsids}
use Rattle.book.specs.Saved.{forgot}
use Rattle.heap_session.specs.Good.{GoodSession}
use Rattle.heap_session.specs.Check.{good_checked}
use Rattle.heap_entry.specs.Checked.{sized_heap, state_right}
use Rattle.forms.specs.Forms.{vsids}
use Rattle.saved_text.specs.Saved.{Saved, WellFormed}
use Rattle.saved_state.specs.Written.{heap_rows}
use Rattle.saved_state.specs.Said.{lits_said, ends_said, row, trail_said, heap_said}
use Rattle.saved_state.specs.OfTrail.{trail_lengths_lem, forgot_good}
use Rattle.saved_state.specs.OfHeap.{heap_again, heap_formed, activity_long, heap_long, indices_long, decision_long, doubles, double_step, heap_back}
use Rattle.saved_state.specs.Judged.{ClausesSaid}
use Rattle.saved_state.specs.Sound.{state_test, Sound}
use Rattle.heap_saved.specs.Reader.{heap_reader, Savable}

-- for a text of heap mode with few enough variables and good clauses
pub tests_right : (s : Saved) → WellFormed s → s.opening.mode ≡ vsids → s.opening.vars ≤ max_vars → ClausesSaid s
    → (state_test heap_reader s ≡ true) ↔ GoodSession s.opening.vars (length (ends_said s)) (lits_said s) (ends_said s) (trail_said s) (heap_said s)
tests_right s w mode small clauses =
    let n = s.opening.vars in
    let codes = leb (length s.codes) n in
    let members = leb (length (row s 3)) n in (
      λ e. (let room = and_left (codes && members) _ e in
          let sized = trail_lengths_lem s w (leb-true _ _ (and_left codes members room)) in
          let long = sized_heap n (heap_said s) (record {
            activity_long = activity_long s w mode;
            heap_long = heap_long s w mode (leb-true _ _ (and_right codes members room));
            indices_long = indices_long s w mode;
            decision_long = decision_long s w mode;
          }) in
          (state_right n (length (ends_said s)) (lits_said s) (ends_said s) (trail_said s) (heap_said s) small refl clauses sized long (doubles s w mode)).0 (and_right (codes && members) _ e)),
      λ g. and_both (and_both (le-leb _ _ g.trail.len_in) (le-leb _ _ g.heap.inverse.room.fits)) (good_checked (trail_said s) (heap_said s) g),
    )

-- a session that was read back is good
pub forgets : {n m : ℕ} {lits ends : List ℕ} {t : Trail} {h : Vsids} → GoodSession n m lits ends t h → GoodSession n m lits ends (forgot t) h
unfolding forgot
forgets g = record { small = g.small; count = g.count; clauses = g.clauses; trail = forgot_good g.trail; heap = g.heap }

unfoldable pub heap_sound : Sound heap_reader
heap_sound = record {
  rows = heap_rows;
  Good = Savable;
  small = λ n x g. g.0.small;
  clauses = λ n x g. g.0.clauses;
  trail = λ n x g. g.0.trail;
  forgets = λ n x g. (forgets g.0, g.1);
  formed = λ n x g. heap_formed g.0.heap g.1;
  again = λ n x g. heap_again g.0.heap g.1 x.0 x.1 x.2;
  back = λ s w mode g. heap_back s w mode g.0.heap;
  right = λ s w mode small clauses. (let r = tests_right s w mode small clauses in (λ e. (r.0 e, double_step s w mode), λ g. r.1 g.0));
}
