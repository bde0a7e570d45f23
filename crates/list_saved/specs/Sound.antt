-- List mode owes what reading and writing ask: its tests pass exactly where the memory that a text says is a good session. Assumes nothing.
use Rattle.std.specs.Prelude.{◌≤◌, ◌≡◌, ◌↔◌, true, ◌&&◌, leb, length}
use Rattle.std.proofs.Common.{arith, leb-true, le-leb}
use Rattle.laws.specs.Tests.{and_left, and_right, and_both}
use Rattle.lit.specs.Numbers.{max_vars}
use Rattle.list_session.specs.Good.{GoodSession}
use Rattle.list_session.specs.Check.{checked_good, good_checked}
use Rattle.forms.specs.Forms.{vmtf}
use Rattle.saved_text.specs.Saved.{Saved, WellFormed}
use Rattle.saved_state.specs.Written.{list_rows}
use Rattle.saved_state.specs.Said.{ends_said, row, trail_said, list_said}
use Rattle.saved_state.specs.OfTrail.{trail_lengths_lem, forgot_good}
use Rattle.saved_state.specs.OfList.{list_again, list_formed, next_long, prev_long, ts_long, long_stamp, order_long, list_back}
use Rattle.saved_state.specs.Sound.{state_test, Sound}
use Rattle.list_saved.specs.Reader.{list_reader, Savable}

-- for a text of list mode with few enough variables
pub tests_right : (s : Saved) → WellFormed s → s.opening.mode ≡ vmtf → s.opening.vars ≤ max_vars
    → (state_test list_reader s ≡ true) ↔ GoodSession s.opening.vars (length (ends_said s)) (trail_said s) (list_said s)
tests_right s w mode small =
    let n = s.opening.vars in
    let codes = leb (length s.codes) n in
    let order = leb (length (row s 3)) n in (
      λ e. (let sized = trail_lengths_lem s w (leb-true _ _ (and_left codes order (and_left (codes && order) _ e))) in
          checked_good (length (ends_said s)) (trail_said s) (list_said s) small sized (next_long s w mode) (prev_long s w mode) (ts_long s w mode) (and_right (codes && order) _ e)),
      λ g. and_both (and_both (le-leb _ _ g.trail.len_in) (le-leb (length (row s 3)) n (omega (arith, order_long s w mode)))) (good_checked (trail_said s) (list_said s) g),
    )

unfoldable pub list_sound : Sound list_reader
list_sound = record {
  rows = list_rows;
  Good = Savable;
  small = λ n x g. g.1.small;
  clauses = λ n x g. g.0;
  trail = λ n x g. g.1.trail;
  forgets = λ n x g. (g.0, record { small = g.1.small; trail = forgot_good g.1.trail; list = g.1.list }, g.2);
  formed = λ n x g. list_formed g.1.list.1 g.1.small g.2;
  again = λ n x g. list_again g.1.list.1 x.0 x.1 x.2;
  back = λ s w mode g. list_back s w mode g.1.list.1;
  right = λ s w mode small clauses. (let r = tests_right s w mode small in (λ e. (clauses, r.0 e, long_stamp s w mode), λ g. r.1 g.1));
}
