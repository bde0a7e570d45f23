-- Activities and the comparison by them: it has the laws of `Order`, a bump keeps the bounds, and only the bumped variable can come further ahead.
-- Assumes nothing.
use Rattle.std.specs.Prelude.{◌≡◌, ℕ}
use Rattle.heap.specs.Members.{Raises}
use Rattle.vsids.specs.Vsids.{Vsids, with_scores, before}
use Rattle.vsids.specs.Good.{Scores}

-- after a bump of v, before v moves: the bounds hold, and only v may come further ahead
pub record Bumped (n v : ℕ) (h t : Vsids) : Type 0 where
  pub scores : Scores n t.activity t.step
  pub raises : Raises (before h) (before t) n v
  pub same : t ≡ with_scores t.activity t.step h
