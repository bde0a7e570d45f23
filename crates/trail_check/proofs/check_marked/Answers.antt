-- `trail_check::check_marked` meets its contract: once the places pass, the marks say which variables the trail holds.
use Rattle.std.proofs.Common.{sym, ◌∙◌}
use Rattle.std.proofs.Math.Path as path
use Rattle.trail_check.proofs.Marks.{covered_held}
use Rattle.trail_check.proofs.check_marked.Goals as goal

pub returns-then-places_ok : goal.returns-then-places_ok
returns-then-places_ok c =
    let p = c.if-places_ok.ensures in
    rw (sym p.value) (c.covered_ok.ensures ∙ covered_held _ (p.marked_2 path.refl))
