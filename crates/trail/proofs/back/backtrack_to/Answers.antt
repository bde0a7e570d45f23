-- `trail::back::backtrack_to` meets its contract: its two loops and its last line are the definition's.
use mathlib.Core.Path.{ap, ◌∙◌}
use native.Mathlib.Omega.{arith}
use Rattle.trail.specs.Trail.{Trail, rewind}
use Rattle.trail.proofs.Going.{backsteps_level, went_back}
use Rattle.trail.proofs.back.backtrack_to.Goals as goal

pub close_levels-u-requires : goal.close_levels-u-requires
close_levels-u-requires c =
    let e = ap (λ (x : Trail). x.level) c.backsteps-t.ensures ∙ backsteps_level _ _ in
    (rw e (omega (arith, c.requires.levelled.room)), rw e (omega (arith, c.requires.level_lt_level)))

pub returns : goal.returns
unfolding rewind
returns c = went_back _ _ _ _ c.backsteps-t.ensures (c.close_levels-u.ensures _ _ _ _)
