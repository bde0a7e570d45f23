-- `session::on_trail::unit_refusal` meets its contract: the variables assigned at level 0 are those that stay assigned when the trail goes back.
use Rattle.std.proofs.Common.{◌<◌, ◌∙◌, sym, arith, lt-ltb}
use Rattle.lit.specs.Lits.{index}
use Rattle.trail.specs.Unit.{stays_assigned}
use Rattle.book.specs.Session.{need}
use Rattle.session.specs.OnTrail.{learn_unit_on}
use Rattle.session.proofs.on_trail.unit_refusal.Goals as goal
use Rattle.session.proofs.on_trail.unit_refusal.Goals.{Else-index-n}

-- the variable is one of n
within : (c : Else-index-n) → let a = c.args in index a.code < a.n
within c = omega (arith, c.if-index-n.false, c.index.ensures)

pub returns-then-at_level_zero : goal.returns-then-at_level_zero
unfolding learn_unit_on need
returns-then-at_level_zero c m g =
    let h = within (goal.at.returns-then-at_level_zero c).Else-index-n in
    rw (lt-ltb _ _ h, stays_assigned g _ h ∙ sym c.at_level_zero.ensures ∙ c.if-at_level_zero.true)

pub returns : goal.returns
unfolding learn_unit_on need
returns c m g =
    let h = within (goal.at.returns c).Else-index-n in
    rw (lt-ltb _ _ h, stays_assigned g _ h ∙ sym c.at_level_zero.ensures ∙ c.if-at_level_zero.false)
