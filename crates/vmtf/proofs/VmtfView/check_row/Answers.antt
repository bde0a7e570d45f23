-- The loop's invariant: checking on from curr gives the goal.
use Prim.Native.Nat.{◌-◌}
use mathlib.Core.Path.{◌≡◌, sym, ◌∙◌}
use native.Mathlib.Omega.{arith}
use lib.ListN.{length}
use Rattle.vmtf.specs.Laws.{stands_in, check_step, check_fails, check_end}
use Rattle.vmtf.proofs.VmtfView.check_row.Goals as goal

pub loop-init : goal.loop-init
loop-init c = let z : length c.args.self.next.now - 0 ≡ length c.args.self.next.now = omega arith in rw z

pub returns-then-not-stands : goal.returns-then-not-stands
returns-then-not-stands c = sym (sym c.loop.invariant ∙ check_fails _ _ _ _ _ _ (omega arith) (sym c.stands.ensures ∙ c.if-not-stands.true))

pub bounds-self-curr : goal.bounds-self-curr
bounds-self-curr c = omega (arith, stands_in _ _ _ _ (sym c.stands.ensures ∙ c.if-not-stands.false), c.requires.1)

pub bounds-self-curr-in-loop : goal.bounds-self-curr-in-loop
bounds-self-curr-in-loop c = stands_in _ _ _ _ (sym c.stands.ensures ∙ c.if-not-stands.false)

pub loop-preserved : goal.loop-preserved
loop-preserved c = sym (check_step _ _ _ _ _ _ (omega arith) (sym c.stands.ensures ∙ c.if-not-stands.false)) ∙ c.loop.invariant

pub returns : goal.returns
returns c = sym (sym c.loop.invariant ∙ check_end _ _ _ _ _ _ (omega arith))
