-- `trail_check::places_ok` meets its contract: the places passed so far pass the test, and their variables are marked.
use Rattle.std.proofs.Common.{◌≡◌, sym, ◌∙◌, arith, rules}
use Rattle.laws.specs.Every.{every, every_not}
use Rattle.trail_check.specs.Check.{places_ok}
use Rattle.trail_check.proofs.Marks.{at_place, mark_place}
use Rattle.trail_check.proofs.places_ok.Goals as goal

pub loop-i-init : goal.loop-i-init
unfolding every
loop-i-init c = record { passed = search rules; marked = c.requires.marked }

pub returns-then-not-literal_ok-clause-value : goal.returns-then-not-literal_ok-clause-value
unfolding places_ok
returns-then-not-literal_ok-clause-value c = sym (every_not _ _ c.loop-i.i (omega arith) (sym (c.if-not-literal_ok.ensures ∙ at_place c.loop-i.invariant)))

pub loop-i-preserved : goal.loop-i-preserved
loop-i-preserved c = rw c.index.ensures (mark_place c.loop-i.invariant (sym (c.if-not-literal_ok.ensures ∙ at_place c.loop-i.invariant)))

pub returns-clause-value : goal.returns-clause-value
unfolding places_ok
returns-clause-value c = let e : c.loop-i.i ≡ c.args.t.at.len = omega arith in rw e at (sym c.loop-i.invariant.passed)
