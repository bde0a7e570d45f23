use Prim.Native.Nat.{◌-◌}
use Rattle.saved_text.specs.FormLaws.{Clausing}
use lib.ListN.{length}
use mathlib.Core.Path.{◌≡◌}
use Rattle.saved_text.proofs.form.clause_section.Given as goal

abbrev pub invariant-loop-at : goal.invariant-loop-at
invariant-loop-at l = (length l.lits ≡ length l.initial.lits) × (length l.ends ≡ length l.initial.ends) × Clausing l.text l.from l.lits l.ends l.count l.literals l.greatest l.at

abbrev pub decreases-loop-at : goal.decreases-loop-at
decreases-loop-at l = length l.text - l.at
