-- `saved_desk::opening::refused_first` meets its contract: the answer is all that is written.
use Prim.Native.Nat.{ℕ}
use mathlib.Core.Path.{refl, ap}
use mathlib.Core.Option.{none}
use native.Mathlib.Omega.{arith}
use Rattle.std.specs.Prelude.{Ok}
use Rattle.lit.specs.Refusals.{refusal_number}
use Rattle.forms.specs.Text.{written}
use Rattle.sheet.proofs.Bounds.{answer_short}
use Rattle.saved_desk.proofs.Small.{refusal_small}
use Rattle.saved_desk.proofs.opening.refused_first.Goals as goal

pub answer-requires : goal.answer-requires
answer-requires c =
    omega (arith, answer_short 1 (refusal_number c.args.e) none (omega arith) (refusal_small c.args.e), c.requires)

pub returns : goal.returns
unfolding written
returns c text = let w = c.answer.ensures in (ap (λ (k : ℕ). Ok (record { answers = k; text = 0 })) (omega (arith, w.place)), w.buffer, refl)
