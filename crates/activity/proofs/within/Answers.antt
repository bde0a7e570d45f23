-- `within` meets its contract: what is at most hi is no NaN, and then it is upright where its sign is positive.
use Rattle.std.proofs.Common.{◌≡◌, refl, true, not, ◌∙◌}
use Rattle.std.proofs.lemmas.Bool.{false≢true}
use Rattle.std.specs.Float.{Float, nan, inf, fin, is_sign_negative}
use Rattle.std.specs.Float.Ieee.{le}
use Rattle.activity.specs.Step.{upright, within}
use Rattle.activity.proofs.within.Goals as goal

positive : (x hi : Float) → le x hi ≡ true → not (is_sign_negative x) ≡ upright x
unfolding upright is_sign_negative le
positive nan hi e = absurd (false≢true e)
positive (inf s) hi e = refl
positive (fin s m d) hi e = refl

pub returns-then-x-hi : goal.returns-then-x-hi
unfolding within
returns-then-x-hi c = rw c.if-x-hi.true (c.is_sign_positive.ensures ∙ positive _ _ c.if-x-hi.true)

pub returns-else-x-hi : goal.returns-else-x-hi
unfolding within
returns-else-x-hi c = rw c.if-x-hi.false
