-- What a fresh session and going back are in list mode.
use Rattle.std.specs.Prelude.{ℕ, ◌≤◌, ◌≡◌, Bool, true, false, cond, ltb}
use Rattle.std.proofs.Math.Path.{refl, ap}
use mathlib.Core.List.{List, [], ◌∷◌}
use Rattle.std.proofs.Common.{arith}
use Rattle.lit.specs.Numbers.{max_vars}
use Rattle.trail.specs.Trail.{backtrack_safe}
use Rattle.trail.specs.Laws.{fresh_good}
use Rattle.vmtf.specs.Vmtf.{Vmtf}
use Rattle.vmtf.specs.Fresh.{new_good}
use Rattle.choosers.specs.List.{list_ops}
use Rattle.book.specs.Session.{Session, fresh, offer_all, went_back}
use Rattle.list_session.specs.Good.{GoodSession}

-- going back in list mode changes the trail alone: what is offered to the list leaves it as it is
module _ (n m : ℕ) (lits : List ℕ) where
  offered : (vs : List ℕ) (l : Vmtf) → offer_all n m (list_ops n lits) vs l ≡ l
  unfolding offer_all
  offered [] l = refl
  offered (v ∷ vs) l = offered vs l

  same : (b : Bool) (vs : List ℕ) (l : Vmtf) → cond b (offer_all n m (list_ops n lits) vs l) l ≡ l
  same true vs l = offered vs l
  same false vs l = refl

  pub went : (l : ℕ) (s : Session n m (list_ops n lits)) → went_back n m (list_ops n lits) l s ≡ record { trail = backtrack_safe l s.trail; chooser = s.chooser }
  unfolding went_back
  went l s = ap (λ (c : Vmtf). record { trail = backtrack_safe l s.trail; chooser = c }) (same (ltb l s.trail.level) _ s.chooser)

module _ (n m : ℕ) (lits : List ℕ) where
  -- the session is good
  abbrev pub IsGood : Session n m (list_ops n lits) → Type 0
  IsGood s = GoodSession n m s.trail s.chooser

  pub fresh_good_session : n ≤ max_vars → IsGood (fresh n m (list_ops n lits))
  unfolding fresh
  fresh_good_session small = record { small = small; trail = fresh_good n m; list = (_, new_good n lits (omega arith)) }
