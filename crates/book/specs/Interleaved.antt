-- The first loop of `backtrack_to` as the source has it: after each `backstep` its variable goes to `insert` at once. Moving the trail first
-- and offering the variables then, as `went_back` does, comes to the same. proofs/Going.antt proves it.
use Rattle.std.specs.Prelude.{ℕ, zero, suc, ◌≤◌, ◌≡◌, length, get_or}
use Rattle.trail.specs.Trail.{last, backstep, backsteps, how_many, undone}
use Rattle.book.specs.Chooser.{Operations}
use Rattle.book.specs.Session.{Session, offer_all}

module _ (n m : ℕ) (O : Operations) where
  -- k turns of the loop
  unfoldable pub interleaved : ℕ → Session n m O → Session n m O
  interleaved zero s = s
  interleaved (suc k) s = interleaved k (record { trail = backstep s.trail; chooser = O.offer (last s.trail) s.chooser })

  -- as many turns as a going back to l takes
  abbrev pub Apart : Type 0
  Apart = (l : ℕ) (s : Session n m O) → get_or s.trail.opened l 0 ≤ s.trail.len → s.trail.len ≤ length s.trail.trail
      → interleaved (how_many l s.trail) s
      ≡ record { trail = backsteps (how_many l s.trail) s.trail; chooser = offer_all n m O (undone l s.trail) s.chooser }
