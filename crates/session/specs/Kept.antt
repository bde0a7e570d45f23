-- From a session whose trail is good and whose chooser is good for its values, every call leaves such a session, refused or not. In either
-- mode, by the laws of its chooser.
use Rattle.std.specs.Prelude.{ℕ, Bool}
use Rattle.trail.specs.Good.{GoodTrail}
use Rattle.book.specs.Chooser.{Operations, Chooser}
use Rattle.book.specs.Session.{Session}

module _ (n m : ℕ) (O : Operations) (C : Chooser n m O) where
  -- the trail is good, and for its values and some switches the chooser
  pub record Steady (s : Session n m O) : Type 0 where
    pub trail : GoodTrail n m s.trail
    pub on : ℕ → Bool
    pub ok : C.ok s.trail.values on s.chooser
