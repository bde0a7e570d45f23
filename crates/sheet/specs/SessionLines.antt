-- The lines of a session, in any mode: what an answered line does to the buffer and the place. Assumes nothing.
use Rattle.std.specs.Prelude.{ℕ, ◌≡◌}
use mathlib.Core.List.{List}
use Rattle.std.proofs.Math.ListN.{length}
use Rattle.book.specs.Chooser.{Operations}
use Rattle.book.specs.Session.{mapped, Session}
use Rattle.book.specs.Read.{called}
use Rattle.forms.specs.Forms.{call_in}
use Rattle.sheet.specs.declared.Place.{Place}
use Rattle.sheet.specs.Stages.{Stage, meets, turn}
use Rattle.sheet.specs.Running.{Room, SameEnd}

-- Lines of a session are answered, from s on up to u: there is room for the rest, u is good, and the run comes to the same end from there.
pub record Along {S : Type 0} (Good : S → Type 0) (stage : S → Stage) (sheet : List ℕ) (p : Place) (s : S) (out : List ℕ) (q : Place) (u : S) (out' : List ℕ) : Type 0 where
  pub room : Room sheet q out'
  pub good : Good u
  pub end : SameEnd sheet p (stage s) out q (stage u) out'
  pub out_same : length out' ≡ length out

-- A mode: its sessions, and what they are as stages.
pub record Mode {n m : ℕ} {O : Operations} (stage : Session n m O → Stage) : Type 0 where
  pub meets_it : (s : Session n m O) (line : List ℕ) → meets (stage s) line ≡ stage s
  pub its_turn : (s : Session n m O) (line : List ℕ) → turn (stage s) line ≡ mapped stage (called n m O s (call_in line))
