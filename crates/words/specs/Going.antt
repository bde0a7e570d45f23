-- The calls in words, one after another: what each leaves to be done. Assumes nothing.
use Prim.Native.Nat.{ℕ, zero, suc, ◌+◌, ◌*◌, ◌-◌, ◌≤◌}
use Rattle.std.specs.Prelude.{◌≡◌, get_or, set}
use Rattle.std.proofs.Math.Option.{Option}
use mathlib.Core.List.{List, [], ◌∷◌, ◌++◌}
use Rattle.std.proofs.Math.ListN.{length, take}
use Rattle.book.specs.Calls.{Call}
use Rattle.book.specs.Chooser.{Operations}
use Rattle.book.specs.Session.{status, reply, leaves, Session}
use Rattle.book.specs.Read.{called}
use Rattle.session.specs.Entry.{reply_number}
use Rattle.words.specs.Words.{word_call}

-- the i-th call, and k calls from the i-th on
abbrev pub call_at : List ℕ → List ℕ → ℕ → Option Call
call_at vars ws i = word_call vars (get_or ws (i * 3) 0) (get_or ws (i * 3 + 1) 0) (get_or ws (i * 3 + 2) 0)

unfoldable pub calls_from : List ℕ → List ℕ → ℕ → ℕ → List (Option Call)
calls_from vars ws i zero = []
calls_from vars ws i (suc k) = call_at vars ws i ∷ calls_from vars ws (i + 1) k

module _ (n m : ℕ) (O : Operations) where
  -- the session that calls leave, and their answers
  unfoldable pub ends : Session n m O → List (Option Call) → Session n m O
  ends s [] = s
  ends s (c ∷ cs) = ends (leaves s (called n m O s c)) cs

  unfoldable pub tells : Session n m O → List (Option Call) → List ℕ
  tells s [] = []
  tells s (c ∷ cs) = let x = called n m O s c in status x ∷ (reply_number (reply x) ∷ tells (leaves s x) cs)

  -- one call is done and answered
  pub record Told (c : Option Call) (i : ℕ) (s : Session n m O) (out : List ℕ) (u : Session n m O) (out' : List ℕ) : Type 0 where
    pub session : u ≡ leaves s (called n m O s c)
    pub wrote : out' ≡ set (set out (i * 2) (status (called n m O s c))) (i * 2 + 1) (reply_number (reply (called n m O s c)))

module _ (n m : ℕ) (O : Operations) where
  -- Of k calls i are done and answered, from s on up to u.
  pub record Part (Good : Session n m O → Type 0) (vars ws : List ℕ) (k : ℕ) (s : Session n m O) (i : ℕ) (u : Session n m O) (out : List ℕ) : Type 0 where
    pub within : i ≤ k
    pub good : Good u
    pub long : length out ≡ k * 2
    pub session : ends n m O s (calls_from vars ws 0 k) ≡ ends n m O u (calls_from vars ws i (k - i))
    pub answers : tells n m O s (calls_from vars ws 0 k) ≡ take (i * 2) out ++ tells n m O u (calls_from vars ws i (k - i))
