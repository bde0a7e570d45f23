-- Two sessions that differ at most in levels of unassigned variables, as a session and what it is read back as do. No call tells them apart.
-- proofs/Calls.antt proves it: `same_records`, `read_same`, `call_same`, `runs_same`, `read_answers`; `heap_read_good` and `list_read_good` are in proofs/Modes.antt.
use Rattle.std.specs.Prelude.{ℕ, ◌≡◌, List, length}
use Rattle.trail.specs.Trail.{Trail}
use Rattle.trail.specs.Good.{GoodTrail}
use Rattle.book.specs.Calls.{Call}
use Rattle.book.specs.Chooser.{Operations}
use Rattle.book.specs.Session.{Result, status, reply, leaves, Session, call}
use Rattle.book.specs.Claim.{log, records_of, Run, starting_with, run}
use Rattle.book.specs.Saved.{forgot, forgotten}

-- t and u are read back as one, and have as many levels
pub record SameTrail (t u : Trail) : Type 0 where
  pub read : forgot t ≡ forgot u
  pub long : length t.levels ≡ length u.levels

pub record Same {n m : ℕ} {O : Operations} (s t : Session n m O) : Type 0 where
  pub trail : SameTrail s.trail t.trail
  pub chooser : s.chooser ≡ t.chooser

-- calls on s and t come to x and y: the same status and the same reply, and the sessions that they leave are the same
pub record SameResult {n m : ℕ} {O : Operations} (s t : Session n m O) (x y : Result (Session n m O)) : Type 0 where
  pub same_status : status x ≡ status y
  pub same_reply : reply x ≡ reply y
  pub same_left : Same (leaves s x) (leaves t y)

-- two runs have one log, and end the same
pub record Alike {n m : ℕ} {O : Operations} (r q : Run n m O) : Type 0 where
  pub answers : log r.past ≡ log q.past
  pub ends : Same r.now q.now

module _ (n m : ℕ) (O : Operations) where
  -- the same sessions have equal records
  abbrev pub SameRecords : Type 0
  SameRecords = (s t : Session n m O) → Same s t → records_of s.trail ≡ records_of t.trail

  -- what a session is read back as is the same, where each variable has its level
  abbrev pub ReadSame : Type 0
  ReadSame = (s : Session n m O) → length s.trail.values ≡ length s.trail.levels → Same s (forgotten s)

  -- and it is good where the session was
  abbrev pub ReadGood : (Session n m O → Type 0) → Type 0
  ReadGood Good = (s : Session n m O) → Good s → Good (forgotten s)

  -- no call reads the level of an unassigned variable, whatever the chooser, and of any sessions, good or not
  abbrev pub CallSame : Type 0
  CallSame = (s t : Session n m O) (c : Call) → Same s t → SameResult s t (call n m O s c) (call n m O t c)

  -- so no list of calls does
  abbrev pub RunsSame : Type 0
  RunsSame = (s t : Session n m O) → Same s t → (calls : List Call) → Alike (run n m O (starting_with n m O s) calls) (run n m O (starting_with n m O t) calls)

  -- 'A read session gives the answers that the written one would have given'
  abbrev pub ReadAnswers : Type 0
  ReadAnswers = (s : Session n m O) → GoodTrail n m s.trail → (calls : List Call)
      → Alike (run n m O (starting_with n m O s) calls) (run n m O (starting_with n m O (forgotten s)) calls)
