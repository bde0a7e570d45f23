-- Calls as they were read, `none` where something has not the form of a call: the calls among them, one of them on a session, and what the log
-- of their run says.
use Rattle.std.specs.Prelude.{ℕ, ◌≡◌}
use Rattle.std.proofs.Math.Path.{refl, sym}
use Rattle.std.proofs.Common.{◌∙◌}
use Rattle.std.proofs.Math.Option.{Option, none, some}
use mathlib.Core.List.{List, [], ◌∷◌, ◌++◌, reverse, append-nil, append_assoc, reverse-cons}
use Rattle.lit.specs.Numbers.{bad_line}
use Rattle.book.specs.Calls.{Call, Line}
use Rattle.book.specs.Chooser.{Operations}
use Rattle.book.specs.Session.{Result, refuse, leaves, log_line, Session, call}
use Rattle.book.specs.Claim.{Past, log, Run, starting_with, step, run}

-- of what was read, the calls
unfoldable pub calls_of : List (Option Call) → List Call
calls_of [] = []
calls_of (none ∷ cs) = calls_of cs
calls_of (some c ∷ cs) = c ∷ calls_of cs

module _ (n m : ℕ) (O : Operations) where
  -- a call on a session; 3 where nothing has the form of one
  unfoldable pub called : Session n m O → Option Call → Result (Session n m O)
  called s none = refuse bad_line
  called s (some c) = call n m O s c

  -- what a log holds of a call, and of the calls among those that were read, the oldest first
  abbrev pub log_one : Run n m O → Call → Line
  log_one r c = log_line c (call n m O r.now c)

  unfoldable pub log_lines : Run n m O → List (Option Call) → List Line
  log_lines r [] = []
  log_lines r (none ∷ cs) = log_lines r cs
  log_lines r (some c ∷ cs) = log_one r c ∷ log_lines (step n m O r c) cs

  pub logs : (cs : List (Option Call)) (r : Run n m O) → reverse (log (run n m O r (calls_of cs)).past) ≡ reverse (log r.past) ++ log_lines r cs
  unfolding calls_of run step log_lines
  logs [] r = sym (append-nil (reverse (log r.past)))
  logs (none ∷ cs) r = logs cs r
  logs (some c ∷ cs) r =
      let more = log_lines (step n m O r c) cs in
      logs cs (step n m O r c) ∙ (rw (reverse-cons (log_one r c) (log r.past)) (append_assoc (reverse (log r.past)) (log_one r c ∷ []) more))

  -- a run that had a past is the run from its session, with that past behind it
  abbrev pub behind : Run n m O → Past → Run n m O
  behind r past = record { now = r.now; past = r.past ++ past }

  run_behind : (cs : List Call) (r : Run n m O) (past : Past) → run n m O (behind r past) cs ≡ behind (run n m O r cs) past
  unfolding run step
  run_behind [] r past = refl
  run_behind (c ∷ cs) r past = run_behind cs (step n m O r c) past

  pub run_past : (cs : List Call) (r : Run n m O) → run n m O r cs ≡ behind (run n m O (starting_with n m O r.now) cs) r.past
  run_past cs r = run_behind cs (starting_with n m O r.now) r.past

-- what every call keeps, they keep
module _ {n m : ℕ} {O : Operations} (Good : Session n m O → Type 0) (s : Session n m O) where
  pub called_kept : Good s → ((c : Call) → Good (leaves s (call n m O s c))) → (c : Option Call) → Good (leaves s (called n m O s c))
  unfolding called
  called_kept good f none = good
  called_kept good f (some c) = f c
