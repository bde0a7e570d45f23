-- The eleven calls of a session, and what a log holds of each: the call and its answer.
use Rattle.std.specs.Prelude.{ℕ, Bool, List, eqb, Float}
use Rattle.std.proofs.Math.Option.{Option}

-- bump, insert, switch off and bump reason take a variable, decide a polarity, enqueue a code and a reason, learn-unit a code,
-- going back a level, and a group its variables
pub data Call : Type 0 where
  bump insert switch_off decide learn_unit go_back bump_reason : ℕ → Call
  decay : Call
  set_decay : Float → Call
  enqueue : ℕ → ℕ → Call
  group : List ℕ → Call

-- 'Every call returns 0 with its reply, or the first of these with reply NONE.' The reply `none` is that NONE, in a sheet `-`
pub record Line : Type 0 where
  pub call : Call
  pub status : ℕ
  pub reply : Option ℕ

abbrev pub accepted : Line → Bool
accepted l = eqb l.status 0
