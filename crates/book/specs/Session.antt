-- A session: a trail and a chooser, and the eleven calls on it, with the refusals of document 01 that look at a call's arguments.
use Rattle.std.specs.Prelude.{ℕ, ◌-◌, Bool, true, false, cond, not, List, [], ◌∷◌, get_or, ltb}
use Rattle.std.proofs.Math.Option.{Option, none, some}
use Rattle.lit.specs.Numbers.{NONE, no_variable, bad_polarity, bad_reason, assigned, bad_decay, large_step, past_open}
use Rattle.lit.specs.Lits.{index, is_assigned}
use Rattle.activity.specs.Step.{good_decay}
use Rattle.trail.specs.Trail.{Trail, fresh_trail, enq_assignment, enq_decision, backtrack_safe, undone}
use Rattle.book.specs.Calls.{Call, bump, decay, set_decay, insert, switch_off, decide, enqueue, learn_unit, go_back, bump_reason, group, Line}
use Rattle.book.specs.Chooser.{bump_variable, decay_var_inc, set_var_decay, bump_reason_literals, bump_vec_of_vars, below, good_reason, Next, chose, nothing, stuck, Operations}

-- 'Every call returns 0 with its reply, or the first of these with reply NONE; then state and buffers are unchanged'
pub data Result (S : Type 0) : Type 0 where
  done : Option ℕ → S → Result S
  refuse : ℕ → Result S

abbrev pub status : {S : Type 0} → Result S → ℕ
status (done r s) = 0
status (refuse k) = k

abbrev pub reply : {S : Type 0} → Result S → Option ℕ
reply (done r s) = r
reply (refuse k) = none

-- the session that a call on s leaves
abbrev pub leaves : {S : Type 0} → S → Result S → S
leaves s (done r u) = u
leaves s (refuse k) = s

-- what a log holds of a call that came to x
abbrev pub log_line : {S : Type 0} → Call → Result S → Line
log_line c x = record { call = c; status = status x; reply = reply x }

-- the same result, with f of the session that is left
abbrev pub mapped : {S T : Type 0} → (S → T) → Result S → Result T
mapped f (done r s) = done r (f s)
mapped f (refuse k) = refuse k

-- refusal k, unless the test passes
unfoldable pub need : {S : Type 0} → Bool → ℕ → Result S → Result S
need true k x = x
need false k x = refuse k

-- n variables, m clauses
module _ (n m : ℕ) (O : Operations) where
  pub record Session : Type 0 where
    pub trail : Trail
    pub chooser : O.State

  unfoldable pub fresh : Session
  fresh = record { trail = fresh_trail n; chooser = O.start }

  -- 'Undone variables are offered to `insert`, last first.'
  unfoldable pub offer_all : List ℕ → O.State → O.State
  offer_all [] c = c
  offer_all (v ∷ vs) c = offer_all vs (O.offer v c)

  -- 'Going back is `backtrack_safe`: a level not below the present one changes nothing.'
  unfoldable pub went_back : ℕ → Session → Session
  went_back l s = record {
    trail = backtrack_safe l s.trail;
    chooser = cond (ltb l s.trail.level) (offer_all (undone l s.trail) s.chooser) s.chooser;
  }

  unfoldable pub enqueued : ℕ → ℕ → Session → Session
  enqueued code reason s = record { trail = enq_assignment code reason s.trail; chooser = s.chooser }

  abbrev pub with_chooser : O.State → Session → Session
  with_chooser c s = record { trail = s.trail; chooser = c }

  unfoldable pub tuned : Session → Option O.State → Result Session
  tuned s none = refuse large_step
  tuned s (some c) = done none (with_chooser c s)

  -- 'Decide is `get_next` followed at once by `enq_decision`.'
  unfoldable pub decided : ℕ → Session → Next O.State → Result Session
  decided p s (chose v c) = done (some v) (record { trail = enq_decision v p s.trail; chooser = c })
  decided p s (nothing c) = done none (with_chooser c s)
  decided p s stuck = refuse past_open

  -- in either mode the arguments are tested first, in the order of document 01's list
  unfoldable pub call : Session → Call → Result Session
  call s (bump v) = need (ltb v n) no_variable (tuned s (O.tune (bump_variable v) s.chooser))
  call s decay = tuned s (O.tune decay_var_inc s.chooser)
  call s (set_decay d) = need (good_decay d) bad_decay (tuned s (O.tune (set_var_decay d) s.chooser))
  call s (insert v) = need (ltb v n) no_variable (done none (with_chooser (O.insert v s.chooser) s))
  call s (switch_off v) = need (ltb v n) no_variable (done none (with_chooser (O.turn_off v s.chooser) s))
  call s (decide p) = need (ltb p 2) bad_polarity (decided p s (O.get_next s.trail.values s.chooser))
  call s (enqueue code reason) =
      need (ltb (index code) n) no_variable (
      need (good_reason m reason) bad_reason (
      need (not (is_assigned s.trail.values (index code))) assigned (
      done none (enqueued code reason s))))
  -- 'Learn-unit goes back to level 0, then enqueues with reason NONE.'
  call s (learn_unit code) =
      need (ltb (index code) n) no_variable (
      need (not (is_assigned (went_back 0 s).trail.values (index code))) assigned (
      done none (enqueued code NONE (went_back 0 s))))
  -- 'The number undone is the trail's length before less that after'
  call s (go_back l) = done (some (s.trail.len - (went_back l s).trail.len)) (went_back l s)
  call s (bump_reason v) = need (ltb v n) no_variable (tuned s (O.tune (bump_reason_literals (get_or s.trail.reasons v 0)) s.chooser))
  call s (group vs) = need (below n vs) no_variable (tuned s (O.tune (bump_vec_of_vars vs) s.chooser))
