-- What an entry point answers: the refusals that come before the call's own, in document 01's order, and the result in numbers.
use Rattle.std.specs.Prelude.{ℕ, ◌≡◌, Bool, leb}
use Rattle.std.proofs.Math.Option.{Option, none, some}
use Rattle.std.specs.Prelude as std
use Rattle.lit.specs.Numbers.{NONE, max_vars, many_vars, bad_length, bad_clauses, bad_state}
use Rattle.lit.specs.declared.Refusal.{Refusal}
use Rattle.book.specs.Session.{Result, need, status, reply, leaves}

-- 4: N is above 2,048. 5: a length is not as stated. 6: the clause list is not good
unfoldable pub sizes_checked : {S : Type 0} → ℕ → Bool → Bool → Result S → Result S
sizes_checked n lengths clauses x = need (leb n max_vars) many_vars (need lengths bad_length (need clauses bad_clauses x))

-- and 7: the state is not good. Fresh creation skips this one
unfoldable pub checked : {S : Type 0} → ℕ → Bool → Bool → Bool → Result S → Result S
checked n lengths clauses state x = sizes_checked n lengths clauses (need state bad_state x)

-- 'Every call returns 0 with its reply, or the first of these with reply NONE'
abbrev pub reply_number : Option ℕ → ℕ
reply_number none = NONE
reply_number (some r) = r

-- the reply of what the code answers, as a number
abbrev pub reply_of : std.Result (std.Option ℕ) Refusal → ℕ
reply_of (std.Ok (std.Some r)) = r
reply_of (std.Ok std.None) = NONE
reply_of (std.Err e) = NONE

-- Status k, reply r and the session u are what x gives for the session s.
pub record Answered {S : Type 0} (x : Result S) (s : S) (k r : ℕ) (u : S) : Type 0 where
  pub status : k ≡ status x
  pub reply : r ≡ reply_number (reply x)
  pub session : u ≡ leaves s x
