-- A mode of a session: its chooser, with the tests of the chooser's memory; and what the entry points answer for memory as lent.
use Rattle.std.specs.Prelude.{ℕ, Bool, ◌&&◌, ◌||◌, not, List, length, eqb}
use Rattle.std.proofs.Math.Option.{none}
use Rattle.formula.specs.Clauses.{clauses_ok}
use Rattle.trail.specs.Trail.{Trail}
use Rattle.book.specs.Calls.{Call}
use Rattle.book.specs.Chooser.{Operations}
use Rattle.book.specs.Session.{Result, done, Session, fresh, call}
use Rattle.book.specs.Claim.{Run, starting_with, run}
use Rattle.session.specs.declared.Call as code
use Rattle.session.specs.Calls.{is_group}
use Rattle.session.specs.Asked.{Asked, asked}
use Rattle.session.specs.Entry.{sizes_checked, checked}

-- refusal 5: 'a lent slice has a length other than N'
abbrev pub trail_lengths : ℕ → Trail → Bool
trail_lengths n t = eqb (length t.values) n && (eqb (length t.levels) n && (eqb (length t.reasons) n && (eqb (length t.trail) n && eqb (length t.opened) n)))

-- 'or for clauses the stated counts'
abbrev pub clause_lengths : ℕ → ℕ → List ℕ → List ℕ → Bool
clause_lengths literals clauses lits ends = eqb (length lits) literals && eqb (length ends) clauses

-- 'for a group's scratch the group's length': two slices of lengths a and b are to have length k
abbrev pub scratch_lengths : ℕ → ℕ → ℕ → Bool
scratch_lengths k a b = eqb a k && eqb b k

-- that of any other call is not looked at
abbrev pub scratch_ok : code.Call → ℕ → ℕ → ℕ → Bool
scratch_ok call k a b = not (is_group call) || scratch_lengths k a b

pub record Mode : Type 1 where
  pub ops : Operations
  -- refusal 5, of the chooser's slices
  pub lengths : ops.State → Bool
  -- refusal 7: 'the state breaks a fact stated above for its records'
  pub state : Trail → ops.State → Bool

-- over n variables and m clauses, with the clause list and the stated number of literals
module _ (n m : ℕ) (M : Mode) (lits : List ℕ) (literals : ℕ) (ends : List ℕ) where
  -- all that refusal 5 looks at; whether a group's scratch has its lengths, or the answers of a list have theirs, is known beside
  unfoldable pub lengths_ok : Session n m M.ops → Bool → Bool
  lengths_ok s beside = trail_lengths n s.trail && (M.lengths s.chooser && (clause_lengths literals m lits ends && beside))

  -- a call on the session as lent
  unfoldable pub entered : Asked → Session n m M.ops → Result (Session n m M.ops)
  entered a s =
      checked n (lengths_ok s (scratch_ok a.call (length a.vars) (length a.stamps) (length a.order))) (clauses_ok n lits ends) (M.state s.trail s.chooser)
      (call n m M.ops s (asked a))

  -- a list of calls on the session as lent: it is checked once, and the calls are one run of the book; what is lent beside the session fits, or does not
  unfoldable pub entered_list : Bool → List Call → Session n m M.ops → Result (Run n m M.ops)
  entered_list fit cs s =
      checked n (lengths_ok s fit) (clauses_ok n lits ends) (M.state s.trail s.chooser)
      (done none (run n m M.ops (starting_with n m M.ops s) cs))

  -- a fresh session in the memory as lent
  unfoldable pub made : Bool → Session n m M.ops → Result (Session n m M.ops)
  made scratch s = sizes_checked n (lengths_ok s scratch) (clauses_ok n lits ends) (done none (fresh n m M.ops))
