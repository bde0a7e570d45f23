-- The claim plays a session as term 3 runs it: it ends where the run is now, and its answers are those in the run's log.
use Rattle.std.specs.Prelude.{ℕ, ◌≡◌, Bool, length}
use Rattle.std.proofs.Math.Path.{refl}
use mathlib.Core.List.{List, [], ◌∷◌, map, reverse, reverse_aux}
use Rattle.book.specs.Calls.{Call, Line}
use Rattle.book.specs.Chooser.{Operations}
use Rattle.book.specs.Claim.{Past, log, Run, begin, step, run}
use Rattle.cases.specs.Claim.{Machine, play}
use Rattle.cases.specs.Machines.{Clauses, Answer, answer, sessions}

-- the answers of a past, newest first
abbrev pub answers_in : Past → List Answer
answers_in past = map (λ (l : Line). answer l.status l.reply) (log past)

module _ (n : ℕ) (cs : Clauses) (O : Operations) (ok : List ℕ → O.State → Bool) where
  abbrev machine : Machine
  machine = sessions n cs O ok

  end_from : (r : Run n (length cs) O) (calls : List Call) → (play machine r.now calls).1 ≡ (run n (length cs) O r calls).now
  unfolding play run step
  end_from r [] = refl
  end_from r (c ∷ calls) = end_from (step n (length cs) O r c) calls

  answers_from : (r : Run n (length cs) O) (calls : List Call)
      → answers_in (run n (length cs) O r calls).past ≡ reverse_aux (play machine r.now calls).0 (answers_in r.past)
  unfolding play run step
  answers_from r [] = refl
  answers_from r (c ∷ calls) = answers_from (step n (length cs) O r c) calls

  -- from a fresh session
  pub same_end : (calls : List Call) → (play machine machine.fresh calls).1 ≡ (run n (length cs) O (begin n (length cs) O) calls).now
  unfolding begin
  same_end calls = end_from (begin n (length cs) O) calls

  pub same_answers : (calls : List Call)
      → answers_in (run n (length cs) O (begin n (length cs) O) calls).past ≡ reverse (play machine machine.fresh calls).0
  unfolding begin
  same_answers calls = answers_from (begin n (length cs) O) calls
