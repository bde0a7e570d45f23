-- What the checks of an entry point come to: the first refusal that fits is the answer, and without one the answer is what comes behind.
use Rattle.std.specs.Prelude.{ℕ, ◌≡◌, Bool, cond, leb}
use Rattle.std.proofs.Math.Path.{refl}
use Rattle.std.proofs.Common.{sym, arith, le-leb, leb-true, eqb-true, ne_eqb}
use Rattle.std.proofs.Math.Bool.{true, false}
use Rattle.std.proofs.Math.Option.{none}
use Rattle.std.proofs.lemmas.Bool.{eqb-false}
use Rattle.std.proofs.Math.Dec.{eqb}
use Rattle.lit.specs.Numbers.{NONE, max_vars, many_vars, bad_length, bad_clauses, bad_state}
use Rattle.lit.specs.Refusals.{refusal_number, refusal_above}
use Rattle.lit.specs.declared.Refusal.{Refusal}
use Rattle.trail.specs.Trail.{Trail, fresh_trail}
use Rattle.book.specs.Chooser.{Operations}
use Rattle.book.specs.Session.{Result, done, refuse, status, need, Session, fresh}
use Rattle.session.specs.Entry.{sizes_checked, checked, Answered}
use Rattle.session.specs.Checks.{Passed, size_refusal, state_refusal, unless}

-- refusal k, unless k is 0
module _ {S : Type 0} where
  turned : (k : ℕ) (x : Result S) (s : S) → (k ≡ 0 → ⊥) → Answered ((unless {S = S}) k x) s k NONE s
  unfolding unless
  turned k x s z = rw (ne_eqb k 0 z) (record { status = refl; reply = refl; session = refl })

  zero_status : (k : ℕ) (x : Result S) → status ((unless {S = S}) k x) ≡ 0 → (k ≡ 0) × (status x ≡ 0)
  unfolding unless
  zero_status k x = go (eqb k 0) refl
    where
      go : (b : Bool) → eqb k 0 ≡ b → status (cond b x (refuse k)) ≡ 0 → (k ≡ 0) × (status x ≡ 0)
      go true e q = (eqb-true k 0 e, q)
      go false e q = absurd (eqb-false k 0 e q)

-- the tests are refusals in a row
module _ {S : Type 0} (n : ℕ) (lengths clauses : Bool) where
  sizes_unless : (x : Result S) → sizes_checked n lengths clauses x ≡ unless (size_refusal n lengths clauses) x
  unfolding sizes_checked need unless
  sizes_unless x = go (leb n max_vars) lengths clauses
    where
      go : (b l c : Bool) → need b many_vars (need l bad_length (need c bad_clauses x)) ≡ unless (status (need {S = Unit {0}} b many_vars (need l bad_length (need c bad_clauses (done none tt))))) x
      go false l c = refl
      go true false c = refl
      go true true false = refl
      go true true true = refl

  checked_unless : (state : Bool) (x : Result S) → checked n lengths clauses state x ≡ unless (state_refusal n lengths clauses state) x
  unfolding checked sizes_checked need unless
  checked_unless state x = go (leb n max_vars) lengths clauses state
    where
      go : (b l c t : Bool) → need b many_vars (need l bad_length (need c bad_clauses (need t bad_state x)))
          ≡ unless (status (need {S = Unit {0}} b many_vars (need l bad_length (need c bad_clauses (need t bad_state (done none tt)))))) x
      go false l c t = refl
      go true false c t = refl
      go true true false t = refl
      go true true true false = refl
      go true true true true = refl

  -- a refusal is the answer
  pub size_refused : (x : Result S) (s : S) (k : ℕ) → k ≡ size_refusal n lengths clauses → (k ≡ 0 → ⊥) → Answered (sizes_checked n lengths clauses x) s k NONE s
  size_refused x s k e z = rw (sizes_unless x, ← e) (turned k x s z)

  pub refused : (state : Bool) (x : Result S) (s : S) (k : ℕ) → k ≡ state_refusal n lengths clauses state → (k ≡ 0 → ⊥) → Answered (checked n lengths clauses state x) s k NONE s
  refused state x s k e z = rw (checked_unless state x, ← e) (turned k x s z)

  -- and so is a refusal's number
  pub size_refused_by : (x : Result S) (s : S) (e : Refusal) → refusal_number e ≡ size_refusal n lengths clauses → Answered (sizes_checked n lengths clauses x) s (refusal_number e) NONE s
  size_refused_by x s e h = size_refused x s _ h (λ z. omega (arith, refusal_above e))

  pub refused_by : (state : Bool) (x : Result S) (s : S) (e : Refusal) → refusal_number e ≡ state_refusal n lengths clauses state → Answered (checked n lengths clauses state x) s (refusal_number e) NONE s
  refused_by state x s e h = refused state x s _ h (λ z. omega (arith, refusal_above e))

  -- without one it is what comes behind the tests
  pub size_accepted : (x : Result S) → 0 ≡ size_refusal n lengths clauses → sizes_checked n lengths clauses x ≡ x
  size_accepted x e = rw (sizes_unless x, ← e) (unfold unless in refl)

  pub accepted : (state : Bool) (x : Result S) → 0 ≡ state_refusal n lengths clauses state → checked n lengths clauses state x ≡ x
  accepted state x e = rw (checked_unless state x, ← e) (unfold unless in refl)

  -- status 0 comes only without a refusal
  pub size_zero : (x : Result S) → status (sizes_checked n lengths clauses x) ≡ 0 → 0 ≡ size_refusal n lengths clauses
  size_zero x e = sym (zero_status _ x (rw (sizes_unless x) at e)).0

  pub checked_zero : (state : Bool) (x : Result S) → status (checked n lengths clauses state x) ≡ 0 → 0 ≡ state_refusal n lengths clauses state
  checked_zero state x e = sym (zero_status _ x (rw (checked_unless state x) at e)).0

pub size_passed : (n : ℕ) (lengths clauses : Bool) → 0 ≡ size_refusal n lengths clauses → Passed n lengths clauses
unfolding sizes_checked need
size_passed n lengths clauses e = go (leb n max_vars) refl lengths clauses e
  where
    go : (b : Bool) → leb n max_vars ≡ b → (l c : Bool) → 0 ≡ status (need {S = Unit {0}} b many_vars (need l bad_length (need c bad_clauses (done none tt)))) → Passed n l c
    go false q l c e = absurd (omega arith)
    go true q false c e = absurd (omega arith)
    go true q true false e = absurd (omega arith)
    go true q true true e = record { small = leb-true n max_vars q; lengths_ok_lem = refl; clauses_ok_lem = refl }

pub state_passed : (n : ℕ) (lengths clauses state : Bool) → 0 ≡ state_refusal n lengths clauses state → Passed n lengths clauses × (state ≡ true)
unfolding checked need
state_passed n lengths clauses state e =
    let z = zero_status _ _ (rw (sizes_unless {S = Unit {0}} n lengths clauses (need state bad_state (done none tt))) at (sym e)) in
    (size_passed n lengths clauses (sym z.0), go state z.1)
  where
    go : (t : Bool) → status (need {S = Unit {0}} t bad_state (done none tt)) ≡ 0 → t ≡ true
    go true e = refl
    go false e = absurd (omega arith)

-- and where all hold there is none
pub passed_none : {n : ℕ} {lengths clauses : Bool} {state : Bool} → Passed n lengths clauses → state ≡ true → 0 ≡ state_refusal n lengths clauses state
unfolding checked sizes_checked need
passed_none {n} p q = rw (le-leb n max_vars p.small, p.lengths_ok_lem, p.clauses_ok_lem, q)

-- a fresh session was made
pub opened : (n m : ℕ) (O : Operations) (s : Session n m O) (t : Trail) (c : O.State) → t ≡ fresh_trail n → c ≡ O.start
    → Answered (done none (fresh n m O)) s 0 NONE (record { trail = t; chooser = c })
unfolding fresh
opened n m O s t c e q = rw (e, q) (record { status = refl; reply = refl; session = refl })
