-- What a call answers by the outcome of its tests: laws of results, for any session.
use Rattle.std.specs.Prelude.{ℕ, ◌<◌, ◌≡◌, ◌≢◌, Bool, cond}
use Rattle.std.proofs.Math.Path.{refl}
use Rattle.std.proofs.Common.{sym, ap, lt-ltb, arith}
use Rattle.std.proofs.Math.Bool.{true, false}
use Rattle.std.proofs.Math.Option.{none}
use Rattle.lit.specs.Numbers.{NONE, past_open}
use Rattle.lit.specs.Refusals.{refusal_number, refusal_above}
use Rattle.lit.specs.declared.Refusal.{Refusal}
use Rattle.trail.specs.Trail.{Trail, enq_decision}
use Rattle.book.specs.Calls.{decide}
use Rattle.book.specs.Chooser.{Operations, chose, nothing, stuck}
use Rattle.book.specs.Session.{Result, done, refuse, need, status, Session, with_chooser, decided, call}
use Rattle.session.specs.Entry.{Answered}

module _ {S : Type 0} {s : S} where
  -- the test fails: its refusal
  pub failed : {b : Bool} {k : ℕ} (x : Result S) → b ≡ false → Answered (need b k x) s k NONE s
  unfolding need
  failed x e = rw e (record { status = refl; reply = refl; session = refl })

  -- it passes: what comes after it answers
  pub passed : {b : Bool} (j : ℕ) {k r : ℕ} (x : Result S) {u : S} → b ≡ true → Answered x s k r u → Answered (need b j x) s k r u
  unfolding need
  passed j x e a = rw e a

  -- nothing to reply
  pub finished : {u v : S} → u ≡ v → Answered (done none v) s 0 NONE u
  finished e = record { status = refl; reply = refl; session = e }

  -- a call that changes nothing, by its test
  pub tested : (b : Bool) (k : ℕ) → Answered (need b k (done none s)) s (cond b 0 k) NONE s
  unfolding need
  tested true k = record { status = refl; reply = refl; session = refl }
  tested false k = record { status = refl; reply = refl; session = refl }

  -- a status other than 0 is a refusal
  pub refused : (x : Result S) {k : ℕ} → k ≡ status x → k ≢ 0 → Answered x s k NONE s
  refused (done r u) e z = absurd (z e)
  refused (refuse j) e z = record { status = e; reply = refl; session = refl }

  -- and so is a refusal's number
  pub refused_by : (x : Result S) (e : Refusal) → refusal_number e ≡ status x → Answered x s (refusal_number e) NONE s
  refused_by x e h = refused x h (λ z. omega (arith, refusal_above e))

-- and status 0 says that the tests passed
pub no_refusal : {S : Type 0} (b : Bool) (k : ℕ) (x : Result S) → k ≢ 0 → 0 ≡ status (need b k x) → (b ≡ true) × (0 ≡ status x)
unfolding need
no_refusal true k x z e = (refl, e)
no_refusal false k x z e = absurd (z (sym e))

-- calls of a session, with any chooser
module _ {n m : ℕ} {O : Operations} {s : Session n m O} where
  -- another state of the chooser
  pub rechosen : {c d : O.State} → c ≡ d → Answered (done none (with_chooser n m O d s)) s 0 NONE (with_chooser n m O c s)
  rechosen e = finished (ap (λ (c : O.State). with_chooser n m O c s) e)

  -- a decide, by what `get_next` says
  module _ {p : ℕ} (b : p < 2) where
    pub chosen : {v : ℕ} {c : O.State} {t : Trail} → O.get_next s.trail.values s.chooser ≡ chose v c → t ≡ enq_decision v p s.trail
        → Answered (call n m O s (decide p)) s 0 v (record { trail = t; chooser = c })
    unfolding call need decided
    chosen e q = rw (lt-ltb p 2 b, e, q) (record { status = refl; reply = refl; session = refl })

    pub none_open : {c : O.State} → O.get_next s.trail.values s.chooser ≡ nothing c → Answered (call n m O s (decide p)) s 0 NONE (with_chooser n m O c s)
    unfolding call need decided
    none_open e = rw (lt-ltb p 2 b, e) (finished refl)

    pub past_open_lem : O.get_next s.trail.values s.chooser ≡ stuck → Answered (call n m O s (decide p)) s past_open NONE s
    unfolding call need decided
    past_open_lem e = rw (lt-ltb p 2 b, e) (record { status = refl; reply = refl; session = refl })
