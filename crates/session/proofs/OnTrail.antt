-- The calls that change the trail, as they act on it alone; and that a session with any chooser answers as they do.
use Rattle.std.specs.Prelude.{ℕ, ◌≤◌, ◌<◌, ◌≡◌, Bool, not, ltb}
use Rattle.std.proofs.Math.Path.{refl, ap}
use Rattle.std.proofs.Common.{◌∙◌, arith, ltb-true}
use Rattle.std.proofs.Math.Bool.{true, false}
use Rattle.std.proofs.Math.Option.{none}
use Rattle.std.proofs.lemmas.Bool.{not-true}
use Rattle.lit.specs.Numbers.{NONE, max_vars, unassigned, no_variable, bad_reason, assigned}
use Rattle.lit.specs.Lits.{index, is_assigned}
use Rattle.trail.specs.Trail.{Trail, enq_assignment, backtrack_safe}
use Rattle.trail.specs.Trail as trail
use Rattle.trail.specs.Memory.{RoomFor}
use Rattle.trail.specs.Good.{GoodTrail}
use Rattle.trail.specs.At.{value_at}
use Rattle.trail.specs.Laws.{not_assigned, level_len, room_for, room_var}
use Rattle.trail.specs.Back.{back_good}
use Rattle.book.specs.Calls.{enqueue, learn_unit, go_back}
use Rattle.book.specs.Chooser.{good_reason, Operations}
use Rattle.book.specs.Session.{Result, done, need, status, Session, went_back, enqueued, call}
use Rattle.session.specs.Entry.{Answered}
use Rattle.session.proofs.Outcomes.{no_refusal, refused, finished}
use Rattle.session.specs.OnTrail.{enqueue_on, go_back_on, learn_unit_on, with}

-- an enqueue that is not refused
module _ (n m code reason : ℕ) (t : Trail) (e : 0 ≡ status (enqueue_on n m code reason t)) where
  enqueue_passed : (ltb (index code) n ≡ true) × ((good_reason m reason ≡ true) × (not (is_assigned t.values (index code)) ≡ true))
  unfolding enqueue_on
  enqueue_passed =
      let a = no_refusal (ltb (index code) n) no_variable _ (λ z. omega arith) e in
      let b = no_refusal (good_reason m reason) bad_reason _ (λ z. omega arith) a.1 in
      let c = no_refusal (not (is_assigned t.values (index code))) assigned _ (λ z. omega arith) b.1 in
      (a.0, (b.0, c.0))

  -- its variable has room on a good trail
  pub enqueue_room : {j : ℕ} → n ≤ max_vars → GoodTrail n j t → RoomFor n (index code) t
  enqueue_room small g =
      let h = ltb-true (index code) n enqueue_passed.0 in
      room_var g small (index code) h (not_assigned g (index code) h (not-true _ enqueue_passed.1.1))

  pub enqueue_put : {u : Trail} → u ≡ enq_assignment code reason t → Answered (enqueue_on n m code reason t) t 0 NONE u
  unfolding enqueue_on need
  enqueue_put q = rw (enqueue_passed.0, enqueue_passed.1.0, enqueue_passed.1.1) (finished q)

-- a learn-unit that is not refused
module _ (n code : ℕ) (t : Trail) (e : 0 ≡ status (learn_unit_on n code t)) where
  unit_passed : (ltb (index code) n ≡ true) × (not (is_assigned (backtrack_safe 0 t).values (index code)) ≡ true)
  unfolding learn_unit_on
  unit_passed =
      let a = no_refusal (ltb (index code) n) no_variable _ (λ z. omega arith) e in
      let b = no_refusal (not (is_assigned (backtrack_safe 0 t).values (index code))) assigned _ (λ z. omega arith) a.1 in
      (a.0, b.0)

  -- its variable has room once level 0 is reached
  pub unit_room : {m : ℕ} → n ≤ max_vars → GoodTrail n m t → RoomFor n (index code) (backtrack_safe 0 t)
  unit_room small g =
      let h = ltb-true (index code) n unit_passed.0 in
      room_var (back_good 0 g) small (index code) h (not_assigned (back_good 0 g) (index code) h (not-true _ unit_passed.1))

  pub unit_put : {u : Trail} → u ≡ trail.learn_unit code t → Answered (learn_unit_on n code t) t 0 NONE u
  unfolding learn_unit_on need
  unit_put q = rw (unit_passed.0, unit_passed.1) (finished q)

-- an unassigned variable has room for its decision
pub decision_room : {n m : ℕ} {t : Trail} (v p : ℕ) → n ≤ max_vars → GoodTrail n m t → v < n → p < 2 → value_at t v ≡ unassigned → RoomFor n v t × ((t.level < n) × (p < 2))
decision_room v p small g h b e = (room_var g small v h e, (omega (arith, level_len g, room_for g v h e), b))

-- with the state c of a chooser that does not follow the trail
module _ {n m : ℕ} {O : Operations} (c : O.State) where
  alike : {t u : Trail} {k r : ℕ} (b : Bool) (j : ℕ) (x : Result Trail) (y : Result (Session n m O))
      → (Answered x t k r u → Answered y ((with {n = n} {m = m} {O = O} c) t) k r ((with {n = n} {m = m} {O = O} c) u)) → Answered (need b j x) t k r u → Answered (need b j y) ((with {n = n} {m = m} {O = O} c) t) k r ((with {n = n} {m = m} {O = O} c) u)
  unfolding need
  alike true j x y f a = f a
  alike false j x y f a = record { status = a.status; reply = a.reply; session = ap (with {n = n} {m = m} {O = O} c) a.session }

  module _ {t u : Trail} {k r : ℕ} where
    pub enqueue_with : (code reason : ℕ) → Answered (enqueue_on n m code reason t) t k r u → Answered (call n m O ((with {n = n} {m = m} {O = O} c) t) (enqueue code reason)) ((with {n = n} {m = m} {O = O} c) t) k r ((with {n = n} {m = m} {O = O} c) u)
    unfolding call enqueue_on enqueued
    enqueue_with code reason a = alike _ _ _ _ (alike _ _ _ _ (alike _ _ _ _ (λ b. record { status = b.status; reply = b.reply; session = ap (with {n = n} {m = m} {O = O} c) b.session }))) a

    module _ (stays : (l : ℕ) → went_back n m O l ((with {n = n} {m = m} {O = O} c) t) ≡ (with {n = n} {m = m} {O = O} c) (backtrack_safe l t)) where
      pub unit_with : (code : ℕ) → Answered (learn_unit_on n code t) t k r u → Answered (call n m O ((with {n = n} {m = m} {O = O} c) t) (learn_unit code)) ((with {n = n} {m = m} {O = O} c) t) k r ((with {n = n} {m = m} {O = O} c) u)
      unfolding call learn_unit_on enqueued trail.learn_unit
      unit_with code a = rw (stays 0) (alike _ _ _ _ (alike _ _ _ _ (λ b. record { status = b.status; reply = b.reply; session = ap (with {n = n} {m = m} {O = O} c) b.session })) a)

      pub back_with : (l : ℕ) → Answered (go_back_on l t) t k r u → Answered (call n m O ((with {n = n} {m = m} {O = O} c) t) (go_back l)) ((with {n = n} {m = m} {O = O} c) t) k r ((with {n = n} {m = m} {O = O} c) u)
      unfolding call go_back_on
      back_with l a = rw (stays l) (record { status = a.status; reply = a.reply; session = ap (with {n = n} {m = m} {O = O} c) a.session })

-- a learn-unit of a session whose chooser follows the trail
module _ {n m : ℕ} {O : Operations} (s : Session n m O) (code : ℕ) where
  unit_status : status (learn_unit_on n code s.trail) ≡ status (call n m O s (learn_unit code))
  unfolding call learn_unit_on went_back need
  unit_status = go (ltb (index code) n) (not (is_assigned (backtrack_safe 0 s.trail).values (index code))) _ _
    where
      go : (a b : Bool) (t : Trail) (u : Session n m O) → status (need a no_variable (need b assigned (done none t))) ≡ status (need a no_variable (need b assigned (done none u)))
      go true true t u = refl
      go true false t u = refl
      go false b t u = refl

  pub unit_refused : {k : ℕ} → k ≡ status (learn_unit_on n code s.trail) → (k ≡ 0 → ⊥) → Answered (call n m O s (learn_unit code)) s k NONE s
  unit_refused e z = refused _ (e ∙ unit_status) z

  pub unit_learnt : 0 ≡ status (learn_unit_on n code s.trail) → (u : Session n m O) → u ≡ went_back n m O 0 s → (t : Trail) → t ≡ enq_assignment code NONE u.trail
      → Answered (call n m O s (learn_unit code)) s 0 NONE (record { trail = t; chooser = u.chooser })
  unfolding call need enqueued went_back
  unit_learnt e u w t q = rw ((unit_passed n code s.trail e).0, (unit_passed n code s.trail e).1, q, w) (finished refl)
