-- From a session whose trail is good and whose chooser is good for its values, every call leaves such a session, refused or not. In either
-- mode, by the laws of its chooser.
use Rattle.std.specs.Prelude.{ℕ, suc, ◌<◌, ◌≡◌, Bool, cond, length, get_or, eqb}
use Rattle.std.proofs.Math.Path.{refl}
use Rattle.std.proofs.Common.{inl, inr, arith}
use Rattle.std.proofs.Math.Bool.{true, false}
use Rattle.std.proofs.Math.Option.{Option, none, some}
use mathlib.Core.List.{List, [], ◌∷◌}
use borrow.Author.Tests.{ltb-true, ltb-false, eqb-true, eq-eqb, lt-ltb, not-true}
use Rattle.std.proofs.Math.Dec.{ltb}
use Rattle.laws.specs.Choices.{or_right, or_cases}
use Rattle.lit.specs.Numbers.{NONE, unassigned}
use Rattle.lit.specs.Lits.{index, polarity, is_assigned}
use Rattle.trail.specs.Trail.{Trail, enq_assignment, enq_decision, backtrack_to, backtrack_safe, undone}
use Rattle.trail.specs.Good.{IsReason, GoodTrail}
use Rattle.trail.specs.At.{value_at}
use Rattle.trail.specs.Laws.{enq_good, dec_good}
use Rattle.trail.specs.Back.{back_good}
use Rattle.trail.specs.Undone.{undone_in, unset, back_values}
use Rattle.book.specs.Calls.{Call, bump, decay, set_decay, insert, switch_off, decide, enqueue, learn_unit, go_back, bump_reason, group}
use Rattle.book.specs.Chooser.{Tune, bump_variable, decay_var_inc, set_var_decay, bump_reason_literals, bump_vec_of_vars, good_reason, fits, Next, chose, nothing, stuck, NextRight, IfSome, Operations, Chooser}
use Rattle.book.specs.Session.{Result, leaves, need, Session, offer_all, went_back, enqueued, tuned, decided, call}
use Rattle.session.specs.Kept.{Steady}

-- a variable that is not assigned has the value for that
free : {n m : ℕ} {t : Trail} → GoodTrail n m t → (v : ℕ) → v < n → is_assigned t.values v ≡ false → value_at t v ≡ unassigned
free {t = t} g v h e = omega (arith, g.values_good v h, ltb-false (value_at t v) unassigned e)

-- a reason passes its test exactly where it is NONE or a clause's number
reason_right : (m r : ℕ) → good_reason m r ≡ true → IsReason m r
reason_right m r e = or_cases (eqb r NONE) (ltb r m) e (λ q. inr (eqb-true r NONE q)) (λ q. inl (ltb-true r m q))

right_reason : (m r : ℕ) → IsReason m r → good_reason m r ≡ true
right_reason m r (inl h) = or_right (eqb r NONE) (ltb r m) (lt-ltb r m h)
right_reason m r (inr e) = rw (eq-eqb r NONE e)

module _ (n m : ℕ) (O : Operations) (C : Chooser n m O) where
  -- the variables that became unassigned were offered
  offers : (vs : List ℕ) (c : O.State) {values : List ℕ} {on : ℕ → Bool} → ((j : ℕ) → j < length vs → get_or vs j 0 < n) → C.ok values on c
      → C.ok (unset vs values) on (offer_all n m O vs c)
  unfolding offer_all unset
  offers [] c f q = q
  offers (v ∷ vs) c f q = offers vs (O.offer v c) (λ j h. f (suc j) (omega arith)) (C.offer_ok v c (f 0 (omega arith)) q)

  module _ (s : Session n m O) (g : (Steady n m O C) s) where
    needed : (b : Bool) (k : ℕ) (x : Result (Session n m O)) → (b ≡ true → (Steady n m O C) (leaves s x)) → (Steady n m O C) (leaves s (need b k x))
    unfolding need
    needed true k x f = f refl
    needed false k x f = g

    with_chooser : {on : ℕ → Bool} (c : O.State) → C.ok s.trail.values on c → (Steady n m O C) (record { trail = s.trail; chooser = c })
    with_chooser c q = record { trail = g.trail; on = _; ok = q }

    tuned_kept : (t : Tune) → fits n m t ≡ true → (Steady n m O C) (leaves s (tuned n m O s (O.tune t s.chooser)))
    unfolding tuned
    tuned_kept t h = go (O.tune t s.chooser) (C.tune_ok t s.chooser h g.ok)
      where
        go : (x : Option O.State) → IfSome (C.ok s.trail.values g.on) x → (Steady n m O C) (leaves s (tuned n m O s x))
        go none q = g
        go (some c) q = with_chooser c q

    decided_kept : (p : ℕ) → p < 2 → (Steady n m O C) (leaves s (decided n m O p s (O.get_next s.trail.values s.chooser)))
    unfolding decided enq_decision
    decided_kept p h = go (O.get_next s.trail.values s.chooser) (C.get_next_ok s.chooser g.ok)
      where
        go : (x : Next O.State) → NextRight n s.trail.values g.on C.ok x → (Steady n m O C) (leaves s (decided n m O p s x))
        go (chose v c) (b, _, a, f) = record { trail = dec_good v p g.trail b h (free g.trail v b a); on = _; ok = f p h }
        go (nothing c) (_, q) = with_chooser c q
        go stuck q = g

    went_kept : (l : ℕ) → (Steady n m O C) (went_back n m O l s)
    unfolding went_back backtrack_safe
    went_kept l = record { trail = back_good l g.trail; on = g.on; ok = go (ltb l s.trail.level) refl }
      where
        go : (b : Bool) → ltb l s.trail.level ≡ b
            → C.ok (cond b (backtrack_to l s.trail) s.trail).values g.on (cond b (offer_all n m O (undone l s.trail) s.chooser) s.chooser)
        go true e = let h = ltb-true l s.trail.level e in rw (back_values g.trail h) (offers (undone l s.trail) s.chooser (undone_in g.trail h) g.ok)
        go false e = g.ok

    enqueued_kept : (code reason : ℕ) → index code < n → IsReason m reason → is_assigned s.trail.values (index code) ≡ false → (Steady n m O C) (enqueued n m O code reason s)
    unfolding enqueued enq_assignment
    enqueued_kept code reason h r a = record {
      trail = enq_good code reason g.trail h (free g.trail (index code) h a) r;
      on = g.on;
      ok = C.assign_ok (index code) (polarity code) s.chooser h (omega arith) g.ok;
    }

  pub kept : (s : Session n m O) → (Steady n m O C) s → (c : Call) → (Steady n m O C) (leaves s (call n m O s c))
  unfolding call fits
  kept s g (bump v) = needed s g _ _ _ (λ h. tuned_kept s g (bump_variable v) h)
  kept s g decay = tuned_kept s g decay_var_inc refl
  kept s g (set_decay d) = needed s g _ _ _ (λ h. tuned_kept s g (set_var_decay d) h)
  kept s g (insert v) = needed s g _ _ _ (λ h. with_chooser s g _ (C.insert_ok v s.chooser (ltb-true v n h) g.ok))
  kept s g (switch_off v) = needed s g _ _ _ (λ h. with_chooser s g _ (C.turn_off_ok v s.chooser (ltb-true v n h) g.ok))
  kept s g (decide p) = needed s g _ _ _ (λ h. decided_kept s g p (ltb-true p 2 h))
  kept s g (enqueue code reason) =
      needed s g _ _ _ (λ h.
      needed s g _ _ _ (λ r.
      needed s g _ _ _ (λ a.
      enqueued_kept s g code reason (ltb-true (index code) n h) (reason_right m reason r) (not-true _ a))))
  kept s g (learn_unit code) =
      let u = went_back n m O 0 s in
      needed s g _ _ _ (λ h.
      needed s g _ _ _ (λ a.
      enqueued_kept u (went_kept s g 0) code NONE (ltb-true (index code) n h) (inr refl) (not-true _ a)))
  kept s g (go_back l) = went_kept s g l
  kept s g (bump_reason v) =
      needed s g _ _ _ (λ h. tuned_kept s g (bump_reason_literals (get_or s.trail.reasons v 0)) (right_reason m _ (g.trail.reasons_good v (ltb-true v n h))))
  kept s g (group vs) = needed s g _ _ _ (λ h. tuned_kept s g (bump_vec_of_vars vs) h)
