-- Each call leaves a session that the book fits. By cases on the call.
use Prim.Native.Nat.{ℕ, ◌/◌, ◌%◌, ◌<◌}
use mathlib.Core.Path.{◌≡◌, refl, sym, subst}
use mathlib.Core.Bool.{Bool, true, false, cond}
use mathlib.Core.Option.{Option, none, some}
use mathlib.Core.List.{List, [], ◌∷◌}
use native.Mathlib.Omega.{arith}
use lib.ListN.{get_or}
use lib.Dec.{eqb}
use borrow.Author.Tests.{ltb-true, not-true}
use Rattle.lit.specs.Numbers.{NONE, large_step, past_open}
use Rattle.lit.specs.Lits.{index, polarity, new, is_assigned}
use Rattle.book.specs.Calls.{Call, bump, decay, set_decay, insert, switch_off, decide, enqueue, learn_unit, go_back, bump_reason, group, Line}
use Rattle.book.specs.Book.{entry, Book, written, book, values_of, without, switched, on, counts}
use Rattle.book.specs.Chooser.{Tune, bump_variable, decay_var_inc, set_var_decay, bump_reason_literals, bump_vec_of_vars, good_reason, fits, Next, chose, nothing, stuck, NextRight, IfSome, Operations, Chooser}
use Rattle.book.specs.Session.{Result, done, refuse, leaves, log_line, need, Session, went_back, enqueued, with_chooser, tuned, decided, call}
use Rattle.book.proofs.Books.{fine_add, says, is_unassigned}
use Rattle.book.proofs.Memory.{enq_holds, dec_holds}
use Rattle.book.proofs.Going.{Good, GoodAfter, went}

-- the switches that count at first, after a line that switches nothing off, and after one that does
pub counts_nil : (sw : Bool) → counts sw [] ≡ (λ v. true)
unfolding counts on
counts_nil true = refl
counts_nil false = refl

counts_same : (sw : Bool) (l : Line) (ls : List Line) → on (l ∷ ls) ≡ on ls → counts sw (l ∷ ls) ≡ counts sw ls
unfolding counts
counts_same true l ls e = e
counts_same false l ls e = refl

counts_off : (sw : Bool) (v : ℕ) (ls : List Line)
    → counts sw (record { call = switch_off v; status = 0; reply = none } ∷ ls) ≡ cond sw (without v (counts sw ls)) (counts sw ls)
unfolding counts on switched
counts_off true v ls = refl
counts_off false v ls = refl

module _ (n m : ℕ) (O : Operations) (C : Chooser n m O) where
  pub record Kept (ls : List Line) (s : Session n m O) (c : Call) (x : Result (Session n m O)) : Type 0 where
    pub good : GoodAfter n m O C (log_line c x ∷ ls) (leaves s x)

  enqueued_good : (code reason : ℕ) {b : Book} {o : ℕ → Bool} (u : Session n m O) → Good n m O C b o u → index code < n → good_reason m reason ≡ true
      → is_assigned u.trail.values (index code) ≡ false → Good n m O C (entry code reason false ∷ b) o (enqueued n m O code reason u)
  unfolding enqueued values_of
  enqueued_good code reason {b} u g h hr a =
      let e = is_unassigned g.fine (index code) h (rw g.holds.values at a) in
      record {
        fine = fine_add h hr e g.fine;
        holds = enq_holds code reason g.fine e g.holds;
        ok = C.assign_ok (index code) (polarity code) u.chooser h (omega arith) g.ok;
      }

  -- what `get_next` owes, by the book
  abbrev pub Owed : List Line → Next O.State → Type 0
  Owed ls x = NextRight n (values_of n (book ls)) (counts O.switches ls) C.ok x

  module _ (s : Session n m O) (ls : List Line) (g : GoodAfter n m O C ls s) where
    pub refused : {c : Call} (k : ℕ) → eqb k 0 ≡ false → Kept ls s c (refuse k)
    unfolding book on
    refused {c} k e = record { good = rw (counts_same O.switches (record { call = c; status = k; reply = none }) ls (rw e), e) g }

    needed : {c : Call} (k : ℕ) (t : Bool) {x : Result (Session n m O)} → eqb k 0 ≡ false → (t ≡ true → Kept ls s c x) → Kept ls s c (need t k x)
    unfolding need
    needed k true e f = f refl
    needed k false e f = refused k e

    -- an accepted call that switches nothing off
    kept_by : {c : Call} {r : Option ℕ} {u : Session n m O} → switched c (on ls) ≡ on ls
        → Good n m O C (written c r (book ls)) (counts O.switches ls) u → Kept ls s c (done r u)
    unfolding book on
    kept_by {c} {r} e q = record { good = rw (counts_same O.switches (record { call = c; status = 0; reply = r }) ls e) q }

    with_good : {o : ℕ → Bool} (c : O.State) → C.ok (values_of n (book ls)) o c → Good n m O C (book ls) o (with_chooser n m O c s)
    with_good c q = record { fine = g.fine; holds = g.holds; ok = q }

    tune_kept : {c : Call} (t : Tune) → fits n m t ≡ true → written c none (book ls) ≡ book ls → switched c (on ls) ≡ on ls
        → Kept ls s c (tuned n m O s (O.tune t s.chooser))
    unfolding tuned
    tune_kept {c} t h e e2 = go (O.tune t s.chooser) (C.tune_ok t s.chooser h g.ok)
      where
        go : (x : Option O.State) → IfSome (C.ok (values_of n (book ls)) (counts O.switches ls)) x → Kept ls s c (tuned n m O s x)
        go none q = refused large_step refl
        go (some d) q = kept_by e2 (rw e (with_good d q))

    pub asked : Owed ls (O.get_next s.trail.values s.chooser)
    asked = subst (λ (vs : List ℕ). Owed ls (O.get_next vs s.chooser)) (sym g.holds.values) (C.get_next_ok s.chooser g.ok)

    decide_kept : (p : ℕ) → p < 2 → Kept ls s (decide p) (decided n m O p s (O.get_next s.trail.values s.chooser))
    unfolding decided written switched values_of
    decide_kept p hp = go (O.get_next s.trail.values s.chooser) asked
      where
        go : (x : Next O.State) → Owed ls x → Kept ls s (decide p) (decided n m O p s x)
        go (chose v d) (hv, ho, a, f) =
            let e = is_unassigned g.fine v hv a in
            let q1 : new v p / 2 ≡ v = omega arith in
            let q2 : new v p % 2 ≡ p = omega arith in
            kept_by refl (record {
              fine = fine_add {c = new v p} {b = book ls} (rw q1 hv) refl (rw q1 e) g.fine;
              holds = dec_holds v p g.fine hv hp e g.holds;
              ok = rw (q1, q2) (f p hp);
            })
        go (nothing d) (_, q) = kept_by refl (with_good d q)
        go stuck q = refused past_open refl

    off_kept : (v : ℕ) → v < n → Kept ls s (switch_off v) (done none (with_chooser n m O (O.turn_off v s.chooser) s))
    unfolding book written
    off_kept v h = record { good = rw (counts_off O.switches v ls) (with_good _ (C.turn_off_ok v s.chooser h g.ok)) }

    pub kept : (c : Call) → Kept ls s c (call n m O s c)
    unfolding call written switched fits enqueued
    kept (bump v) = needed _ _ refl (λ h. tune_kept (bump_variable v) h refl refl)
    kept decay = tune_kept decay_var_inc refl refl refl
    kept (set_decay d) = needed _ _ refl (λ h. tune_kept (set_var_decay d) h refl refl)
    kept (insert v) =
        needed _ _ refl (λ h.
        kept_by refl (with_good (O.insert v s.chooser) (C.insert_ok v s.chooser (ltb-true v n h) g.ok)))
    kept (switch_off v) = needed _ _ refl (λ h. off_kept v (ltb-true v n h))
    kept (decide p) = needed _ _ refl (λ h. decide_kept p (ltb-true p 2 h))
    kept (enqueue code reason) =
        needed _ _ refl (λ h.
        needed _ _ refl (λ hr.
        needed _ _ refl (λ q.
        let hv : index code < n = ltb-true (index code) n h in
        let a = not-true (is_assigned s.trail.values (index code)) q in
        kept_by refl (enqueued_good code reason s g hv hr a))))
    kept (learn_unit code) =
        let u = went_back n m O 0 s in
        needed _ _ refl (λ h.
        needed _ _ refl (λ q.
        let hv : index code < n = ltb-true (index code) n h in
        let a = not-true (is_assigned u.trail.values (index code)) q in
        kept_by refl (enqueued_good code NONE u (went n m O C 0 s g) hv refl a)))
    kept (go_back l) = kept_by refl (went n m O C l s g)
    kept (bump_reason v) =
        needed _ _ refl (λ h.
        let r = (says g.fine v (ltb-true v n h)).reason_good in
        tune_kept (bump_reason_literals (get_or s.trail.reasons v 0)) (rw g.holds.reasons r) refl refl)
    kept (group vs) = needed _ _ refl (λ h. tune_kept (bump_vec_of_vars vs) h refl refl)
