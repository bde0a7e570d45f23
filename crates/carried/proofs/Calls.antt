-- No call tells the same sessions apart, by cases on the call; so no list of calls does.
use Prim.Native.Nat.{ℕ}
use mathlib.Core.Path.{◌≡◌, refl, sym, ap, subst, ◌∙◌}
use mathlib.Core.Bool.{Bool, true, false, not, false≢true}
use mathlib.Core.Option.{Option, none, some}
use mathlib.Core.List.{List, [], ◌∷◌}
use Rattle.lit.specs.Numbers.{NONE}
use Rattle.lit.specs.Lits.{index, is_assigned}
use Rattle.trail.specs.Trail.{undone}
use Rattle.book.specs.Calls.{Call, bump, decay, set_decay, insert, switch_off, decide, enqueue, learn_unit, go_back, bump_reason, group}
use Rattle.book.specs.Chooser.{Tune, Next, chose, nothing, stuck, Operations}
use Rattle.book.specs.Session.{Result, done, need, Session, went_back, enqueued, with_chooser, tuned, decided, call}
use Rattle.book.specs.Claim.{Run, extended, step, run}
use Rattle.book.specs.Saved.{forgotten}
use Rattle.carried.specs.Same.{Same, SameResult, Alike, SameRecords, ReadSame, CallSame, RunsSame, ReadAnswers}
use Rattle.carried.proofs.Trails.{Facts, facts, records_same, forgot_same, enq_same, dec_same, undone_same, safe_same}

-- tests, results and choosers that are equal
module _ {n m : ℕ} {O : Operations} {s t : Session n m O} (e : Same s t) where
  pub need_same : (a b : Bool) (k : ℕ) {x y : Result (Session n m O)} → a ≡ b → (a ≡ true → SameResult s t x y) → SameResult s t (need a k x) (need b k y)
  unfolding need
  need_same true true k q f = f refl
  need_same false false k q f = record { same_status = refl; same_reply = refl; same_left = e }
  need_same true false k q f = absurd (false≢true (sym q))
  need_same false true k q f = absurd (false≢true q)

  done_same : (r : Option ℕ) {u w : Session n m O} → Same u w → SameResult s t (done r u) (done r w)
  done_same r q = record { same_status = refl; same_reply = refl; same_left = q }

  with_same : {c d : O.State} → c ≡ d → Same (with_chooser n m O c s) (with_chooser n m O d t)
  with_same q = record { trail = e.trail; chooser = q }

  tuned_same : (x y : Option O.State) → x ≡ y → SameResult s t (tuned n m O s x) (tuned n m O t y)
  unfolding tuned
  tuned_same x y q = subst (λ (z : Option O.State). SameResult s t (tuned n m O s x) (tuned n m O t z)) q (go x)
    where
      go : (z : Option O.State) → SameResult s t (tuned n m O s z) (tuned n m O t z)
      go none = record { same_status = refl; same_reply = refl; same_left = e }
      go (some c) = done_same none (with_same refl)

  tune_same : {i j : Tune} → i ≡ j → SameResult s t (tuned n m O s (O.tune i s.chooser)) (tuned n m O t (O.tune j t.chooser))
  tune_same {i} {j} q = let c : s.chooser ≡ t.chooser = e.chooser in tuned_same _ _ (cc)

  decided_same : (p : ℕ) (x y : Next O.State) → x ≡ y → SameResult s t (decided n m O p s x) (decided n m O p t y)
  unfolding decided
  decided_same p x y q = subst (λ (z : Next O.State). SameResult s t (decided n m O p s x) (decided n m O p t z)) q (go x)
    where
      go : (z : Next O.State) → SameResult s t (decided n m O p s z) (decided n m O p t z)
      go (chose v c) = done_same (some v) (record { trail = dec_same v p s.trail t.trail e.trail; chooser = refl })
      go (nothing c) = done_same none (with_same refl)
      go stuck = record { same_status = refl; same_reply = refl; same_left = e }

  went_same : (l : ℕ) → Same (went_back n m O l s) (went_back n m O l t)
  unfolding went_back
  went_same l =
      let f : Facts s.trail t.trail = facts e.trail in
      let us : undone l s.trail ≡ undone l t.trail = undone_same l s.trail t.trail e.trail in
      let c : s.chooser ≡ t.chooser = e.chooser in
      record { trail = safe_same l s.trail t.trail e.trail; chooser = cc }

  enqueued_same : (code reason : ℕ) → Same (enqueued n m O code reason s) (enqueued n m O code reason t)
  unfolding enqueued
  enqueued_same code reason = record { trail = enq_same code reason s.trail t.trail e.trail; chooser = e.chooser }

  free_same : (v : ℕ) → not (is_assigned s.trail.values v) ≡ not (is_assigned t.trail.values v)
  free_same v = ap (λ (vs : List ℕ). not (is_assigned vs v)) (facts e.trail).values

module _ (n m : ℕ) (O : Operations) where
  pub same_records : SameRecords n m O
  same_records s t e = records_same e.trail

  pub read_same : ReadSame n m O
  read_same s e = record { trail = forgot_same s.trail e; chooser = refl }

  pub call_same : CallSame n m O
  unfolding call
  call_same s t (bump v) e = need_same e _ _ _ refl (λ _. tune_same e refl)
  call_same s t decay e = tune_same e refl
  call_same s t (set_decay d) e = need_same e _ _ _ refl (λ _. tune_same e refl)
  call_same s t (insert v) e = need_same e _ _ _ refl (λ _. done_same e none (with_same e (ap (O.insert v) e.chooser)))
  call_same s t (switch_off v) e = need_same e _ _ _ refl (λ _. done_same e none (with_same e (ap (O.turn_off v) e.chooser)))
  call_same s t (decide p) e =
      let v : s.trail.values ≡ t.trail.values = (facts e.trail).values in
      let c : s.chooser ≡ t.chooser = e.chooser in
      need_same e _ _ _ refl (λ _. decided_same e p _ _ (cc))
  call_same s t (enqueue code reason) e =
      need_same e _ _ _ refl (λ _.
      need_same e _ _ _ refl (λ _.
      need_same e _ _ _ (free_same e (index code)) (λ _.
      done_same e none (enqueued_same e code reason))))
  call_same s t (learn_unit code) e =
      let w = went_same e 0 in
      need_same e _ _ _ refl (λ _.
      need_same e _ _ _ (free_same w (index code)) (λ _.
      done_same e none (enqueued_same w code NONE)))
  call_same s t (go_back l) e =
      let w = went_same e l in
      let a : s.trail.len ≡ t.trail.len = (facts e.trail).len in
      let b : (went_back n m O l s).trail.len ≡ (went_back n m O l t).trail.len = (facts w.trail).len in
      record { same_status = refl; same_reply = cc; same_left = w }
  call_same s t (bump_reason v) e = let r : s.trail.reasons ≡ t.trail.reasons = (facts e.trail).reasons in need_same e _ _ _ refl (λ _. tune_same e (cc))
  call_same s t (group vs) e = need_same e _ _ _ refl (λ _. tune_same e refl)

  pub extended_alike : (r q : Run n m O) (c : Call) (x y : Result (Session n m O)) → Alike r q → SameResult r.now q.now x y → Alike (extended n m O r c x) (extended n m O q c y)
  extended_alike r q c x y a k = record { answers = rw (k.same_status, k.same_reply, a.answers); ends = k.same_left }

  pub run_alike : (r q : Run n m O) (calls : List Call) → Alike r q → Alike (run n m O r calls) (run n m O q calls)
  unfolding run step
  run_alike r q [] a = a
  run_alike r q (c ∷ calls) a = run_alike (step n m O r c) (step n m O q c) calls (extended_alike r q c _ _ a (call_same r.now q.now c a.ends))

  pub runs_same : RunsSame n m O
  runs_same s t e calls = run_alike _ _ calls (record { answers = refl; ends = e })

  pub read_answers : ReadAnswers n m O
  read_answers s g calls = runs_same s (forgotten s) (read_same s (g.lengths.values_long ∙ sym g.lengths.levels_long)) calls
