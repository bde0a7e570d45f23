-- The calls in words, one after another: what each leaves to be done. Assumes nothing.
use Prim.Native.Nat.{ℕ, zero, suc, ◌+◌, ◌*◌, ◌-◌, ◌<◌, ◌≤◌}
use Rattle.std.specs.Prelude.{◌≡◌, get_or, set}
use Rattle.std.proofs.Math.Path.{refl, sym, ap, subst}
use Rattle.std.proofs.Common.{◌∙◌, arith, take-suc-set}
use Rattle.std.proofs.Math.Option.{Option, none, some}
use mathlib.Core.List.{List, [], ◌∷◌, ◌++◌, append-nil, append_assoc}
use Rattle.std.proofs.Math.ListN.{length, take, length-set}
use Rattle.std.proofs.Math.Seq.{take_all, append_snoc}
use Rattle.book.specs.Calls.{Call}
use Rattle.book.specs.Chooser.{Operations}
use Rattle.book.specs.Session.{status, reply, leaves, Session}
use Rattle.book.specs.Claim.{Run, starting_with, step, run}
use Rattle.book.specs.Read.{calls_of, called, log_lines, logs}
use Rattle.session.specs.Entry.{reply_number, Answered}
use Rattle.words.specs.Words.{word_call, calls_in, answers_of, told}
use Rattle.words.specs.Going.{Part, Told, call_at, calls_from, ends, tells}

-- behind the first three words the calls count from 0 again
module _ (vars ws : List ℕ) (l a b : ℕ) where
  place : (p q : ℕ) → p ≡ suc (suc (suc q)) → get_or (l ∷ (a ∷ (b ∷ ws))) p 0 ≡ get_or ws q 0
  place p q e = ap (λ (k : ℕ). get_or (l ∷ (a ∷ (b ∷ ws))) k 0) e

  at_behind : (i : ℕ) → call_at vars (l ∷ (a ∷ (b ∷ ws))) (i + 1) ≡ call_at vars ws i
  at_behind i = rw (place ((i + 1) * 3) (i * 3) (omega arith), place ((i + 1) * 3 + 1) (i * 3 + 1) (omega arith), place ((i + 1) * 3 + 2) (i * 3 + 2) (omega arith))

  from_behind : (k i : ℕ) → calls_from vars (l ∷ (a ∷ (b ∷ ws))) (i + 1) k ≡ calls_from vars ws i k
  unfolding calls_from
  from_behind zero i = refl
  from_behind (suc k) i = rw (at_behind i, from_behind k (i + 1))

pub all_from : (vars ws : List ℕ) (k : ℕ) → length ws ≡ k * 3 → calls_in vars ws ≡ calls_from vars ws 0 k
unfolding calls_in calls_from
all_from vars [] zero e = refl
all_from vars [] (suc k) e = absurd (omega (arith, e))
all_from vars (l ∷ []) k e = absurd (omega (arith, e))
all_from vars (l ∷ (a ∷ [])) k e = absurd (omega (arith, e))
all_from vars (l ∷ (a ∷ (b ∷ ws))) zero e = absurd (omega (arith, e))
all_from vars (l ∷ (a ∷ (b ∷ ws))) (suc k) e =
    ap (λ (cs : List (Option Call)). word_call vars l a b ∷ cs) (all_from vars ws k (omega (arith, e)) ∙ sym (from_behind vars ws l a b k 0))

-- of the calls that are left, the first; and two words more
left_some : (vars ws : List ℕ) (k i : ℕ) → i < k → calls_from vars ws i (k - i) ≡ call_at vars ws i ∷ calls_from vars ws (i + 1) (k - (i + 1))
unfolding calls_from
left_some vars ws k i more = let e : k - i ≡ suc (k - (i + 1)) = omega (arith, more) in ap (λ (j : ℕ). calls_from vars ws i j) e

two_more : (j q k : ℕ) → q ≡ suc j → k ≡ suc (suc j) → (out : List ℕ) (a b : ℕ) → j + 2 ≤ length out → take k (set (set out j a) q b) ≡ take j out ++ (a ∷ (b ∷ []))
two_more j q k e f out a b room =
    ap (λ (i : ℕ). take k (set (set out j a) i b)) e ∙ ap (λ (i : ℕ). take i (set (set out j a) (suc j) b)) f
    ∙ take-suc-set (set out j a) (suc j) b (omega (arith, room, length-set out j a))
    ∙ ap (λ (l : List ℕ). l ++ (b ∷ [])) (take-suc-set out j a (omega (arith, room)))
    ∙ append_snoc (take j out) a (b ∷ [])

module _ (n m : ℕ) (O : Operations) where
  -- they are the run's
  pub run_ends : (cs : List (Option Call)) (r : Run n m O) → (run n m O r (calls_of cs)).now ≡ (ends n m O) r.now cs
  unfolding ends calls_of run step called
  run_ends [] r = refl
  run_ends (none ∷ cs) r = run_ends cs r
  run_ends (some c ∷ cs) r = run_ends cs (step n m O r c)

  log_tells : (cs : List (Option Call)) (r : Run n m O) → answers_of cs (log_lines n m O r cs) ≡ (tells n m O) r.now cs
  unfolding tells answers_of log_lines step called
  log_tells [] r = refl
  log_tells (none ∷ cs) r = rw (log_tells cs r) refl
  log_tells (some c ∷ cs) r = rw (log_tells cs (step n m O r c)) refl

  pub one_told : {c : Option Call} {i k r : ℕ} {s u : Session n m O} {out out' : List ℕ} → Answered (called n m O s c) s k r u → out' ≡ set (set out (i * 2) k) (i * 2 + 1) r → (Told n m O) c i s out u out'
  one_told {c} {i} {k} {r} {s} {u} {out} a e = record {
    session = a.session;
    wrote = e ∙ ap (λ (j : ℕ). set (set out (i * 2) j) (i * 2 + 1) r) a.status ∙ ap (λ (j : ℕ). set (set out (i * 2) (status (called n m O s c))) (i * 2 + 1) j) a.reply;
  }

-- what the run of the calls leaves and tells
pub told_is : (n m : ℕ) (O : Operations) (vars words : List ℕ) (s : Session n m O) → let cs = calls_in vars words in
    told vars words (run n m O (starting_with n m O s) (calls_of cs)) ≡ (ends n m O s cs, tells n m O s cs)
told_is n m O vars words s =
    let cs = calls_in vars words in
    let r = starting_with n m O s in
    rw (run_ends n m O cs r, logs n m O cs r, log_tells n m O cs r)

module _ (n m : ℕ) (O : Operations) where
  -- nothing is done yet, or one call more, or all of them
  module _ {Good : Session n m O → Type 0} {vars ws : List ℕ} {k : ℕ} {s : Session n m O} where
    pub part_none : {out : List ℕ} → Good s → length out ≡ k * 2 → (Part n m O) Good vars ws k s 0 s out
    part_none good long =
        let e : k ≡ k - 0 = omega arith in
        record { within = omega arith; good = good; long = long; session = ap (λ (j : ℕ). ends n m O s (calls_from vars ws 0 j)) e; answers = ap (λ (j : ℕ). tells n m O s (calls_from vars ws 0 j)) e }

    pub part_more : {i : ℕ} {u v : Session n m O} {out out' : List ℕ} → (Part n m O) Good vars ws k s i u out → i < k → ((c : Option Call) → Good (leaves u (called n m O u c)))
        → Told n m O (call_at vars ws i) i u out v out' → (Part n m O) Good vars ws k s (i + 1) v out'
    unfolding ends tells
    part_more {i} {u} {v} {out} {out'} p more keeps t =
        let x = called n m O u (call_at vars ws i) in
        let a = status x in
        let b = reply_number (reply x) in
        let rest = calls_from vars ws (i + 1) (k - (i + 1)) in
        let wrote : take (i * 2) out ++ (a ∷ (b ∷ [])) ≡ take ((i + 1) * 2) out' =
        sym (two_more (i * 2) (i * 2 + 1) ((i + 1) * 2) (omega arith) (omega arith) out a b (omega (arith, p.long, more))) ∙ sym (ap (λ (l : List ℕ). take ((i + 1) * 2) l) t.wrote) in
        record {
          within = omega (arith, more);
          good = subst Good (sym t.session) (keeps (call_at vars ws i));
          long = ap length t.wrote ∙ length-set (set out (i * 2) a) (i * 2 + 1) b ∙ length-set out (i * 2) a ∙ p.long;
          session = p.session ∙ ap (λ (cs : List (Option Call)). ends n m O u cs) (left_some vars ws k i more) ∙ ap (λ (w : Session n m O). ends n m O w rest) (sym t.session);
          answers = p.answers ∙ ap (λ (cs : List (Option Call)). take (i * 2) out ++ tells n m O u cs) (left_some vars ws k i more)
              ∙ sym (append_assoc (take (i * 2) out) (a ∷ (b ∷ [])) (tells n m O (leaves u x) rest))
              ∙ ap (λ (l : List ℕ). l ++ tells n m O (leaves u x) rest) wrote
              ∙ ap (λ (w : Session n m O). take ((i + 1) * 2) out' ++ tells n m O w rest) (sym t.session);
        }

    pub part_over : {i : ℕ} {u : Session n m O} {out : List ℕ} → (Part n m O) Good vars ws k s i u out → k ≤ i → length ws ≡ k * 3
        → let cs = calls_in vars ws in (u ≡ ends n m O s cs) × (out ≡ tells n m O s cs)
    unfolding ends tells calls_from
    part_over {i} {u} {out} p over long =
        let e : k - i ≡ 0 = omega (arith, over) in
        let session : ends n m O s (calls_from vars ws 0 k) ≡ u = p.session ∙ ap (λ (j : ℕ). ends n m O u (calls_from vars ws i j)) e in
        let answers : tells n m O s (calls_from vars ws 0 k) ≡ out =
        p.answers ∙ ap (λ (j : ℕ). take (i * 2) out ++ tells n m O u (calls_from vars ws i j)) e ∙ append-nil (take (i * 2) out) ∙ take_all (i * 2) out (omega (arith, p.long, over)) in
        rw (all_from vars ws k long) (sym session, sym answers)
