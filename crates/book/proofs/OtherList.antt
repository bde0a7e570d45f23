-- A run goes on over another clause list: of all that every run keeps only the reasons name the list, and the memory tells them.
use Prim.Native.Nat.{ℕ, ◌<◌}
use mathlib.Core.Path.{◌≡◌, subst}
use mathlib.Core.Logic.{by_cases, inl, inr}
use mathlib.Core.Bool.{Bool, true}
use mathlib.Core.List.{List}
use native.Mathlib.Decide.{ℕ_discrete}
use native.Mathlib.Omega.{arith}
use borrow.Author.Tests.{lt-ltb, eq-eqb}
use lib.Dec.{eqb}
use lib.ListN.{get_or}
use lib.Seq.{get_or-set_same, get_or-set_other}
use Rattle.laws.specs.Tests.{true_or_false}
use Rattle.lit.specs.Numbers.{NONE}
use Rattle.lit.specs.Lits.{index}
use Rattle.trail.specs.Good.{GoodTrail, IsReason}
use Rattle.book.specs.Book.{Book, book, values_of, reasons_of, counts}
use Rattle.book.specs.Chooser.{good_reason, Operations, Chooser}
use Rattle.book.specs.Claim.{log, records_of, records_in, NoneRight, EachEvent, Run, Claim}
use Rattle.book.proofs.Books.{Fine, fine_nil, fine_add, length_reasons, says}
use Rattle.book.proofs.Term3.{Moment, Inv}
use Rattle.book.proofs.Memory.{Holds}

is_reason : (m r : ℕ) → IsReason m r → good_reason m r ≡ true
is_reason m r (inl low) = true_or_false (eqb r NONE) (λ e. rw e) (λ e. rw (e, lt-ltb r m low))
is_reason m r (inr none) = rw (eq-eqb r NONE none)

-- a good book is one for each list that has the reasons in it
fine_over : {n m m' : ℕ} {b : Book} → Fine n m b → ((v : ℕ) → v < n → IsReason m' (get_or (reasons_of n b) v 0)) → Fine n m' b
unfolding reasons_of
fine_over fine_nil h = fine_nil
fine_over {n} {m} {m'} (fine_add {c = c} {r = r} {b = b} low good free f) h =
    let long = length_reasons n b in
    fine_add low (is_reason m' r (rw (get_or-set_same (reasons_of n b) (index c) r 0 (omega arith)) at (h (index c) low))) free (fine_over f (λ v k.
    by_cases (ℕ_discrete v (index c))
    (λ e. inr (rw e ((says f (index c) low).no_reason free)))
    (λ d. rw (get_or-set_other (reasons_of n b) (index c) v r 0 d) at (h v k))))

-- the same trail and past, over another list and with the chooser's memory as another chooser has it
abbrev pub over_run : {n m : ℕ} {O : Operations} (n' m' : ℕ) (O' : Operations) → Run n m O → O'.State → Run n' m' O'
over_run n' m' O' r c = record { now = record { trail = r.now.trail; chooser = c }; past = r.past }

module _ {n m n' m' : ℕ} {O O' : Operations} (r : Run n m O) (c : O'.State) (e : n ≡ n') (same : O'.switches ≡ O.switches) where
  pub claim_over : Claim n m O r → Claim n' m' O' (over_run n' m' O' r c)
  claim_over k = record {
    told = subst (λ (j : ℕ). records_of r.now.trail ≡ records_in j (book (log r.past))) e k.told;
    none_right = rw same (subst (λ (j : ℕ). EachEvent (NoneRight j O.switches) r.past) e k.none_right);
    back_right = k.back_right;
    unit_right = k.unit_right;
  }

  pub over_list : (C : Chooser n m O) (C' : Chooser n' m' O') → GoodTrail n' m' r.now.trail
      → ((values : List ℕ) (on : ℕ → Bool) → C.ok values on r.now.chooser → C'.ok values on c) → Inv n m O C r → Inv n' m' O' C' (over_run n' m' O' r c)
  over_list C C' good carry i =
      let b = book (log r.past) in
      record {
        good = record {
          fine = subst (λ (j : ℕ). Fine j m' b) e (fine_over i.good.fine (λ v k. rw i.good.holds.reasons at (good.reasons_good v (omega arith))));
          holds = subst (λ (j : ℕ). Holds j b r.now.trail) e i.good.holds;
          ok = subst (λ (j : ℕ). C'.ok (values_of j b) (counts O'.switches (log r.past)) c) e (rw same (carry _ _ i.good.ok));
        };
        moments = subst (λ (j : ℕ). EachEvent (Moment j) r.past) e i.moments;
        claim = claim_over i.claim;
      }
