-- The group's order: where different variables have different stamps, what `sort_by_stamp` leaves is `by_stamp`: `sorted_is`.
-- Assumes nothing.
use Prim.Native.Nat.{ℕ, zero, suc, ◌<◌, ◌≤◌}
use Rattle.std.specs.Prelude.{◌≡◌, ◌≢◌, leb}
use Rattle.std.proofs.Math.Path.{refl, sym, ap}
use Rattle.std.proofs.Common.{◌∙◌, arith}
use Rattle.std.proofs.Math.Logic.{by_cases}
use Rattle.std.proofs.Math.Bool.{and-false}
use mathlib.Core.List.{List, [], ◌∷◌}
use Rattle.std.proofs.Math.Decide.{ℕ_discrete}
use Rattle.std.proofs.Math.ListN.{length, get_or}
use Rattle.std.proofs.lemmas.List.{length-map}
use borrow.Author.Tests.{eq-eqb, ne_eqb, leb-true, leb-false}
use Rattle.laws.specs.Tests.{cond_elim}
use Rattle.util.specs.Pairs.{times}
use Rattle.util.specs.Rising.{Rising, SortedByStamp, VarByStamp, one_result}
use Rattle.vmtf.specs.Vmtf.{Vmtf, stamps_of, insert_by_stamp, by_stamp, Vars}
use Rattle.vmtf.specs.Order.{count, count_here, count_there, count_nil, at_every, every_at}
use Rattle.vmtf.specs.Good.{Falls, GoodList, falls_below, in_order}
use Rattle.vmtf.specs.Laws.{stamp_at}
use Rattle.vmtf.specs.Moves.{sort_count}

module _ (ts : List ℕ) where
  -- ---- the sort is a sort

  -- each stamp of vs is at least b
  AtLeast : ℕ → List ℕ → Type 0
  AtLeast b [] = Unit {0}
  AtLeast b (v ∷ vs) = (b ≤ get_or ts v 0) × AtLeast b vs

  -- vs rise by stamp
  Rises : List ℕ → Type 0
  Rises [] = Unit {0}
  Rises (v ∷ vs) = AtLeast (get_or ts v 0) vs × Rises vs

  at_least_weaken : (b c : ℕ) (vs : List ℕ) → c ≤ b → AtLeast b vs → AtLeast c vs
  unfolding AtLeast
  at_least_weaken b c [] h a = tt
  at_least_weaken b c (v ∷ vs) h a = (omega (arith, a.0), at_least_weaken b c vs h a.1)

  insert_at_least : (b v : ℕ) (vs : List ℕ) → b ≤ get_or ts v 0 → AtLeast b vs → AtLeast b (insert_by_stamp ts v vs)
  unfolding AtLeast insert_by_stamp
  insert_at_least b v [] h a = (h, tt)
  insert_at_least b v (x ∷ xs) h a = cond_elim (AtLeast b) (leb (get_or ts v 0) (get_or ts x 0)) (λ e. (h, a)) (λ e. (a.0, insert_at_least b v xs h a.1))

  insert_rises : (v : ℕ) (vs : List ℕ) → Rises vs → Rises (insert_by_stamp ts v vs)
  unfolding Rises AtLeast insert_by_stamp
  insert_rises v [] r = (tt, tt)
  insert_rises v (x ∷ xs) r =
      cond_elim Rises (leb (get_or ts v 0) (get_or ts x 0))
      (λ e. let h : get_or ts v 0 ≤ get_or ts x 0 = leb-true _ _ e in ((h, at_least_weaken (get_or ts x 0) (get_or ts v 0) xs h r.0), r))
      (λ e. let h : get_or ts x 0 < get_or ts v 0 = leb-false _ _ e in (insert_at_least (get_or ts x 0) v xs (omega arith) r.0, insert_rises v xs r.1))

  by_stamp_rises : (vs : List ℕ) → Rises (by_stamp ts vs)
  unfolding Rises by_stamp
  by_stamp_rises [] = tt
  by_stamp_rises (v ∷ vs) = insert_rises v (by_stamp ts vs) (by_stamp_rises vs)

  at_least_at : (b : ℕ) (vs : List ℕ) → AtLeast b vs → (j : ℕ) → j < length (stamps_of ts vs) → b ≤ get_or (stamps_of ts vs) j 0
  unfolding AtLeast
  at_least_at b [] a j h = absurd (omega arith)
  at_least_at b (v ∷ vs) a zero h = a.0
  at_least_at b (v ∷ vs) a (suc j) h = at_least_at b vs a.1 j (omega arith)

  rises_rising : (vs : List ℕ) → Rises vs → Rising (stamps_of ts vs)
  unfolding Rises
  rises_rising [] r i j a b = absurd (omega arith)
  rises_rising (v ∷ vs) r zero zero a b = absurd (omega arith)
  rises_rising (v ∷ vs) r zero (suc j) a b = at_least_at (get_or ts v 0) vs r.0 j (omega arith)
  rises_rising (v ∷ vs) r (suc i) zero a b = absurd (omega arith)
  rises_rising (v ∷ vs) r (suc i) (suc j) a b = rises_rising vs r.1 i j (omega arith) (omega arith)

  -- ---- and keeps the pairs

  length_insert : (v : ℕ) (vs : List ℕ) → length (insert_by_stamp ts v vs) ≡ suc (length vs)
  unfolding insert_by_stamp
  length_insert v [] = refl
  length_insert v (x ∷ xs) = cond_elim (λ (o : List ℕ). length o ≡ suc (suc (length xs))) (leb (get_or ts v 0) (get_or ts x 0)) (λ e. refl) (λ e. ap suc (length_insert v xs))

  length_by_stamp : (vs : List ℕ) → length (by_stamp ts vs) ≡ length vs
  unfolding by_stamp
  length_by_stamp [] = refl
  length_by_stamp (v ∷ vs) = length_insert v (by_stamp ts vs) ∙ ap suc (length_by_stamp vs)

  -- a pair of a stamp and a variable stands as often as the variable, where the stamp is its own, and else not at all
  times_own : (a b : ℕ) (vs : List ℕ) → get_or ts b 0 ≡ a → times a b (stamps_of ts vs) vs ≡ count b vs
  unfolding times
  times_own a b [] e = sym (count_nil b)
  times_own a b (v ∷ vs) e =
      by_cases (ℕ_discrete v b)
      (λ q. rw (eq-eqb (get_or ts v 0) a (ap (λ (u : ℕ). get_or ts u 0) q ∙ e), eq-eqb v b q) (omega (arith, count_here b v vs q, times_own a b vs e)))
      (λ d. rw (ne_eqb v b d, and-false) (omega (arith, count_there b v vs d, times_own a b vs e)))

  times_other : (a b : ℕ) (vs : List ℕ) → get_or ts b 0 ≢ a → times a b (stamps_of ts vs) vs ≡ 0
  unfolding times
  times_other a b [] n = refl
  times_other a b (v ∷ vs) n =
      by_cases (ℕ_discrete v b)
      (λ q. rw (ne_eqb (get_or ts v 0) a (λ z. n (sym (ap (λ (u : ℕ). get_or ts u 0) q) ∙ z))) (omega (arith, times_other a b vs n)))
      (λ d. rw (ne_eqb v b d, and-false) (omega (arith, times_other a b vs n)))

  by_stamp_sorts : (vs : List ℕ) → SortedByStamp (stamps_of ts vs) vs (stamps_of ts (by_stamp ts vs)) (by_stamp ts vs)
  by_stamp_sorts vs = record {
    rising = rises_rising (by_stamp ts vs) (by_stamp_rises vs);
    pairs = record {
      left_long = length-map (by_stamp ts vs) _ ∙ length_by_stamp vs ∙ sym (length-map vs _);
      right_long = length_by_stamp vs;
      same = λ a b. by_cases (ℕ_discrete (get_or ts b 0) a)
          (λ e. times_own a b (by_stamp ts vs) e ∙ sort_count ts b vs ∙ sym (times_own a b vs e))
          (λ n. times_other a b (by_stamp ts vs) n ∙ sym (times_other a b vs n));
    };
  }

  -- no other result is possible
  pub sorted_is : (vs : List ℕ) {s v s' v' : List ℕ} → VarByStamp (stamps_of ts vs) vs → s ≡ stamps_of ts vs → v ≡ vs → SortedByStamp s v s' v' → v' ≡ by_stamp ts vs
  sorted_is vs {s} {v} {s'} {v'} d a b p = (one_result (stamps_of ts vs) vs s' v' (stamps_of ts (by_stamp ts vs)) (by_stamp ts vs) (length-map vs _) (rw (a, b) at p) (by_stamp_sorts vs) d).1

  pub by_stamp_vars : (n : ℕ) (vs : List ℕ) → Vars n vs → Vars n (by_stamp ts vs)
  by_stamp_vars n vs h i b = at_every (λ v. v < n) vs h _ (rw (sort_count ts (get_or (by_stamp ts vs) i 0) vs) at (every_at (by_stamp ts vs) i b))

-- ---- in a good list different variables have different stamps

falls_apart : (ts : List ℕ) (b : ℕ) (o : List ℕ) → Falls ts b o → (u w : ℕ) → 0 < count u o → 0 < count w o → get_or ts u 0 ≡ get_or ts w 0 → u ≡ w
unfolding Falls
falls_apart ts b [] f u w hu hw e = absurd (omega (arith, count_nil u))
falls_apart ts b (x ∷ xs) f u w hu hw e =
    by_cases (ℕ_discrete x u)
    (λ p. by_cases (ℕ_discrete x w)
    (λ q. sym p ∙ q)
    (λ d. absurd (omega (arith, falls_below ts (get_or ts x 0) xs f.1 w (omega (arith, count_there w x xs d)), ap (λ (z : ℕ). get_or ts z 0) p))))
    (λ d. by_cases (ℕ_discrete x w)
    (λ q. absurd (omega (arith, falls_below ts (get_or ts x 0) xs f.1 u (omega (arith, count_there u x xs d)), ap (λ (z : ℕ). get_or ts z 0) q)))
    (λ n. falls_apart ts (get_or ts x 0) xs f.1 u w (omega (arith, count_there u x xs d)) (omega (arith, count_there w x xs n)) e))

pub group_apart : {n : ℕ} {order : List ℕ} {l : Vmtf} → GoodList n order l → (vs : List ℕ) → Vars n vs → VarByStamp (stamps_of l.ts vs) vs
group_apart {n} {order} {l} g vs h i j a b e =
    let p : i < length vs = rw length-map at a in
    let q : j < length vs = rw length-map at b in
    falls_apart l.ts l.timestamp order g.falls (get_or vs i 0) (get_or vs j 0) (in_order g.linked _ (h i p)) (in_order g.linked _ (h j q)) (stamp_at l.ts vs i p ∙ e ∙ sym (stamp_at l.ts vs j q))
