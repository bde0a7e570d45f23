-- Which variables of a good trail are still assigned at level 0: those that are assigned and have this level. Before the first opened
-- level no level is open, and from it on at least one is.
use Rattle.std.specs.Prelude.{ℕ, zero, suc, ◌≤◌, ◌<◌, ◌≡◌, Bool, true, ◌&&◌, eqb}
use Rattle.std.proofs.Common.{sym, ap, ◌∙◌}
use Rattle.std.proofs.Math.Logic.{by_cases}
use native.Mathlib.Omega.{arith}
use Rattle.std.proofs.Math.Decide.{ℕ_discrete, dec_lt}
use borrow.Author.Tests.{ltb-true, lt-ltb, le-ltb, eqb-true, eq-eqb, le-leb, lt-leb}
use Rattle.std.proofs.Math.Dec.{leb}
use Rattle.laws.specs.Tests.{and_left, and_right, and_both, same_test, true_or_false, cond_elim}
use Rattle.laws.specs.Some.{count, count_cut}
use Rattle.lit.specs.Numbers.{unassigned}
use Rattle.lit.specs.Lits.{index, is_assigned}
use Rattle.trail.specs.Trail.{Trail, backtrack_to, backtrack_safe}
use Rattle.trail.specs.Good.{var_at, not_above, GoodTrail}
use Rattle.trail.specs.At.{value_at, level_at, opened_at}
use Rattle.trail.specs.Back.{WentBack, back_kept, back_to_good, went_back}

-- a count is not 0 where the first place passes
count_some : (p : ℕ → Bool) (n : ℕ) → 0 < n → p 0 ≡ true → 0 < count p n
unfolding count
count_some p zero h e = absurd (omega arith)
count_some p (suc n) h e =
    by_cases (ℕ_discrete n 0)
    (λ z. rw (z, e) (omega arith))
    (λ z. cond_elim (λ (k : ℕ). 0 < k) (p n) (λ _. omega arith) (λ _. count_some p n (omega arith) e))

module _ {n m : ℕ} {t : Trail} (g : GoodTrail n m t) where
  -- the level of a place is 0 exactly before the first opened level
  level_low : (i : ℕ) → i < t.len → (0 < t.level → i < opened_at t 0) → level_at t (var_at t i) ≡ 0
  unfolding not_above count
  level_low i b f =
      g.levels_good i b ∙ count_cut (λ k. leb (opened_at t k) i) t.level 0 (omega arith) (λ k c d. by_cases (ℕ_discrete k 0)
      (λ e. rw e (lt-leb (opened_at t 0) i (f (omega arith))))
      (λ e. lt-leb (opened_at t k) i (omega (arith, f (omega arith), g.rising 0 k (omega arith) d))))

  level_high : (i : ℕ) → i < t.len → 0 < t.level → opened_at t 0 ≤ i → 0 < level_at t (var_at t i)
  unfolding not_above
  level_high i b h f = rw (g.levels_good i b) (count_some (λ k. leb (opened_at t k) i) t.level h (le-leb (opened_at t 0) i f))

  module _ (v : ℕ) (h : v < n) where
    -- at level 0 every assigned variable has this level
    flat : t.level ≡ 0 → is_assigned t.values v ≡ is_assigned t.values v && eqb (level_at t v) 0
    flat e =
        true_or_false (is_assigned t.values v)
        (λ a.
        let i = g.held v h (λ z. omega (arith, ltb-true (value_at t v) unassigned a)) in
        let z : level_at t v ≡ 0 = sym (ap (level_at t) i.1.1) ∙ level_low i.0 i.1.0 (λ q. absurd (omega arith)) in
        a ∙ sym (and_both a (eq-eqb (level_at t v) 0 z)))
        (λ a. rw a)

    -- above it, those before the first opened level
    steep : 0 < t.level → is_assigned (backtrack_to 0 t).values v ≡ is_assigned t.values v && eqb (level_at t v) 0
    steep o =
        let u = backtrack_to 0 t in
        let w : WentBack n 0 t u = went_back g o in
        same_test (is_assigned u.values v) _
        (λ a.
        let i = (back_to_good g o).held v h (λ z. omega (arith, ltb-true (value_at u v) unassigned a)) in
        let b : i.0 < opened_at t 0 = omega (arith, i.1.0, w.len_is) in
        let at : var_at t i.0 ≡ v = sym (ap index ((back_kept g o).codes i.0 b)) ∙ i.1.1 in
        let kept : value_at u v ≡ value_at t v = rw at at (w.value_kept i.0 i.1.0) in
        let low : level_at t v ≡ 0 = rw at at (level_low i.0 (omega (arith, g.below 0 o)) (λ _. b)) in
        and_both (lt-ltb (value_at t v) unassigned (omega (arith, ltb-true (value_at u v) unassigned a))) (eq-eqb (level_at t v) 0 low))
        (λ a.
        let held = ltb-true (value_at t v) unassigned (and_left _ _ a) in
        let low : level_at t v ≡ 0 = eqb-true _ _ (and_right (is_assigned t.values v) _ a) in
        let i = g.held v h (λ z. omega arith) in
        let at = i.1.1 in
        by_cases (dec_lt i.0 (opened_at t 0))
        (λ b. let kept : value_at u v ≡ value_at t v = rw at at (w.value_kept i.0 (omega (arith, w.len_is))) in lt-ltb (value_at u v) unassigned (omega arith))
        (λ b. let high : 0 < level_at t v = rw at at (level_high i.0 i.1.0 o (omega arith)) in absurd (omega arith)))

    pub stays_assigned : is_assigned (backtrack_safe 0 t).values v ≡ is_assigned t.values v && eqb (level_at t v) 0
    unfolding backtrack_safe
    stays_assigned =
        by_cases (dec_lt 0 t.level)
        (λ o. rw (lt-ltb 0 t.level o) (steep o))
        (λ o. let e : t.level ≡ 0 = omega arith in rw (le-ltb 0 t.level (omega arith)) (flat e))
