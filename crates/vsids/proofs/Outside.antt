-- Where every place is good, the members have their positions. So positions are good exactly where no more variables have one than there are members, and
-- no variable without one is open. By counting, both ways. Assumes nothing.
use Rattle.std.specs.Prelude.{ℕ, ◌+◌, ◌≤◌, ◌<◌, ◌≡◌, Bool, true, not, ◌&&◌, List, length}
use Rattle.std.proofs.Common.{sym, ap, ◌∙◌, arith}
use Rattle.std.proofs.Math.Bool.{true≢false}
use Rattle.std.proofs.Math.Decide.{ℕ_discrete, dec_lt}
use Rattle.std.proofs.Math.Dec.{eqb}
use Rattle.std.proofs.Math.ListN.{get_or}
use borrow.Author.Tests.{eqb-true, eq-eqb, ne_eqb, lt-ltb}
use Rattle.laws.specs.Tests.{and_left, and_right, and_both, same_test}
use Rattle.laws.specs.Every.{every, every_at, every_all}
use Rattle.laws.specs.Some.{count}
use Rattle.laws.specs.Pigeonhole.{Distinct}
use Rattle.laws.specs.Ranks.{count_rest, at_most_count, one_more_counts, count_at_most}
use Rattle.lit.specs.Numbers.{NONE, max_vars}
use Rattle.vsids.specs.Vsids.{Vsids, places, before}
use Rattle.vsids.specs.Check.{place_ok, position_ok}
use Rattle.vsids.proofs.Check.{member_says, outside_says, inside_says}
use Rattle.vsids.specs.Outside.{outside_at, outside_ok, settled_at}

module _ (n : ℕ) (values : List ℕ) (h : Vsids) (small : n ≤ max_vars) (few : h.len ≤ n) (all : every (place_ok n h.len (before h) (places h)) n ≡ true) where
  inside : ℕ → Bool
  inside v = not (outside_at h.indices v)

  has : (v : ℕ) → (get_or h.indices v 0 ≡ NONE → ⊥) → inside v ≡ true
  unfolding inside
  has v f = rw (ne_eqb (get_or h.indices v 0) NONE f)

  had : (v : ℕ) → inside v ≡ true → get_or h.indices v 0 ≡ NONE → ⊥
  unfolding inside
  had v e q = true≢false (sym e ∙ rw (eq-eqb (get_or h.indices v 0) NONE q))

  -- the members are different variables, each at its position
  own : (i : ℕ) → i < h.len → (get_or h.heap i 0 < n) × (get_or h.indices (get_or h.heap i 0) 0 ≡ i)
  own i l =
      let s = member_says n h.len (before h) (places h) i (every_at (place_ok n h.len (before h) (places h)) n i all (omega arith)) l in
      (s.0, s.1)

  members : Distinct n h.len (λ i. get_or h.heap i 0)
  members = record {
    below = λ i l. (own i l).0;
    once = λ i j b l e. let q : get_or h.indices (get_or h.heap j 0) 0 ≡ i = rw e at (own i (omega arith)).1 in omega (arith, q, (own j l).1);
  }

  placed : (i : ℕ) → i < h.len → inside (get_or h.heap i 0) ≡ true
  placed i l = has (get_or h.heap i 0) (λ q. omega (arith, q, (own i l).1))

  -- as many have a position as there are members: then whoever has one is a member
  module _ (even : count inside n ≡ h.len) (v : ℕ) (l : v < n) (f : get_or h.indices v 0 ≡ NONE → ⊥) where
    there : (get_or h.indices v 0 < h.len → get_or h.heap (get_or h.indices v 0) 0 ≡ v → ⊥) → ⊥
    there g =
        let m : h.len < count inside n = one_more_counts inside n h.len (λ i. get_or h.heap i 0) members placed v l (has v f) (λ i b e. (let q : get_or h.indices v 0 ≡ i = rw e at (own i b).1 in g (omega (arith, q)) (rw q e))) in
        omega (arith, m, even)

    at_position : Dec (get_or h.indices v 0 < h.len) → Dec (get_or h.heap (get_or h.indices v 0) 0 ≡ v) → position_ok values h v ≡ true
    unfolding position_ok
    at_position (yes a) (yes e) = rw (ne_eqb (get_or h.indices v 0) NONE f, lt-ltb (get_or h.indices v 0) h.len a, eq-eqb (get_or h.heap (get_or h.indices v 0) 0) v e)
    at_position (yes a) (no g) = absurd (there (λ _ e. g e))
    at_position (no g) _ = absurd (there (λ a _. g a))

  -- those with a position and those without are all
  rest : count (outside_at h.indices) n + count inside n ≡ n
  unfolding inside
  rest = count_rest (outside_at h.indices) n

  position : count inside n ≡ h.len → (v : ℕ) → v < n → settled_at values h.indices h.decision v ≡ true → Dec (get_or h.indices v 0 ≡ NONE) → position_ok values h v ≡ true
  unfolding position_ok
  position even v l e (yes q) = let t = eq-eqb (get_or h.indices v 0) NONE q in rw t (rw t at e)
  position even v l e (no f) = at_position even v l f (dec_lt (get_or h.indices v 0) h.len) (ℕ_discrete (get_or h.heap (get_or h.indices v 0) 0) v)

  -- where every position is good, no more have one than there are members
  module _ (good : every (position_ok values h) n ≡ true) where
    at : (v : ℕ) → v < n → position_ok values h v ≡ true
    at v l = every_at (position_ok values h) n v good l

    no_more : count inside n ≤ h.len
    no_more = count_at_most inside n h.len (λ v. get_or h.indices v 0)
        (λ v l e. (inside_says values h v (at v l) (had v e)).0)
        (λ v w l k e f q. sym (inside_says values h v (at v l) (had v e)).1 ∙ ap (λ (i : ℕ). get_or h.heap i 0) q ∙ (inside_says values h w (at w k) (had w f)).1)

    none_open : (v : ℕ) → v < n → Dec (get_or h.indices v 0 ≡ NONE) → settled_at values h.indices h.decision v ≡ true
    none_open v l (yes q) = rw (eq-eqb (get_or h.indices v 0) NONE q, outside_says values h v (at v l) q)
    none_open v l (no f) = rw (ne_eqb (get_or h.indices v 0) NONE f)

  pub positions_counted : length h.indices ≡ n → outside_ok values h.indices h.decision h.len ≡ every (position_ok values h) n
  unfolding outside_ok
  positions_counted long =
      let settled = every (settled_at values h.indices h.decision) n in
      let right = eqb (count (outside_at h.indices) n + h.len) n in
      rw long
      (same_test (settled && right) (every (position_ok values h) n)
      (λ e.
      let even : count inside n ≡ h.len = omega (arith, rest, eqb-true _ n (and_right settled right e)) in
      every_all (position_ok values h) n (λ v l. position even v l (every_at (settled_at values h.indices h.decision) n v (and_left settled right e) l) (ℕ_discrete (get_or h.indices v 0) NONE)))
      (λ e. and_both
      (every_all (settled_at values h.indices h.decision) n (λ v l. none_open e v l (ℕ_discrete (get_or h.indices v 0) NONE)))
      (eq-eqb _ n (omega (arith, rest, no_more e, at_most_count inside n h.len (λ i. get_or h.heap i 0) members placed)))))
