-- Going back to level l of a good trail leaves the part below that level's opening, and it is good.
use Rattle.std.specs.Prelude.{ℕ, ◌-◌, ◌≤◌, ◌<◌, ◌≡◌, ◌≢◌, ◌++◌, length, get_or, take, replicate, ltb}
use Rattle.std.proofs.Math.Path.{refl, subst}
use Rattle.std.proofs.Common.{sym, ap, ◌∙◌, inr, arith}
use Rattle.std.proofs.Math.Logic.{by_cases}
use Rattle.std.proofs.Math.Decide.{ℕ_discrete}
use borrow.Author.Tests.{ltb-true, lt-leb}
use Rattle.std.proofs.Math.Dec.{leb}
use Rattle.laws.specs.Tests.{cond_elim}
use Rattle.laws.specs.Some.{count_cut, count_same}
use Rattle.laws.specs.Prefix.{prefix_is}
use Rattle.lit.specs.Numbers.{NONE, unassigned}
use Rattle.lit.specs.Lits.{index}
use Rattle.trail.specs.Trail.{Trail, backsteps, close_levels, rewind, how_many, backtrack_to, backtrack_safe, learn_unit}
use Rattle.trail.specs.Good.{var_at, not_above, GoodTrail}
use Rattle.trail.specs.At.{value_at, opened_at}
use Rattle.trail.specs.Laws.{enq_good}
use Rattle.trail.specs.Undoing.{StackOf, Kept, stack, clean, kept_clean, backsteps_stack, close_stack, kept_kept, steps_kept, close_kept}

-- u is what going back to level l leaves of t, over n variables
pub record WentBack (n l : ℕ) (t u : Trail) : Type 0 where
  -- the first places of the trail, up to where level l was left, and the first l opened levels; then NONE
  pub len_is : u.len ≡ get_or t.opened l 0
  pub level_is : u.level ≡ l
  pub curr_is : u.curr ≡ u.len
  pub trail_is : u.trail ≡ take u.len t.trail ++ replicate (n - u.len) NONE
  pub opened_is : u.opened ≡ take l t.opened ++ replicate (n - l) NONE
  pub levels_is : u.levels ≡ t.levels
  -- the variables there keep value and reason; all others are unassigned and have none
  pub values_long : length u.values ≡ n
  pub reasons_long : length u.reasons ≡ n
  pub value_kept : (i : ℕ) → i < u.len → get_or u.values (var_at t i) 0 ≡ get_or t.values (var_at t i) 0
  pub reason_kept : (i : ℕ) → i < u.len → get_or u.reasons (var_at t i) 0 ≡ get_or t.reasons (var_at t i) 0
  pub value_gone : (v : ℕ) → v < n → ((i : ℕ) → i < u.len → var_at t i ≢ v) → get_or u.values v 0 ≡ unassigned
  pub reason_gone : (v : ℕ) → v < n → ((i : ℕ) → i < u.len → var_at t i ≢ v) → get_or u.reasons v 0 ≡ NONE

module _ {n m l : ℕ} {t : Trail} (g : GoodTrail n m t) (h : l < t.level) where
  back_stack : StackOf n m (backtrack_to l t)
  unfolding backtrack_to rewind
  back_stack = close_stack (t.level - l) (backsteps (how_many l t) t) (backsteps_stack (how_many l t) t (stack g) (omega arith))

  pub back_kept : Kept n (opened_at t l) l t (backtrack_to l t)
  unfolding backtrack_to rewind
  back_kept =
      let b = backsteps (how_many l t) t in
      let steps : Kept n (opened_at t l) t.level t b = steps_kept (how_many l t) (opened_at t l) t (stack g) (clean g) (omega (arith, g.below l h)) in
      let closed : Kept n (opened_at t l) l b (close_levels (t.level - l) b) = subst (λ (k : ℕ). Kept n k l b (close_levels (t.level - l) b)) steps.len_is (close_kept (t.level - l) l b (kept_clean g.level_in steps) (omega (arith, steps.level_is))) in
      let all = kept_kept (omega arith) (omega arith) steps closed in
      record {
        len_is = all.len_is;
        level_is = all.level_is;
        levels_is = all.levels_is;
        codes = all.codes;
        reasons = all.reasons;
        opens = all.opens;
        opened_unused = all.opened_unused;
        opened_long = all.opened_long;
      }

  -- the levels not above a kept place are those that were
  back_levels : (i : ℕ) → i < opened_at t l → not_above t.opened t.level i ≡ not_above (backtrack_to l t).opened l i
  unfolding not_above
  back_levels i b =
      let k = back_kept in
      count_cut (λ j. leb (opened_at t j) i) t.level l (omega arith)
      (λ j c d. by_cases (ℕ_discrete l j)
      (λ e. rw (← e) (lt-leb (opened_at t l) i b))
      (λ e. lt-leb (opened_at t j) i (omega (arith, g.rising l j (omega arith) d))))
      ∙ count_same (λ j. leb (opened_at t j) i) (λ j. leb (opened_at (backtrack_to l t) j) i) l (λ j c. rw (k.opens j c))

  back_curr : (backtrack_to l t).curr ≡ (backtrack_to l t).len
  unfolding backtrack_to rewind
  back_curr = refl

  pub back_to_good : GoodTrail n m (backtrack_to l t)
  back_to_good =
      let s = back_stack in
      let k = back_kept in
      record {
        lengths = record {
          values_long = s.values_long;
          levels_long = rw k.levels_is g.lengths.levels_long;
          reasons_long = s.reasons_long;
          trail_long = s.trail_long;
          opened_long = k.opened_long;
        };
        values_good = s.values_good;
        reasons_good = s.reasons_good;
        no_reason = s.no_reason;
        len_in = s.len_in;
        level_in = omega (arith, k.level_is, g.level_in);
        curr_in = omega (arith, back_curr);
        codes_in = s.codes_in;
        agrees = s.agrees;
        held = s.held;
        once = s.once;
        rising = λ i j b c.
            let d : j < l = omega (arith, k.level_is) in
            rw (k.opens i (omega arith), k.opens j d) (g.rising i j b (omega arith));
        below = λ i b.
            let d : i < l = omega (arith, k.level_is) in
            rw (k.opens i d, k.len_is) (g.rising i l d h);
        levels_good = λ i b.
            let d : i < opened_at t l = omega (arith, k.len_is) in
            rw (k.codes i d, k.levels_is, k.level_is) (g.levels_good i (omega (arith, g.below l h)) ∙ back_levels i d);
        trail_unused = s.trail_unused;
        opened_unused = λ i b. k.opened_unused i (omega (arith, k.level_is));
      }

  -- a variable that stands on no kept place is unassigned
  gone : (v : ℕ) → v < n → ((i : ℕ) → i < opened_at t l → var_at t i ≢ v) → value_at (backtrack_to l t) v ≡ unassigned
  gone v b f = by_cases (ℕ_discrete (value_at (backtrack_to l t) v) unassigned) (λ e. e) (λ e.
      let w = back_stack.held v b e in
      let k = back_kept in
      let c : w.0 < opened_at t l = omega (arith, w.1.0, k.len_is) in
      absurd (f w.0 c (sym (ap index (k.codes w.0 c)) ∙ w.1.1)))

  pub went_back : WentBack n l t (backtrack_to l t)
  went_back =
      let s = back_stack in
      let k = back_kept in
      record {
        len_is = k.len_is;
        level_is = k.level_is;
        curr_is = back_curr;
        trail_is = rw k.len_is (prefix_is n (opened_at t l) t.trail (backtrack_to l t).trail NONE 0 g.lengths.trail_long s.trail_long (omega (arith, g.below l h, g.len_in)) k.codes (λ i b. s.trail_unused i (omega (arith, k.len_is))));
        opened_is = prefix_is n l t.opened (backtrack_to l t).opened NONE 0 g.lengths.opened_long k.opened_long (omega (arith, g.level_in)) k.opens k.opened_unused;
        levels_is = k.levels_is;
        values_long = s.values_long;
        reasons_long = s.reasons_long;
        value_kept = λ i b. rw (k.codes i (omega (arith, k.len_is))) at (s.agrees i b) ∙ sym (g.agrees i (omega (arith, k.len_is, g.below l h)));
        reason_kept = λ i b. k.reasons i (omega (arith, k.len_is));
        value_gone = λ v b f. gone v b (λ i c. f i (omega (arith, k.len_is)));
        reason_gone = λ v b f. s.no_reason v b (gone v b (λ i c. f i (omega (arith, k.len_is))));
      }

-- `backtrack_safe` puts nothing on the trail
pub back_len : {n m : ℕ} (l : ℕ) {t : Trail} → GoodTrail n m t → (backtrack_safe l t).len ≤ t.len
unfolding backtrack_safe
back_len l {t} g =
    cond_elim (λ (u : Trail). u.len ≤ t.len) (ltb l t.level)
    (λ e. let h = ltb-true l t.level e in omega (arith, (back_kept g h).len_is, g.below l h))
    (λ _. omega arith)

-- `backtrack_safe` and `learn_unit` keep a good trail good
pub back_good : {n m : ℕ} (l : ℕ) {t : Trail} → GoodTrail n m t → GoodTrail n m (backtrack_safe l t)
unfolding backtrack_safe
back_good {n} {m} l {t} g = cond_elim (GoodTrail n m) (ltb l t.level) (λ e. back_to_good g (ltb-true l t.level e)) (λ _. g)

pub learn_good : {n m : ℕ} (code : ℕ) {t : Trail} → GoodTrail n m t → index code < n → value_at (backtrack_safe 0 t) (index code) ≡ unassigned → GoodTrail n m (learn_unit code t)
unfolding learn_unit
learn_good code g h e = enq_good code NONE (back_good 0 g) h e (inr refl)
