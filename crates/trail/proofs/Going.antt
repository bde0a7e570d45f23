-- The two loops of `backtrack_to`: the invariant of the first says that running the definition from here gives what it gives from
-- the start, and a turn keeps it; the second is one fill.
use Prim.Native.Nat.{ℕ, zero, suc, ◌+◌, ◌-◌, ◌≤◌, ◌<◌}
use mathlib.Core.Path.{◌≡◌, refl, ap, ◌∙◌}
use mathlib.Core.List.{List, ◌∷◌, ◌++◌}
use native.Mathlib.Omega.{arith}
use lib.ListN.{length, set, take, drop, replicate, length-set}
use lib.Seq.{get_or-set_other}
use Rattle.std.proofs.Common.{length-drop, add-one}
use Rattle.std.proofs.lemmas.List.{take-append-drop, take-set-le, drop-set-add, drop-set}
use Rattle.lit.specs.Numbers.{NONE}
use Rattle.trail.specs.Trail.{Trail, backstep, backsteps, close_levels, rewind, how_many, backtrack_to, with_levels}
use Rattle.trail.specs.Memory.{Room}

-- one step keeps what safety needs
backstep_room : {n : ℕ} {t : Trail} → Room n t → Room n (backstep t)
unfolding backstep
backstep_room {n} {t} r = record {
  small = r.small;
  lengths = record {
    values_long = simp length-set r.lengths.values_long;
    levels_long = r.lengths.levels_long;
    reasons_long = simp length-set r.lengths.reasons_long;
    trail_long = simp length-set r.lengths.trail_long;
    opened_long = r.lengths.opened_long;
  };
  len_in = omega (arith, r.len_in);
  level_in = r.level_in;
  codes_in = λ i h. rw (get_or-set_other t.trail (t.len - 1) i NONE 0 (omega arith)) (r.codes_in i (omega arith));
}

-- i of k steps are done: the rest leads to `goal`
pub record Undoing (n k : ℕ) (goal : Trail) (i : ℕ) (t : Trail) : Type 0 where
  pub room : Room n t
  pub enough : k - i ≤ t.len
  pub rest : backsteps (k - i) t ≡ goal

pub undo_more : {n k : ℕ} {goal : Trail} {i : ℕ} {t : Trail} → Undoing n k goal i t → i < k → (u : Trail) → u ≡ backstep t → Undoing n k goal (i + 1) u
unfolding backstep backsteps
undo_more {n} {k} {goal} {i} {t} v h u e =
    let q : k - i ≡ suc (k - (i + 1)) = omega arith in
    rw e (record {
      room = backstep_room v.room;
      enough = omega (arith, v.enough);
      rest = rw q at v.rest;
    })

-- closing k levels from level a on fills their places
slid : (k x : ℕ) (ys : List ℕ) → replicate k x ++ (x ∷ ys) ≡ x ∷ (replicate k x ++ ys)
slid zero x ys = refl
slid (suc k) x ys = ap (λ (l : List ℕ). x ∷ l) (slid k x ys)

pub closed : (k a : ℕ) (t : Trail) → a + k ≡ t.level → t.level ≤ length t.opened
    → close_levels k t ≡ with_levels (take a t.opened ++ (replicate k NONE ++ drop k (drop a t.opened))) a t.curr t
unfolding close_levels
closed zero a t e b = let q : a ≡ t.level = omega arith in rw (q, take-append-drop t.level t.opened)
closed (suc k) a t e b =
    let q : t.level - 1 ≡ a + k = omega arith in
    let u = with_levels (set t.opened (a + k) NONE) (a + k) t.curr t in
    rw q (closed k a u refl (simp length-set (omega arith)) ∙ ap (λ (l : List ℕ). with_levels l a t.curr t)
    (rw (take-set-le a t.opened (a + k) NONE (omega arith), drop-set-add a t.opened k NONE, drop-set (drop a t.opened) k NONE (omega (arith, length-drop a t.opened)), add-one, slid)))

-- `backtrack_to` is the two loops and its last line: the steps leave the opened levels as they were
pub backsteps_level : (k : ℕ) (t : Trail) → (backsteps k t).level ≡ t.level
unfolding backstep backsteps
backsteps_level zero t = refl
backsteps_level (suc k) t = backsteps_level k (backstep t)

pub backsteps_opened : (k : ℕ) (t : Trail) → (backsteps k t).opened ≡ t.opened
unfolding backstep backsteps
backsteps_opened zero t = refl
backsteps_opened (suc k) t = backsteps_opened k (backstep t)

pub went_back : (l : ℕ) (t u w : Trail) → u ≡ backsteps (how_many l t) t → w ≡ close_levels (u.level - l) u → rewind w ≡ backtrack_to l t
unfolding backtrack_to
went_back l t u w e q =
    let h : u.level ≡ t.level = ap (λ (x : Trail). x.level) e ∙ backsteps_level (how_many l t) t in
    ap rewind (q ∙ ap (λ (x : ℕ). close_levels (x - l) u) h ∙ ap (close_levels (t.level - l)) e)
