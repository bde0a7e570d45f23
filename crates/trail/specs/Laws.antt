-- Laws of the trail: a fresh trail is good, and putting a literal on a good trail keeps it good.
use Rattle.std.specs.Prelude.{ℕ, zero, suc, ◌+◌, ◌-◌, ◌≤◌, ◌<◌, ◌≡◌, refl, ◌≢◌, false, List, length, get_or, set}
use Rattle.std.proofs.Common.{sym, ap, ◌∙◌, inr, arith, get_or-set_same, get_or-set_other}
use Rattle.std.proofs.Math.Logic.{by_cases}
use Rattle.std.proofs.Math.Decide.{ℕ_discrete}
use borrow.Author.Tests.{le-leb, lt-leb, ltb-false}
use Rattle.std.proofs.Math.ListN.{length-set}
use Rattle.std.proofs.lemmas.List.{length-replicate, get_or-replicate, set-get_or}
use Rattle.std.proofs.Math.Dec.{leb}
use Rattle.laws.specs.Lists.{set_cases}
use Rattle.laws.specs.Some.{count_all, count_cut, count_same}
use Rattle.laws.specs.Pigeonhole.{missed}
use Rattle.lit.specs.Numbers.{NONE, unassigned, max_vars}
use Rattle.lit.specs.Lits.{index, polarity, new, is_assigned}
use Rattle.trail.specs.Trail.{Trail, fresh_trail, enq_assignment, enq_decision}
use Rattle.trail.specs.Memory.{Room, RoomFor, Levelled}
use Rattle.trail.specs.Good.{var_at, not_above, IsReason, GoodTrail}
use Rattle.trail.specs.At.{value_at, opened_at}

pub fresh_good : (n m : ℕ) → GoodTrail n m (fresh_trail n)
unfolding fresh_trail
fresh_good n m = record {
  lengths = record {
    values_long = length-replicate n unassigned;
    levels_long = length-replicate n NONE;
    reasons_long = length-replicate n NONE;
    trail_long = length-replicate n NONE;
    opened_long = length-replicate n NONE;
  };
  values_good = λ v h. omega (arith, get_or-replicate n v unassigned 0 h);
  reasons_good = λ v h. inr (get_or-replicate n v NONE 0 h);
  no_reason = λ v h _. get_or-replicate n v NONE 0 h;
  len_in = omega arith;
  level_in = omega arith;
  curr_in = omega arith;
  codes_in = λ i h. absurd (omega arith);
  agrees = λ i h. absurd (omega arith);
  held = λ v h e. absurd (e (get_or-replicate n v unassigned 0 h));
  once = λ i j b h. absurd (omega arith);
  rising = λ j k b h. absurd (omega arith);
  below = λ k h. absurd (omega arith);
  levels_good = λ i h. absurd (omega arith);
  trail_unused = λ i _ h. get_or-replicate n i NONE 0 h;
  opened_unused = λ k _ h. get_or-replicate n k NONE 0 h;
}

module _ {n m : ℕ} {t : Trail} (g : GoodTrail n m t) where
  -- a variable on the trail is assigned
  pub on_trail : (i : ℕ) → i < t.len → value_at t (var_at t i) ≢ unassigned
  on_trail i h e = omega (arith, g.agrees i h, e)

  -- there are no more levels than literals
  opened_least : (k : ℕ) → k < t.level → k ≤ opened_at t k
  opened_least zero h = omega arith
  opened_least (suc k) h = omega (arith, opened_least k (omega arith), g.rising k (suc k) (omega arith) h)

  pub level_len : t.level ≤ t.len
  level_len = by_cases (ℕ_discrete t.level 0) (λ e. omega arith) (λ e. omega (arith, opened_least (t.level - 1) (omega arith), g.below (t.level - 1) (omega arith)))

  -- a variable that is not assigned has the value for that
  pub not_assigned : (v : ℕ) → v < n → is_assigned t.values v ≡ false → value_at t v ≡ unassigned
  not_assigned v h e = omega (arith, g.values_good v h, ltb-false (value_at t v) unassigned e)

  -- while a variable is unassigned there is room on the trail
  pub room_for : (v : ℕ) → v < n → value_at t v ≡ unassigned → t.len < n
  room_for v h e =
      missed n t.len v (var_at t) (record { below = g.codes_in; once = g.once }) h
      (λ i b q. on_trail i b (ap (value_at t) q ∙ e))

  -- what safety needs
  pub room : n ≤ max_vars → Room n t
  room h = record { small = h; lengths = g.lengths; len_in = g.len_in; level_in = g.level_in; codes_in = g.codes_in }

  pub room_var : n ≤ max_vars → (v : ℕ) → v < n → value_at t v ≡ unassigned → RoomFor n v t
  room_var h v b e = record { room = room h; free = room_for v b e; var_in = b }

  pub levelled : n ≤ max_vars → Levelled n t
  levelled h = record { room = room h; opened_in = λ k b. omega (arith, g.below k b) }

-- The opened levels o, of which k are in use, after a literal was put on the trail t: for the places before it they say the same, for its
-- own place they say lv.
record Grown (n : ℕ) (t : Trail) (o : List ℕ) (k lv : ℕ) : Type 0 where
  long : length o ≡ n
  within : k ≤ n
  rising : (i j : ℕ) → i < j → j < k → get_or o i 0 < get_or o j 0
  below : (i : ℕ) → i < k → get_or o i 0 < t.len + 1
  unused : (i : ℕ) → k ≤ i → i < n → get_or o i 0 ≡ NONE
  before : (i : ℕ) → i < t.len → not_above o k i ≡ not_above t.opened t.level i
  here : not_above o k t.len ≡ lv

-- the trail with literal c, of variable v with value p, put on it
abbrev push : Trail → ℕ → ℕ → ℕ → ℕ → ℕ → List ℕ → ℕ → Trail
push t c v p r lv o k = record {
  values = set t.values v p;
  levels = set t.levels v lv;
  reasons = set t.reasons v r;
  trail = set t.trail t.len c;
  opened = o;
  len = t.len + 1;
  level = k;
  curr = t.curr;
}

module _ {n m : ℕ} {t : Trail} (g : GoodTrail n m t) (c v p r lv : ℕ) (o : List ℕ) (k : ℕ) (in_range : v < n) (free : value_at t v ≡ unassigned)
    (var_is : index c ≡ v) (value-is : polarity c ≡ p) (reason : IsReason m r) (w : Grown n t o k lv) where
  -- v is none of the trail's variables
  other : (i : ℕ) → i < t.len → var_at t i ≢ v
  other i h q = on_trail g i h (ap (value_at t) q ∙ free)

  push_good : GoodTrail n m (push t c v p r lv o k)
  push_good =
      let l = g.lengths in
      let room : t.len < n = room_for g v in_range free in
      record {
        lengths = record {
          values_long = simp length-set l.values_long;
          levels_long = simp length-set l.levels_long;
          reasons_long = simp length-set l.reasons_long;
          trail_long = simp length-set l.trail_long;
          opened_long = w.long;
        };
        values_good = λ u h. set_cases (λ (x : ℕ). x ≤ unassigned) t.values v u p 0 (omega arith) (λ _. omega (arith, value-is)) (λ _. g.values_good u h);
        reasons_good = λ u h. set_cases (IsReason m) t.reasons v u r 0 (omega arith) (λ _. reason) (λ _. g.reasons_good u h);
        no_reason = λ u h e. by_cases (ℕ_discrete u v)
            (λ q. let z : get_or (set t.values v p) v 0 ≡ unassigned = rw q at e in absurd (omega (arith, value-is, get_or-set_same t.values v p 0 (omega arith))))
            (λ q. rw (get_or-set_other t.reasons v u r 0 q) (g.no_reason u h (sym (get_or-set_other t.values v u p 0 q) ∙ e)));
        len_in = omega arith;
        level_in = w.within;
        curr_in = omega (arith, g.curr_in);
        codes_in = λ i h. set_cases (λ (x : ℕ). index x < n) t.trail t.len i c 0 (omega arith) (λ _. rw var_is in_range) (λ e. g.codes_in i (omega arith));
        agrees = λ i h. set_cases (λ (x : ℕ). get_or (set t.values v p) (index x) 0 ≡ polarity x) t.trail t.len i c 0 (omega arith)
            (λ _. rw (var_is, value-is) (get_or-set_same t.values v p 0 (omega arith)))
            (λ e. rw (get_or-set_other t.values v (var_at t i) p 0 (other i (omega arith))) (g.agrees i (omega arith)));
        held = λ u h e. by_cases (ℕ_discrete u v)
            (λ q. (t.len, (omega arith, ap index (get_or-set_same t.trail t.len c 0 (omega arith)) ∙ var_is ∙ sym q)))
            (λ q.
            let s = g.held u h (λ z. e (get_or-set_other t.values v u p 0 q ∙ z)) in
            (s.0, (omega (arith, s.1.0), ap index (get_or-set_other t.trail t.len s.0 c 0 (omega (arith, s.1.0))) ∙ s.1.1)));
        once = λ i j b h. rw (get_or-set_other t.trail t.len i c 0 (omega arith)) (set_cases (λ (x : ℕ). var_at t i ≢ index x) t.trail t.len j c 0 (omega arith)
            (λ _. rw var_is (other i (omega arith)))
            (λ e. g.once i j b (omega arith)));
        rising = w.rising;
        below = w.below;
        levels_good = λ i h. set_cases (λ (x : ℕ). get_or (set t.levels v lv) (index x) 0 ≡ not_above o k i) t.trail t.len i c 0 (omega arith)
            (λ e. rw (var_is, e, w.here) (get_or-set_same t.levels v lv 0 (omega arith)))
            (λ e. rw (get_or-set_other t.levels v (var_at t i) lv 0 (other i (omega arith)), w.before i (omega arith)) (g.levels_good i (omega arith)));
        trail_unused = λ i u h. rw (get_or-set_other t.trail t.len i c 0 (omega arith)) (g.trail_unused i (omega arith) h);
        opened_unused = w.unused;
      }

-- `enq_assignment` of an unassigned variable
enq_grown : {n m : ℕ} {t : Trail} → GoodTrail n m t → Grown n t t.opened t.level t.level
unfolding not_above
enq_grown {t = t} g = record {
  long = g.lengths.opened_long;
  within = g.level_in;
  rising = g.rising;
  below = λ i h. omega (arith, g.below i h);
  unused = g.opened_unused;
  before = λ i h. refl;
  here = count_all (λ k. leb (opened_at t k) t.len) t.level (λ k h. le-leb (opened_at t k) t.len (omega (arith, g.below k h)));
}

pub enq_good : {n m : ℕ} {t : Trail} (code reason : ℕ) → GoodTrail n m t → index code < n → value_at t (index code) ≡ unassigned → IsReason m reason → GoodTrail n m (enq_assignment code reason t)
unfolding enq_assignment
enq_good {t = t} code reason g h e r = push_good g code (index code) (polarity code) reason t.level t.opened t.level h e refl refl r (enq_grown g)

-- `enq_decision` of an unassigned variable
module _ {n m : ℕ} {t : Trail} (g : GoodTrail n m t) (room : t.len < n) where
  abbrev opens : List ℕ
  opens = set t.opened t.level t.len

  kept : (k : ℕ) → k < t.level → get_or opens k 0 ≡ opened_at t k
  kept k h = get_or-set_other t.opened t.level k t.len 0 (omega arith)

  -- the new level is the last of the opened ones
  with_new : (P : ℕ → Type 0) (k : ℕ) → k < t.level + 1 → P t.len → (k < t.level → P (opened_at t k)) → P (get_or opens k 0)
  with_new P k h f q = set_cases P t.opened t.level k t.len 0 (omega (arith, level_len g, g.lengths)) (λ _. f) (λ e. q (omega arith))

  opens_below : (k : ℕ) → k < t.level + 1 → get_or opens k 0 < t.len + 1
  opens_below k h = with_new (λ (x : ℕ). x < t.len + 1) k h (omega arith) (λ b. omega (arith, g.below k b))

  dec_grown : Grown n t opens (t.level + 1) (t.level + 1)
  unfolding not_above
  dec_grown = record {
    long = simp length-set g.lengths.opened_long;
    within = omega (arith, level_len g);
    rising = λ i j b h. rw (kept i (omega arith)) (with_new (λ (x : ℕ). opened_at t i < x) j h (g.below i (omega arith)) (g.rising i j b));
    below = opens_below;
    unused = λ k b h. rw (get_or-set_other t.opened t.level k t.len 0 (omega arith)) (g.opened_unused k (omega arith) h);
    before = λ i h.
        count_cut (λ k. leb (get_or opens k 0) i) (t.level + 1) t.level (omega arith)
        (λ k b c. with_new (λ (x : ℕ). leb x i ≡ false) k c (lt-leb t.len i h) (λ d. absurd (omega arith)))
        ∙ count_same (λ k. leb (get_or opens k 0) i) (λ k. leb (opened_at t k) i) t.level (λ k b. rw (kept k b));
    here = count_all (λ k. leb (get_or opens k 0) t.len) (t.level + 1) (λ k h. le-leb (get_or opens k 0) t.len (omega (arith, opens_below k h)));
  }

pub dec_good : {n m : ℕ} {t : Trail} (v p : ℕ) → GoodTrail n m t → v < n → p < 2 → value_at t v ≡ unassigned → GoodTrail n m (enq_decision v p t)
unfolding enq_decision
dec_good {n} {m} {t} v p g h b e =
    let same : set t.reasons v NONE ≡ t.reasons = ap (set t.reasons v) (sym (g.no_reason v h e)) ∙ set-get_or t.reasons v 0 in
    rw same at (push_good g (new v p) v p NONE (t.level + 1) (set t.opened t.level t.len) (t.level + 1) h e (omega arith) (omega arith) (inr refl) (dec_grown g (room_for g v h e)))
