-- Going back to level L leaves the records as they were just before the decision that opened level L+1, whatever was put on the
-- trail or taken off it since, as long as it stayed above level L.
use Rattle.std.specs.Prelude.{ℕ, ◌+◌, ◌*◌, ◌<◌, ◌≡◌, refl, ◌≢◌, List, ltb}
use Rattle.std.proofs.Common.{sym, ap, ◌∙◌, arith, ext_get_or}
use Rattle.std.proofs.Math.Logic.{by_cases}
use Rattle.std.proofs.Math.Decide.{ℕ_discrete, dec_lt}
use borrow.Author.Tests.{ltb-true}
use Rattle.std.proofs.Math.Seq.{get_or-set_same, get_or-set_other}
use Rattle.laws.specs.Tests.{cond_elim}
use Rattle.lit.specs.Numbers.{unassigned}
use Rattle.lit.specs.Lits.{index, polarity}
use Rattle.trail.specs.Trail.{Trail, enq_assignment, enq_decision, backtrack_to, backtrack_safe}
use Rattle.trail.specs.Good.{var_at, not_above, IsReason, GoodTrail}
use Rattle.trail.specs.At.{value_at, level_at, reason_at, code_at, opened_at}
use Rattle.trail.specs.Laws.{on_trail, room_for, level_len, enq_good, dec_good}
use Rattle.trail.specs.Back.{back_kept, back_to_good}

-- u is t after a decision on t and any operations since, that stay above t's level
pub data Since (n m : ℕ) (t : Trail) : Trail → Type 0 where
  decided : (v p : ℕ) → v < n → p < 2 → value_at t v ≡ unassigned → Since n m t (enq_decision v p t)
  then_enqueue : {u : Trail} (code reason : ℕ) → Since n m t u → index code < n → value_at u (index code) ≡ unassigned → IsReason m reason → Since n m t (enq_assignment code reason u)
  then_decide : {u : Trail} (v p : ℕ) → Since n m t u → v < n → p < 2 → value_at u v ≡ unassigned → Since n m t (enq_decision v p u)
  then_back : {u : Trail} (l : ℕ) → Since n m t u → t.level < l → Since n m t (backtrack_safe l u)

-- the records that going back restores: an undone variable's level is unread
pub record Same (n : ℕ) (t u : Trail) : Type 0 where
  pub values : u.values ≡ t.values
  pub reasons : u.reasons ≡ t.reasons
  pub trail : u.trail ≡ t.trail
  pub opened : u.opened ≡ t.opened
  pub len : u.len ≡ t.len
  pub level : u.level ≡ t.level
  pub levels : (v : ℕ) → v < n → value_at t v ≢ unassigned → level_at u v ≡ level_at t v

-- what stays true since the decision: t is the part of u below the opening of the next level
record Extends (n m : ℕ) (t u : Trail) : Type 0 where
  good : GoodTrail n m u
  above : t.level < u.level
  opened_at_lem : opened_at u t.level ≡ t.len
  codes : (i : ℕ) → i < t.len → code_at u i ≡ code_at t i
  reasons : (i : ℕ) → i < t.len → reason_at u (var_at t i) ≡ reason_at t (var_at t i)
  opens : (k : ℕ) → k < t.level → opened_at u k ≡ opened_at t k

module _ {n m : ℕ} {t : Trail} (g : GoodTrail n m t) where
  start : (v p : ℕ) → v < n → p < 2 → value_at t v ≡ unassigned → Extends n m t (enq_decision v p t)
  unfolding enq_decision
  start v p h b e = record {
    good = dec_good v p g h b e;
    above = omega arith;
    opened_at_lem = get_or-set_same t.opened t.level t.len 0 (omega (arith, level_len g, room_for g v h e, g.lengths));
    codes = λ i c. get_or-set_other t.trail t.len i (2 * v + p) 0 (omega arith);
    reasons = λ i c. refl;
    opens = λ k c. get_or-set_other t.opened t.level k t.len 0 (omega arith);
  }

  module _ {u : Trail} (x : Extends n m t u) where
    -- the part stays below what is put on the trail
    shorter : t.len < u.len
    shorter = omega (arith, x.opened_at_lem, x.good.below t.level x.above)

    -- its variables are assigned
    var_kept : (i : ℕ) → i < t.len → var_at u i ≡ var_at t i
    var_kept i h = ap index (x.codes i h)

    still : (i : ℕ) → i < t.len → value_at u (var_at t i) ≢ unassigned
    still i h e = on_trail x.good i (omega (arith, shorter)) (ap (value_at u) (var_kept i h) ∙ e)

    enqueue : (code reason : ℕ) → index code < n → value_at u (index code) ≡ unassigned → IsReason m reason → Extends n m t (enq_assignment code reason u)
    unfolding enq_assignment
    enqueue code reason h e r = record {
      good = enq_good code reason x.good h e r;
      above = x.above;
      opened_at_lem = x.opened_at_lem;
      codes = λ i c. get_or-set_other u.trail u.len i code 0 (omega (arith, shorter)) ∙ x.codes i c;
      reasons = λ i c. get_or-set_other u.reasons (index code) (var_at t i) reason 0 (λ z. still i c (ap (value_at u) z ∙ e)) ∙ x.reasons i c;
      opens = x.opens;
    }

    decide : (v p : ℕ) → v < n → p < 2 → value_at u v ≡ unassigned → Extends n m t (enq_decision v p u)
    unfolding enq_decision
    decide v p h b e = record {
      good = dec_good v p x.good h b e;
      above = omega (arith, x.above);
      opened_at_lem = get_or-set_other u.opened u.level t.level u.len 0 (omega (arith, x.above)) ∙ x.opened_at_lem;
      codes = λ i c. get_or-set_other u.trail u.len i (2 * v + p) 0 (omega (arith, shorter)) ∙ x.codes i c;
      reasons = x.reasons;
      opens = λ k c. get_or-set_other u.opened u.level k u.len 0 (omega (arith, x.above)) ∙ x.opens k c;
    }

    back : (l : ℕ) → t.level < l → Extends n m t (backtrack_safe l u)
    unfolding backtrack_safe
    back l h = cond_elim (Extends n m t) (ltb l u.level) (λ e.
        let b = ltb-true l u.level e in
        let k = back_kept x.good b in
        let d : t.len < opened_at u l = omega (arith, x.opened_at_lem, x.good.rising t.level l h b) in
        record {
          good = back_to_good x.good b;
          above = omega (arith, k.level_is);
          opened_at_lem = k.opens t.level h ∙ x.opened_at_lem;
          codes = λ i c. k.codes i (omega arith) ∙ x.codes i c;
          reasons = λ i c. rw (var_kept i c) at (k.reasons i (omega arith)) ∙ x.reasons i c;
          opens = λ j c. k.opens j (omega arith) ∙ x.opens j c;
        }) (λ _. x)

  extends : {u : Trail} → Since n m t u → Extends n m t u
  extends (decided v p h b e) = start v p h b e
  extends (then_enqueue code reason s h e r) = enqueue (extends s) code reason h e r
  extends (then_decide v p s h b e) = decide (extends s) v p h b e
  extends (then_back l s h) = back (extends s) l h

  -- going back to the level at which the decision was made
  module _ {u : Trail} (since : Since n m t u) where
    abbrev w : Trail
    w = backtrack_to t.level u

    x : Extends n m t u
    x = extends since

    good : GoodTrail n m w
    good = back_to_good x.good x.above

    len_is : w.len ≡ t.len
    len_is = (back_kept x.good x.above).len_is ∙ x.opened_at_lem

    level_is : w.level ≡ t.level
    level_is = (back_kept x.good x.above).level_is

    in_part : (i : ℕ) → i < t.len → i < opened_at u t.level
    in_part i h = omega (arith, x.opened_at_lem)

    code : (i : ℕ) → i < t.len → code_at w i ≡ code_at t i
    code i h = (back_kept x.good x.above).codes i (in_part i h) ∙ x.codes i h

    reason : (i : ℕ) → i < t.len → reason_at w (var_at t i) ≡ reason_at t (var_at t i)
    reason i h = rw (var_kept x i h) at ((back_kept x.good x.above).reasons i (in_part i h)) ∙ x.reasons i h

    trail_is : w.trail ≡ t.trail
    trail_is = ext_get_or 0 w.trail t.trail (good.lengths.trail_long ∙ sym g.lengths.trail_long) (λ i h.
        let b : i < n = omega (arith, good.lengths) in
        by_cases (dec_lt i t.len)
        (code i)
        (λ c. good.trail_unused i (omega (arith, len_is)) b ∙ sym (g.trail_unused i (omega arith) b)))

    opened_is : w.opened ≡ t.opened
    opened_is = ext_get_or 0 w.opened t.opened (good.lengths.opened_long ∙ sym g.lengths.opened_long) (λ i h.
        let b : i < n = omega (arith, good.lengths) in
        by_cases (dec_lt i t.level)
        (λ c. (back_kept x.good x.above).opens i c ∙ x.opens i c)
        (λ c. good.opened_unused i (omega (arith, level_is)) b ∙ sym (g.opened_unused i (omega arith) b)))

    -- an unassigned variable of t is none of the trail's, an assigned one stands on it
    value : (v : ℕ) → v < n → value_at w v ≡ value_at t v
    value v h = by_cases (ℕ_discrete (value_at t v) unassigned)
        (λ e. by_cases (ℕ_discrete (value_at w v) unassigned) (λ q. q ∙ sym e) (λ q.
        let i = good.held v h q in
        let b : i.0 < t.len = omega (arith, i.1.0, len_is) in
        absurd (on_trail g i.0 b (ap (value_at t) (sym (ap index (code i.0 b)) ∙ i.1.1) ∙ e))))
        (λ e.
        let i = g.held v h e in
        let q = ap (value_at w) (ap index (code i.0 i.1.0) ∙ i.1.1) in
        sym q ∙ good.agrees i.0 (omega (arith, i.1.0, len_is)) ∙ ap polarity (code i.0 i.1.0) ∙ sym (g.agrees i.0 i.1.0) ∙ ap (value_at t) i.1.1)

    reason_is : (v : ℕ) → v < n → reason_at w v ≡ reason_at t v
    reason_is v h = by_cases (ℕ_discrete (value_at t v) unassigned)
        (λ e. good.no_reason v h (value v h ∙ e) ∙ sym (g.no_reason v h e))
        (λ e. let i = g.held v h e in rw i.1.1 at (reason i.0 i.1.0))

    level_at_lem : (v : ℕ) → v < n → value_at t v ≢ unassigned → level_at w v ≡ level_at t v
    level_at_lem v h e =
        let i = g.held v h e in
        sym (ap (level_at w) (ap index (code i.0 i.1.0) ∙ i.1.1))
        ∙ good.levels_good i.0 (omega (arith, i.1.0, len_is))
        ∙ ap (λ (o : List ℕ). not_above o w.level i.0) opened_is
        ∙ ap (λ (l : ℕ). not_above t.opened l i.0) level_is
        ∙ sym (g.levels_good i.0 i.1.0)
        ∙ ap (level_at t) i.1.1

    -- The records are those just before the decision.
    pub restored : Same n t (backtrack_to t.level u)
    restored = record {
      values = ext_get_or 0 w.values t.values (good.lengths.values_long ∙ sym g.lengths.values_long) (λ v h. value v (omega (arith, good.lengths)));
      reasons = ext_get_or 0 w.reasons t.reasons (good.lengths.reasons_long ∙ sym g.lengths.reasons_long) (λ v h. reason_is v (omega (arith, good.lengths)));
      trail = trail_is;
      opened = opened_is;
      len = len_is;
      level = level_is;
      levels = level_at_lem;
    }
