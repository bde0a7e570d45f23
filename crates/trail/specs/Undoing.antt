-- The two loops of `backtrack_to`: undoing keeps the facts that do not speak of levels, and both loops keep the first places.
use Rattle.std.specs.Prelude.{ℕ, zero, suc, ◌+◌, ◌-◌, ◌≤◌, ◌<◌, ◌≡◌, refl, ◌≢◌, List, length, get_or, set}
use Rattle.std.proofs.Common.{sym, ap, ◌∙◌, inr, arith, length-set, get_or-set_same, get_or-set_other}
use Rattle.laws.specs.Lists.{set_cases}
use Rattle.lit.specs.Numbers.{NONE, unassigned}
use Rattle.lit.specs.Lits.{index, polarity}
use Rattle.trail.specs.Trail.{Trail, last, backstep, backsteps, close_levels}
use Rattle.trail.specs.Good.{var_at, IsReason, GoodTrail}
use Rattle.trail.specs.At.{reason_at, code_at, opened_at}

-- The facts of a good trail that do not speak of levels, over the lists that they speak of: `backstep` keeps these.
pub record Stack (n m : ℕ) (values reasons trail : List ℕ) (len : ℕ) : Type 0 where
  pub values_long : length values ≡ n
  pub reasons_long : length reasons ≡ n
  pub trail_long : length trail ≡ n
  pub values_good : (v : ℕ) → v < n → get_or values v 0 ≤ unassigned
  pub reasons_good : (v : ℕ) → v < n → IsReason m (get_or reasons v 0)
  pub no_reason : (v : ℕ) → v < n → get_or values v 0 ≡ unassigned → get_or reasons v 0 ≡ NONE
  pub len_in : len ≤ n
  pub codes_in : (i : ℕ) → i < len → index (get_or trail i 0) < n
  pub agrees : (i : ℕ) → i < len → get_or values (index (get_or trail i 0)) 0 ≡ polarity (get_or trail i 0)
  pub held : (v : ℕ) → v < n → get_or values v 0 ≢ unassigned → (i : ℕ) × ((i < len) × (index (get_or trail i 0) ≡ v))
  pub once : (i j : ℕ) → i < j → j < len → index (get_or trail i 0) ≢ index (get_or trail j 0)
  pub trail_unused : (i : ℕ) → len ≤ i → i < n → get_or trail i 0 ≡ NONE

abbrev pub StackOf : ℕ → ℕ → Trail → Type 0
StackOf n m t = Stack n m t.values t.reasons t.trail t.len

pub stack : {n m : ℕ} {t : Trail} → GoodTrail n m t → StackOf n m t
stack g = record {
  values_long = g.lengths.values_long;
  reasons_long = g.lengths.reasons_long;
  trail_long = g.lengths.trail_long;
  values_good = g.values_good;
  reasons_good = g.reasons_good;
  no_reason = g.no_reason;
  len_in = g.len_in;
  codes_in = g.codes_in;
  agrees = g.agrees;
  held = g.held;
  once = g.once;
  trail_unused = g.trail_unused;
}

backstep_stack : {n m : ℕ} (t : Trail) → StackOf n m t → 0 < t.len → StackOf n m (backstep t)
unfolding backstep
backstep_stack {n} {m} t s h =
    let a = t.len - 1 in
    let v_in : last t < n = s.codes_in a (omega arith) in
    let room : a < n = omega (arith, s.len_in) in
    let code : (i : ℕ) → i < a → get_or (set t.trail a NONE) i 0 ≡ code_at t i = λ i b. get_or-set_other t.trail a i NONE 0 (omega arith) in
    record {
      values_long = simp length-set s.values_long;
      reasons_long = simp length-set s.reasons_long;
      trail_long = simp length-set s.trail_long;
      values_good = λ u b. set_cases (λ (x : ℕ). x ≤ unassigned) t.values (last t) u unassigned 0 (omega arith) (λ _. omega arith) (λ _. s.values_good u b);
      reasons_good = λ u b. set_cases (IsReason m) t.reasons (last t) u NONE 0 (omega arith) (λ _. inr refl) (λ _. s.reasons_good u b);
      no_reason = λ u b e. set_cases (λ (x : ℕ). x ≡ NONE) t.reasons (last t) u NONE 0 (omega arith) (λ _. refl)
          (λ q. s.no_reason u b (sym (get_or-set_other t.values (last t) u unassigned 0 q) ∙ e));
      len_in = omega (arith, s.len_in);
      codes_in = λ i b. rw (code i b) (s.codes_in i (omega arith));
      agrees = λ i b. rw (code i b, get_or-set_other t.values (last t) (var_at t i) unassigned 0 (s.once i a b (omega arith))) (s.agrees i (omega arith));
      held = λ u b e.
          let q : u ≢ last t = λ z. e (ap (λ (x : ℕ). get_or (set t.values (last t) unassigned) x 0) z ∙ get_or-set_same t.values (last t) unassigned 0 (omega arith)) in
          let w = s.held u b (λ z. e (get_or-set_other t.values (last t) u unassigned 0 q ∙ z)) in
          let ne : w.0 ≢ a = λ z. q (sym w.1.1 ∙ ap (var_at t) z) in
          let below : w.0 < a = omega (arith, w.1.0) in
          (w.0, (below, ap index (code w.0 below) ∙ w.1.1));
      once = λ i j b c. rw (code i (omega arith), code j c) (s.once i j b (omega arith));
      trail_unused = λ i b c. set_cases (λ (x : ℕ). x ≡ NONE) t.trail a i NONE 0 (omega arith) (λ _. refl) (λ q. s.trail_unused i (omega arith) c);
    }

pub backsteps_stack : {n m : ℕ} (k : ℕ) (t : Trail) → StackOf n m t → k ≤ t.len → StackOf n m (backsteps k t)
unfolding backstep backsteps
backsteps_stack zero t s h = s
backsteps_stack (suc k) t s h = backsteps_stack k (backstep t) (backstep_stack t s (omega arith)) (omega arith)

-- the second loop leaves them alone
pub close_stack : {n m : ℕ} (k : ℕ) (t : Trail) → StackOf n m t → StackOf n m (close_levels k t)
unfolding close_levels
close_stack zero t s = s
close_stack (suc k) t s = close_stack k _ s

-- u has the first len places of t's trail and the first level of its opened levels, with the reasons of the variables there
pub record Kept (n len level : ℕ) (t u : Trail) : Type 0 where
  pub len_is : u.len ≡ len
  pub level_is : u.level ≡ level
  pub levels_is : u.levels ≡ t.levels
  pub codes : (i : ℕ) → i < len → code_at u i ≡ code_at t i
  pub reasons : (i : ℕ) → i < len → reason_at u (var_at t i) ≡ reason_at t (var_at t i)
  pub opens : (k : ℕ) → k < level → opened_at u k ≡ opened_at t k
  pub opened_unused : (k : ℕ) → level ≤ k → k < n → opened_at u k ≡ NONE
  pub opened_long : length u.opened ≡ n

pub kept_kept : {n a b c d : ℕ} {t u w : Trail} → c ≤ a → d ≤ b → Kept n a b t u → Kept n c d u w → Kept n c d t w
kept_kept p q x y = record {
  len_is = y.len_is;
  level_is = y.level_is;
  levels_is = y.levels_is ∙ x.levels_is;
  codes = λ i h. y.codes i h ∙ x.codes i (omega arith);
  reasons = λ i h. rw (x.codes i (omega arith)) at (y.reasons i h) ∙ x.reasons i (omega arith);
  opens = λ k h. y.opens k h ∙ x.opens k (omega arith);
  opened_unused = y.opened_unused;
  opened_long = y.opened_long;
}

-- the opened levels that are not in use hold NONE
pub record Clean (n : ℕ) (t : Trail) : Type 0 where
  pub long : length t.opened ≡ n
  pub within : t.level ≤ n
  pub unused : (k : ℕ) → t.level ≤ k → k < n → opened_at t k ≡ NONE

pub clean : {n m : ℕ} {t : Trail} → GoodTrail n m t → Clean n t
clean g = record { long = g.lengths.opened_long; within = g.level_in; unused = g.opened_unused }

all_kept : {n len level : ℕ} (t : Trail) → Clean n t → t.len ≡ len → t.level ≡ level → Kept n len level t t
all_kept t o p q = record {
  len_is = p;
  level_is = q;
  levels_is = refl;
  codes = λ i h. refl;
  reasons = λ i h. refl;
  opens = λ k h. refl;
  opened_unused = λ k h. o.unused k (omega arith);
  opened_long = o.long;
}

pub steps_kept : {n m : ℕ} (k len : ℕ) (t : Trail) → StackOf n m t → Clean n t → len + k ≡ t.len → Kept n len t.level t (backsteps k t)
unfolding backstep backsteps
steps_kept zero len t s o e = all_kept t o (omega arith) refl
steps_kept {n} {m} (suc k) len t s o e =
    let first : Kept n (t.len - 1) t.level t (backstep t) = record {
      len_is = refl;
      level_is = refl;
      levels_is = refl;
      codes = λ i h. get_or-set_other t.trail (t.len - 1) i NONE 0 (omega arith);
      reasons = λ i h. get_or-set_other t.reasons (last t) (var_at t i) NONE 0 (s.once i (t.len - 1) h (omega arith));
      opens = λ j h. refl;
      opened_unused = o.unused;
      opened_long = o.long;
    } in
    let clean : Clean n (backstep t) = record { long = o.long; within = o.within; unused = o.unused } in
    kept_kept (omega arith) (omega arith) first (steps_kept k len (backstep t) (backstep_stack t s (omega arith)) clean (omega arith))

-- a turn of the second loop
abbrev close_one : Trail → Trail
close_one t = record {
  values = t.values;
  levels = t.levels;
  reasons = t.reasons;
  trail = t.trail;
  opened = set t.opened (t.level - 1) NONE;
  len = t.len;
  level = t.level - 1;
  curr = t.curr;
}

close_clean : {n : ℕ} {t : Trail} → Clean n t → 0 < t.level → Clean n (close_one t)
close_clean {n} {t} o h = record {
  long = simp length-set o.long;
  within = omega (arith, o.within);
  unused = λ j b c. set_cases (λ (x : ℕ). x ≡ NONE) t.opened (t.level - 1) j NONE 0 (omega arith) (λ _. refl) (λ z. o.unused j (omega arith) c);
}

pub close_kept : {n : ℕ} (k level : ℕ) (t : Trail) → Clean n t → level + k ≡ t.level → Kept n t.len level t (close_levels k t)
unfolding close_levels
close_kept zero level t o e = all_kept t o refl (omega arith)
close_kept {n} (suc k) level t o e =
    let clean = close_clean o (omega arith) in
    let first : Kept n t.len (t.level - 1) t (close_one t) = record {
      len_is = refl;
      level_is = refl;
      levels_is = refl;
      codes = λ i b. refl;
      reasons = λ i b. refl;
      opens = λ j b. get_or-set_other t.opened (t.level - 1) j NONE 0 (omega arith);
      opened_unused = clean.unused;
      opened_long = clean.long;
    } in
    kept_kept (omega arith) (omega arith) first (close_kept k level (close_one t) clean (omega arith))

-- what is left is clean again
pub kept_clean : {n len level : ℕ} {t u : Trail} → level ≤ n → Kept n len level t u → Clean n u
kept_clean h k = record { long = k.opened_long; within = omega (arith, k.level_is); unused = λ i b. k.opened_unused i (omega (arith, k.level_is)) }
