-- Trails that are read back as one: what holds of them, and that each step of the trail keeps them so.
use Prim.Native.Nat.{ℕ, zero, suc, ◌+◌, ◌-◌, ◌<◌}
use mathlib.Core.Path.{◌≡◌, refl, sym, ap, subst, ◌∙◌}
use mathlib.Core.Bool.{Bool, true, false, cond, false≢true}
use mathlib.Core.List.{List, [], ◌∷◌}
use native.Mathlib.Omega.{arith}
use lib.ListN.{length, get_or, length-set}
use lib.Dec.{ltb}
use borrow.Author.Tests.{lt-ltb}
use Rattle.lit.specs.Numbers.{unassigned}
use Rattle.lit.specs.Lits.{index, polarity, is_assigned}
use Rattle.trail.specs.Trail.{Trail, with_vars, enq_assignment, enq_decision, last, backstep, backsteps, close_levels, rewind, how_many, backtrack_to, backtrack_safe, undone}
use Rattle.trail.specs.Memory.{Sized}
use Rattle.trail.specs.Good.{var_at, GoodTrail}
use Rattle.trail.specs.At.{value_at}
use Rattle.book.specs.Claim.{assigned_levels, records_of}
use Rattle.book.specs.Saved.{forgot}
use Rattle.book.proofs.Memory.{levels_set, levels_unset}
use Rattle.book.proofs.Saved.{read_level, read_twice, records_read}
use Rattle.carried.specs.Same.{SameTrail}

-- all but the levels are equal, and so are the levels of assigned variables
pub record Facts (t u : Trail) : Type 0 where
  pub values : t.values ≡ u.values
  pub reasons : t.reasons ≡ u.reasons
  pub trail : t.trail ≡ u.trail
  pub opened : t.opened ≡ u.opened
  pub len : t.len ≡ u.len
  pub level : t.level ≡ u.level
  pub curr : t.curr ≡ u.curr
  pub levels : assigned_levels t.values t.levels ≡ assigned_levels u.values u.levels

pub facts : {t u : Trail} → SameTrail t u → Facts t u
unfolding forgot
facts e = record {
  values = ap (λ (w : Trail). w.values) e.read;
  reasons = ap (λ (w : Trail). w.reasons) e.read;
  trail = ap (λ (w : Trail). w.trail) e.read;
  opened = ap (λ (w : Trail). w.opened) e.read;
  len = ap (λ (w : Trail). w.len) e.read;
  level = ap (λ (w : Trail). w.level) e.read;
  curr = ap (λ (w : Trail). w.curr) e.read;
  levels = ap (λ (w : Trail). w.levels) e.read;
}

pub same_refl : (t : Trail) → SameTrail t t
same_refl t = record { read = refl; long = refl }

pub same_trans : {t u w : Trail} → SameTrail t u → SameTrail u w → SameTrail t w
same_trans e f = record { read = e.read ∙ f.read; long = e.long ∙ f.long }

pub same_sym : {t u : Trail} → SameTrail t u → SameTrail u t
same_sym e = record { read = sym e.read; long = sym e.long }

levels_long : (vs ls : List ℕ) → length vs ≡ length ls → length ls ≡ length (assigned_levels vs ls)
unfolding assigned_levels
levels_long [] [] e = refl
levels_long [] (l ∷ ls) e = absurd (omega arith)
levels_long (x ∷ vs) [] e = absurd (omega arith)
levels_long (x ∷ vs) (l ∷ ls) e = ap suc (levels_long vs ls (omega arith))

pub forgot_same : (t : Trail) → length t.values ≡ length t.levels → SameTrail t (forgot t)
forgot_same t e = record { read = sym (read_twice t); long = unfold forgot in (levels_long t.values t.levels e) }

pub records_same : {t u : Trail} → SameTrail t u → records_of t ≡ records_of u
records_same {t} {u} e = sym (records_read t) ∙ ap records_of e.read ∙ records_read u

pub enq_same : (code reason : ℕ) (t u : Trail) → SameTrail t u → SameTrail (enq_assignment code reason t) (enq_assignment code reason u)
unfolding enq_assignment forgot
enq_same code reason t u e =
    let f : Facts t u = facts e in
    record {
      read = cc (levels_set t.values t.levels (index code) (polarity code) t.level, levels_set u.values u.levels (index code) (polarity code) u.level);
      long = simp length-set e.long;
    }

pub dec_same : (v p : ℕ) (t u : Trail) → SameTrail t u → SameTrail (enq_decision v p t) (enq_decision v p u)
unfolding enq_decision forgot
dec_same v p t u e =
    let f : Facts t u = facts e in
    record {
      read = cc (levels_set t.values t.levels v p (t.level + 1), levels_set u.values u.levels v p (u.level + 1));
      long = simp length-set e.long;
    }

-- the level of the variable stays, unread
backstep_same : (t u : Trail) → SameTrail t u → SameTrail (backstep t) (backstep u)
unfolding backstep forgot
backstep_same t u e =
    let f : Facts t u = facts e in
    record { read = cc (levels_unset t.values t.levels (last t), levels_unset u.values u.levels (last u)); long = e.long }

backsteps_same : (k : ℕ) (t u : Trail) → SameTrail t u → SameTrail (backsteps k t) (backsteps k u)
unfolding backsteps
backsteps_same zero t u e = e
backsteps_same (suc k) t u e = backsteps_same k (backstep t) (backstep u) (backstep_same t u e)

close_same : (k : ℕ) (t u : Trail) → SameTrail t u → SameTrail (close_levels k t) (close_levels k u)
unfolding close_levels forgot
close_same zero t u e = e
close_same (suc k) t u e = let f : Facts t u = facts e in close_same k _ _ (record { read = cc; long = e.long })

rewind_same : (t u : Trail) → SameTrail t u → SameTrail (rewind t) (rewind u)
unfolding rewind forgot
rewind_same t u e = let f : Facts t u = facts e in record { read = cc; long = e.long }

pub undone_same : (l : ℕ) (t u : Trail) → SameTrail t u → undone l t ≡ undone l u
unfolding undone
undone_same l t u e = let f : Facts t u = facts e in cc

back_same : (l : ℕ) (t u : Trail) → SameTrail t u → SameTrail (backtrack_to l t) (backtrack_to l u)
unfolding backtrack_to
back_same l t u e =
    let f : Facts t u = facts e in
    let h : how_many l t ≡ how_many l u = cc in
    let d : t.level - l ≡ u.level - l = cc in
    rewind_same _ _ (rw d (close_same _ _ _ (rw h (backsteps_same _ t u e))))

pub safe_same : (l : ℕ) (t u : Trail) → SameTrail t u → SameTrail (backtrack_safe l t) (backtrack_safe l u)
unfolding backtrack_safe
safe_same l t u e = let f : Facts t u = facts e in go (ltb l t.level) (ltb l u.level) (cc)
  where
    go : (a b : Bool) → a ≡ b → SameTrail (cond a (backtrack_to l t) t) (cond b (backtrack_to l u) u)
    go true true q = back_same l t u e
    go false false q = e
    go true false q = absurd (false≢true (sym q))
    go false true q = absurd (false≢true q)

-- ---- good trails

pub same_sized : {n : ℕ} {t u : Trail} → SameTrail t u → Sized n t → Sized n u
same_sized {n} {t} {u} e z =
    let f : Facts t u = facts e in
    let l : length t.levels ≡ length u.levels = e.long in
    record { values_long = cc; levels_long = cc; reasons_long = cc; trail_long = cc; opened_long = cc }

kept_level : {n : ℕ} (t : Trail) (v : ℕ) → Sized n t → v < n → is_assigned t.values v ≡ true → get_or (forgot t).levels v 0 ≡ get_or t.levels v 0
kept_level t v z h a = read_level t v (z.values_long ∙ sym z.levels_long) (omega (arith, z.values_long)) ∙ rw a

pub good_same : {n m : ℕ} {t u : Trail} → SameTrail t u → GoodTrail n m t → GoodTrail n m u
good_same {n} {m} {t} {u} e g = subst (GoodTrail n m) whole (record {
  lengths = record {
    values_long = g.lengths.values_long;
    levels_long = sym e.long ∙ g.lengths.levels_long;
    reasons_long = g.lengths.reasons_long;
    trail_long = g.lengths.trail_long;
    opened_long = g.lengths.opened_long;
  };
  values_good = g.values_good;
  reasons_good = g.reasons_good;
  no_reason = g.no_reason;
  len_in = g.len_in;
  level_in = g.level_in;
  curr_in = g.curr_in;
  codes_in = g.codes_in;
  agrees = g.agrees;
  held = g.held;
  once = g.once;
  rising = g.rising;
  below = g.below;
  levels_good = λ i h. level (var_at t i) (g.codes_in i h) (lt-ltb (value_at t (var_at t i)) unassigned (omega (arith, g.agrees i h))) ∙ g.levels_good i h;
  trail_unused = g.trail_unused;
  opened_unused = g.opened_unused;
})
  where
    -- u is t with other levels
    whole : with_vars t.values u.levels t.reasons t ≡ with_vars u.values u.levels u.reasons u
    whole = let f : Facts t u = facts e in cc

    -- of an assigned variable the level in u is that in t
    level : (v : ℕ) → v < n → is_assigned t.values v ≡ true → get_or u.levels v 0 ≡ get_or t.levels v 0
    level v h a =
        sym (kept_level u v (same_sized e g.lengths) h (ap (λ (vs : List ℕ). is_assigned vs v) (sym (facts e).values) ∙ a))
        ∙ ap (λ (w : Trail). get_or w.levels v 0) (sym e.read)
        ∙ kept_level t v g.lengths h a

pub read_good : {n m : ℕ} (t : Trail) → GoodTrail n m t → GoodTrail n m (forgot t)
read_good t g = good_same (forgot_same t (g.lengths.values_long ∙ sym g.lengths.levels_long)) g
