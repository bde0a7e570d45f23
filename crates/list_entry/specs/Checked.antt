-- What the checks of list mode show: the check of a state passes exactly the good sessions, and every call keeps them.
use Rattle.std.specs.Prelude.{ℕ, ◌≤◌, ◌≡◌, refl, ◌↔◌, true, List, length, eqb}
use Rattle.std.proofs.Common.{arith, eqb-true, eq-eqb}
use Rattle.laws.specs.Tests.{and_left, and_right}
use Rattle.lit.specs.Numbers.{NONE, max_vars}
use Rattle.trail.specs.Trail.{Trail}
use Rattle.trail.specs.Memory.{Sized}
use Rattle.vmtf.specs.Vmtf.{Vmtf}
use Rattle.choosers.specs.List.{list_ops, list_chooser, list_ok, ok_list}
use Rattle.book.specs.Calls.{Call}
use Rattle.book.specs.Session.{Session, leaves, call}
use Rattle.session.specs.Sizes.{both}
use Rattle.session.proofs.Kept as either-laws
use Rattle.session.specs.Entered.{Sound}
use Rattle.list_session.specs.Good.{GoodSession}
use Rattle.list_session.specs.Check.{state_ok, checked_good, good_checked}
use Rattle.list_session.specs.Kept.{IsGood, fresh_good_session}
use Rattle.list_entry.specs.Entry.{list_lengths, list_mode}

-- what the test of the list's lengths says
pub record ListSized (n : ℕ) (l : Vmtf) : Type 0 where
  pub next_long : length l.next ≡ n
  pub prev_long : length l.prev ≡ n
  pub ts_long : length l.ts ≡ n

pub list_sized : (n : ℕ) (l : Vmtf) → list_lengths n l ≡ true → ListSized n l
list_sized n l e =
    let z = both _ _ _ _ (and_right (eqb (length l.next) n) _ e) in
    record { next_long = eqb-true _ _ (and_left (eqb (length l.next) n) _ e); prev_long = z.0; ts_long = z.1 }

pub sized_list : (n : ℕ) (l : Vmtf) → ListSized n l → list_lengths n l ≡ true
sized_list n l z = rw (eq-eqb _ _ z.next_long, eq-eqb _ _ z.prev_long, eq-eqb _ _ z.ts_long)

-- of a good session it passes
pub good_sized : {n m : ℕ} {t : Trail} {l : Vmtf} → GoodSession n m t l → list_lengths n l ≡ true
good_sized {n} {l = l} g = sized_list n l (record { next_long = g.list.1.linked.next_long; prev_long = g.list.1.linked.prev_long; ts_long = g.list.1.ts_long })

-- for memory of the right lengths: the check passes exactly the good sessions
pub state_right : (n m : ℕ) (t : Trail) (l : Vmtf) → n ≤ max_vars → Sized n t → list_lengths n l ≡ true → (state_ok m t l ≡ true) ↔ GoodSession n m t l
state_right n m t l small sized long =
    let z = list_sized n l long in
    (checked_good m t l small sized z.next_long z.prev_long z.ts_long, good_checked t l)

-- every call leaves a good session, refused or not
pub kept : (n m : ℕ) (lits : List ℕ) (s : Session n m (list_ops n lits)) → IsGood n m lits s → (c : Call) → IsGood n m lits (leaves s (call n m (list_ops n lits) s c))
kept n m lits s g c =
    let few : n ≤ NONE = omega (arith, g.small) in
    let k = either-laws.kept n m (list_ops n lits) (list_chooser n m lits few) s (record {
      trail = g.trail;
      on = λ v. true;
      ok = list_ok n m lits few (record { values_long = g.trail.lengths.values_long; all_on = λ v. refl; order = g.list.0; good = g.list.1 });
    }) c in
    let l = ok_list n m lits few k.ok in
    record { small = g.small; trail = k.trail; list = (l.order, l.good) }

unfoldable pub list_sound : (n m : ℕ) (lits ends : List ℕ) → Sound n m (list_mode n m lits) lits ends
list_sound n m lits ends = record {
  Good = IsGood n m lits;
  Typed = λ l. Unit {0};
  right = λ s small _ _ sized long _. state_right n m s.trail s.chooser small sized long;
  trail = λ s g. g.trail;
  chooser_sized = λ s g. good_sized g;
  chooser_typed = λ s g. tt;
  fresh_good = λ small _ _. fresh_good_session n m lits small;
  kept = kept n m lits;
}
