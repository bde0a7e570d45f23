-- Marking the trail's variables: what a turn of the walk over the trail finds, and what it leaves.
use Prim.Native.Nat.{ℕ, ◌+◌, ◌≤◌, ◌<◌}
use mathlib.Core.Path.{◌≡◌, sym, ap}
use mathlib.Core.Bool.{Bool, true, false, not, ◌&&◌, ◌||◌, or-true, or-false}
use mathlib.Core.List.{List}
use native.Mathlib.Omega.{arith}
use borrow.Author.Tests.{ltb-true, eq-eqb, ne_eqb}
use lib.ListN.{length, get_or, set, replicate, length-set, length-replicate, get_or-replicate}
use lib.Dec.{ltb, eqb}
use Rattle.laws.specs.Tests.{and_left}
use Rattle.laws.specs.Choices.{and_then}
use Rattle.laws.specs.Lists.{set_cases}
use Rattle.laws.specs.Every.{every, every_next}
use Rattle.laws.specs.Some.{some, some_more, every_same}
use Rattle.lit.specs.Lits.{index, lit_sat}
use Rattle.trail_check.specs.Check.{stands, Marked, literal_ok, place_ok, held_at, held_ok, covered_at, covered_ok}

-- the first i places pass, and their variables are marked
pub record Marking (values trail : List ℕ) (i : ℕ) (marks : List Bool) : Type 0 where
  pub passed : every (place_ok values trail) i ≡ true
  pub marked : Marked trail i (length values) marks

mark_more : (trail : List ℕ) (i n : ℕ) (marks : List Bool) → Marked trail i n marks → index (get_or trail i 0) < n → Marked trail (i + 1) n (set marks (index (get_or trail i 0)) true)
unfolding stands
mark_more trail i n marks m h =
    let v = index (get_or trail i 0) in
    record {
      long = simp length-set m.long;
      right = λ w b.
          rw (some_more (λ j. eqb (index (get_or trail j 0)) w) i)
          (set_cases (λ (x : Bool). x ≡ some (λ j. eqb (index (get_or trail j 0)) w) i || eqb v w) marks v w true false (omega (arith, m.long))
          (λ e. rw (eq-eqb v w (sym e), or-true))
          (λ e. rw (ne_eqb v w (λ q. e (sym q)), or-false) (m.right w b)));
    }

module _ {values trail : List ℕ} {i : ℕ} {marks : List Bool} (m : Marking values trail i marks) where
  -- the marks say whether a variable stands before place i
  pub at_place : literal_ok values (get_or trail i 0) (get_or marks (index (get_or trail i 0)) false) ≡ place_ok values trail i
  at_place =
      let v = index (get_or trail i 0) in
      and_then (ltb v (length values)) (λ h. ap (λ (b : Bool). lit_sat (get_or trail i 0) values && not b) (m.marked.right v (ltb-true v (length values) h)))

  -- a place that passes is of a variable, which is then marked
  pub place_var : place_ok values trail i ≡ true → index (get_or trail i 0) < length values
  place_var e = ltb-true _ _ (and_left _ _ e)

  pub mark_place : place_ok values trail i ≡ true → Marking values trail (i + 1) (set marks (index (get_or trail i 0)) true)
  mark_place e = record {
    passed = every_next (place_ok values trail) m.passed e;
    marked = mark_more trail i (length values) marks m.marked (place_var e);
  }

-- before the first place nothing is marked, and after the last one the marks say which variables the trail holds
pub no_marks : (trail : List ℕ) (n k : ℕ) → n ≤ k → Marked trail 0 n (replicate k false)
unfolding stands some
no_marks trail n k h = record { long = rw length-replicate h; right = λ v b. get_or-replicate k v false false (omega arith) }

pub covered_held : {trail : List ℕ} {len : ℕ} {marks : List Bool} (values : List ℕ) → Marked trail len (length values) marks → covered_ok values marks ≡ held_ok values trail len
unfolding covered_ok held_ok
covered_held {trail} {len} {marks} values m = every_same (covered_at values marks) (held_at values trail len) (length values) (λ v h. rw (m.right v h))
