-- A pass over a clause that marks its variables: a variable has the mark exactly where an earlier literal has it, so the next literal's
-- variable is new exactly where it lacks the mark. Assumes nothing.
use Prim.Native.Nat.{ℕ, ◌+◌, ◌≤◌, ◌<◌}
use mathlib.Core.Path.{◌≡◌, refl, sym}
use mathlib.Core.Logic.{by_cases}
use mathlib.Core.Bool.{true, false}
use mathlib.Core.List.{List}
use native.Mathlib.Decide.{ℕ_discrete}
use native.Mathlib.Omega.{arith}
use borrow.Author.Tests.{lt-ltb}
use lib.ListN.{length, get_or, set, length-set}
use Rattle.laws.specs.Tests.{not_true}
use Rattle.laws.specs.Lists.{set_cases}
use Rattle.laws.specs.Every.{Passed, passed_none, passed_more, every_at, every_all}
use Rattle.lit.specs.Lits.{index}
use Rattle.formula.specs.Clauses.{var_below}
use Rattle.formula.specs.Checks.{differ, new_at}
use Rattle.formula.proofs.Distinct.{differ_facts}
use Rattle.formula.specs.Marks.{Unmarked}

abbrev var_at : List ℕ → ℕ → ℕ
var_at codes i = index (get_or codes i 0)

pub record Marked (n : ℕ) (codes : List ℕ) (mark i : ℕ) (marks : List ℕ) : Type 0 where
  pub below : Passed (var_below n codes) (length codes) i
  pub new : Passed (new_at codes) (length codes) i
  pub room : n ≤ length marks
  pub seen : (j : ℕ) → j < i → get_or marks (var_at codes j) 0 ≡ mark
  pub unseen : (v : ℕ) → ((j : ℕ) → j < i → var_at codes j ≡ v → ⊥) → get_or marks v 0 < mark
  pub none_above : (v : ℕ) → get_or marks v 0 ≤ mark

pub marked_none : (n : ℕ) (codes : List ℕ) (mark : ℕ) (marks : List ℕ) → Unmarked n mark marks → Marked n codes mark 0 marks
marked_none n codes mark marks u = record {
  below = passed_none;
  new = passed_none;
  room = u.room;
  seen = λ j h. absurd (omega arith);
  unseen = λ v _. u.below v;
  none_above = λ v. omega (arith, u.below v);
}

module _ {n : ℕ} {codes : List ℕ} {mark i : ℕ} {marks : List ℕ} (m : Marked n codes mark i marks) where
  pub has_mark : get_or marks (var_at codes i) 0 ≡ mark → new_at codes i ≡ false
  unfolding new_at
  has_mark e =
      not_true (new_at codes i)
      (λ new. omega (arith, m.unseen (var_at codes i) (λ j h same. (differ_facts codes i j).0 (every_at (differ codes i) i j new h) (sym same))))

  pub lacks_mark : (get_or marks (var_at codes i) 0 ≡ mark → ⊥) → new_at codes i ≡ true
  unfolding new_at
  lacks_mark ne = every_all (differ codes i) i (λ j h. (differ_facts codes i j).1 (λ same. ne (rw same (m.seen j h))))

  pub marked_more : i < length codes → var_at codes i < n → new_at codes i ≡ true → Marked n codes mark (i + 1) (set marks (var_at codes i) mark)
  unfolding var_below
  marked_more h b e = record {
    below = passed_more m.below h (lt-ltb _ _ b);
    new = passed_more m.new h e;
    room = simp length-set m.room;
    seen = λ j k. set_cases (λ x. x ≡ mark) marks (var_at codes i) (var_at codes j) mark 0 (omega (arith, m.room)) (λ _. refl)
        (λ other. m.seen j (by_cases (ℕ_discrete j i) (λ same. absurd (other (rw same))) (λ earlier. omega arith)));
    unseen = λ v none. set_cases (λ x. x < mark) marks (var_at codes i) v mark 0 (omega (arith, m.room)) (λ same. absurd (none i (omega arith) (sym same)))
        (λ _. m.unseen v (λ j k. none j (omega arith)));
    none_above = λ v. set_cases (λ x. x ≤ mark) marks (var_at codes i) v mark 0 (omega (arith, m.room)) (λ _. omega arith) (λ _. m.none_above v);
  }

  -- the next pass has a mark of its own
  pub marked : Unmarked n (mark + 1) marks
  marked = record { room = m.room; below = λ v. omega (arith, m.none_above v) }
