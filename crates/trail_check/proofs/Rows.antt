-- The rows of a trail: from where a level was opened up to the next, every place has that level, since the opened levels rise.
use Prim.Native.Nat.{ℕ, ◌+◌, ◌≤◌, ◌<◌}
use mathlib.Core.Path.{◌≡◌, sym, ap, ◌∙◌}
use mathlib.Core.Logic.{by_cases}
use mathlib.Core.Bool.{true, false, false≢true}
use mathlib.Core.List.{List}
use native.Mathlib.Omega.{arith}
use native.Mathlib.Decide.{ℕ_discrete, dec_lt}
use borrow.Author.Tests.{lt-ltb, le-ltb, le-leb, lt-leb}
use lib.ListN.{get_or}
use lib.Dec.{leb}
use Rattle.laws.specs.Tests.{not_true}
use Rattle.laws.specs.Every.{every, every_at, every_all}
use Rattle.laws.specs.Some.{count_below, every_same}
use Rattle.trail.specs.Good.{not_above}
use Rattle.trail_check.specs.Check.{in_row, row_ok, level_is, levels_ok}
use Rattle.trail_check.specs.Checked.{Openings}

-- before row l, which starts at place `from`: the places below it have their level, and the levels before l were opened at or below it
pub record Rows (levels trail opened : List ℕ) (level l from : ℕ) : Type 0 where
  pub passed : every (level_is levels trail opened level) from ≡ true
  pub at : l ≤ level
  pub low : (k : ℕ) → k < l → get_or opened k 0 ≤ from

module _ {levels trail opened : List ℕ} {level l from : ℕ} (r : Rows levels trail opened level l from) where
  -- the level of a place in the row
  in_row_lem : (i : ℕ) → from ≤ i → ((k : ℕ) → l ≤ k → k < level → i < get_or opened k 0) → not_above opened level i ≡ l
  unfolding not_above
  in_row_lem i h high = count_below (λ k. leb (get_or opened k 0) i) level l r.at (λ k b. le-leb (get_or opened k 0) i (omega (arith, r.low k b))) (λ k b d. lt-leb _ _ (high k b d))

  -- where the later levels were opened at `to` or above it, the row's test up to `to` is that of all places below it
  row_right : (to : ℕ) → ((k : ℕ) → l ≤ k → k < level → to ≤ get_or opened k 0) → row_ok levels trail from to l ≡ every (level_is levels trail opened level) to
  unfolding row_ok
  row_right to high = every_same (in_row levels trail from l) (level_is levels trail opened level) to (λ i h.
      by_cases (dec_lt i from)
      (λ b. rw (lt-ltb i from b) (sym (every_at (level_is levels trail opened level) from i r.passed b)))
      (λ b. rw (le-ltb i from (omega arith), in_row_lem i (omega arith) (λ k c d. omega (arith, high k c d)))))

  -- a row that ends where level l was opened: one that passes is followed by the next, and one that fails fails the whole
  module _ {len : ℕ} (o : Openings opened level len) (h : l < level) where
    not_below : (k : ℕ) → l ≤ k → k < level → get_or opened l 0 ≤ get_or opened k 0
    not_below k b d = by_cases (ℕ_discrete l k) (λ e. rw e (omega arith)) (λ e. omega (arith, o.rising l k (omega arith) d))

    pub row_more : row_ok levels trail from (get_or opened l 0) l ≡ true → Rows levels trail opened level (l + 1) (get_or opened l 0)
    row_more e = record {
      passed = sym (row_right (get_or opened l 0) not_below) ∙ e;
      at = omega arith;
      low = λ k b. by_cases (ℕ_discrete k l) (λ q. rw q (omega arith)) (λ q. omega (arith, o.rising k l (omega arith) h));
    }

    pub row_fails : row_ok levels trail from (get_or opened l 0) l ≡ false → levels_ok levels trail opened level len ≡ false
    unfolding levels_ok
    row_fails e =
        let p = level_is levels trail opened level in
        not_true _ (λ all. false≢true (sym e ∙ row_right (get_or opened l 0) not_below ∙ every_all p _ (λ i b. every_at p len i all (omega (arith, o.below l h)))))

  -- the last row ends the whole
  pub row_last : (len : ℕ) → level ≤ l → row_ok levels trail from len level ≡ levels_ok levels trail opened level len
  unfolding levels_ok
  row_last len h = let e : level ≡ l = omega (arith, r.at) in ap (row_ok levels trail from len) e ∙ row_right len (λ k b d. absurd (omega arith))
