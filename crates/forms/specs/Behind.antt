-- The bytes behind a line's letter, and what the fields there are. Assumes nothing.
use Rattle.std.specs.Prelude.{◌≡◌, ℕ, ◌+◌, ◌<◌, ◌≤◌, Bool, true, false, cond, ◌&&◌, List, [], ◌∷◌, ◌++◌, length, drop, ◌==◌, ◌≢◌, nat_le, slice_index}
use Rattle.std.proofs.Math.Path.{refl}
use Rattle.std.proofs.Common.{sym, arith}
use Rattle.std.proofs.Math.Option.{Option, none, some}
use borrow.Author.Tests.{eqb-true, eqb-false, eq-eqb, ne_eqb, leb-true, leb-false}
use Rattle.laws.specs.Tests.{true_or_false, and_left, and_right}
use Rattle.forms.specs.Text.{tab, find, split_from, fields}
use Rattle.forms.specs.Forms.{given, lettered}

-- the fields behind the letter, of the bytes behind it: none where the line ends there, else a tab and the fields after it
unfoldable pub behind : List ℕ → Option (List (List ℕ))
behind [] = some []
behind (b ∷ bs) = cond (b == tab) (some (fields bs)) none

-- where the reading gives nothing, nothing is given
pub nothing : {A B : Type 0} (o : Option A) (f : A → Option B) → ((x : A) → f x ≡ none) → given o f ≡ none
nothing none f h = refl
nothing (some x) f h = h x

-- a first field of two bytes or more is no letter
module _ {B : Type 0} (read : ℕ → List (List ℕ) → Option B) where
  no_letter : (a b : ℕ) (piece bs : List ℕ) → lettered read (split_from tab (a ∷ (b ∷ piece)) bs) ≡ none
  unfolding split_from
  no_letter a b piece [] = refl
  no_letter a b piece (c ∷ cs) = true_or_false (c == tab) (λ t. rw t) (λ f. rw f (no_letter a b (piece ++ (c ∷ [])) cs))

  pub lettered_behind : (b : ℕ) (bs : List ℕ) → (b ≡ tab → (fs : List (List ℕ)) → read b fs ≡ none) → lettered read (fields (b ∷ bs)) ≡ given (behind bs) (λ fs. read b fs)
  unfolding split_from behind
  lettered_behind b bs h = true_or_false (b == tab) (λ t. rw t (sym (at_tab bs (h (eqb-true b tab t))))) (λ f. rw f (past bs))
    where
      at_tab : (bs : List ℕ) → ((fs : List (List ℕ)) → read b fs ≡ none) → given (behind bs) (λ fs. read b fs) ≡ none
      at_tab bs h = nothing (behind bs) (λ fs. read b fs) h

      past : (bs : List ℕ) → lettered read (split_from tab (b ∷ []) bs) ≡ given (behind bs) (λ fs. read b fs)
      past [] = refl
      past (c ∷ cs) = true_or_false (c == tab) (λ t. rw t) (λ f. rw f (no_letter b c [] cs))

-- whether fields follow: a tab at place 1
unfoldable pub tabbed : List ℕ → Bool
tabbed line = nat_le 2 (length line) && slice_index line 1 == tab

-- the place of the tab behind the second field, or the length
unfoldable pub second_tab : List ℕ → ℕ
second_tab line = cond (tabbed line) (2 + find tab (drop 2 line)) (length line)

-- by the places of a line: it ends behind its letter, no tab stands there, or a tab does
pub behind_end : (line : List ℕ) → length line < 2 → behind (drop 1 line) ≡ some []
unfolding behind
behind_end [] h = refl
behind_end (a ∷ []) h = refl
behind_end (a ∷ (b ∷ bs)) h = absurd (omega arith)

pub behind_other : (line : List ℕ) → 2 ≤ length line → (slice_index line 1 ≢ tab) → behind (drop 1 line) ≡ none
unfolding behind
behind_other [] h n = absurd (omega arith)
behind_other (a ∷ []) h n = absurd (omega arith)
behind_other (a ∷ (b ∷ bs)) h n = rw (ne_eqb b tab n)

pub behind_tab : (line : List ℕ) → 2 ≤ length line → slice_index line 1 ≡ tab → behind (drop 1 line) ≡ some (fields (drop 2 line))
unfolding behind
behind_tab [] h e = absurd (omega arith)
behind_tab (a ∷ []) h e = absurd (omega arith)
behind_tab (a ∷ (b ∷ bs)) h e = rw (eq-eqb b tab e)

-- and by the test: the fields behind the tab, or none that a reading with a field of its own could take
module _ (line : List ℕ) where
  pub tabbed_long : tabbed line ≡ true → 2 ≤ length line
  unfolding tabbed
  tabbed_long t = leb-true 2 (length line) (and_left (nat_le 2 (length line)) (slice_index line 1 == tab) t)

  pub tabbed_fields : tabbed line ≡ true → behind (drop 1 line) ≡ some (fields (drop 2 line))
  unfolding tabbed
  tabbed_fields t = behind_tab line (tabbed_long t) (eqb-true (slice_index line 1) tab (and_right (nat_le 2 (length line)) (slice_index line 1 == tab) t))

  pub untabbed : {B : Type 0} (read : List (List ℕ) → Option B) → read [] ≡ none → tabbed line ≡ false → given (behind (drop 1 line)) read ≡ none
  unfolding tabbed
  untabbed read e f =
      true_or_false (nat_le 2 (length line))
      (λ t. rw (behind_other line (leb-true 2 (length line) t) (eqb-false (slice_index line 1) tab (rw t at f))))
      (λ s. rw (behind_end line (leb-false 2 (length line) s)) e)
