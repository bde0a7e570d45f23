-- The forms by the places of a line: its kind and the fields behind its letter. Assumes nothing.
use Rattle.std.specs.Prelude.{◌≡◌, ℕ, ◌+◌, ◌-◌, ◌<◌, ◌≤◌, true, false, cond, List, [], ◌∷◌, length, take, drop, ◌==◌, ◌≢◌, slice_index, slice_range}
use Rattle.std.proofs.Math.Path.{refl}
use Rattle.std.proofs.Common.{sym, ◌∙◌, drop-drop}
use Rattle.std.proofs.lemmas.Bool.{false≢true}
use Rattle.std.proofs.Math.Option.{Option, none, some}
use native.Mathlib.Omega.{arith}
use Rattle.std.proofs.Math.ListN.{length-drop}
use Rattle.laws.specs.Tests.{true_or_false}
use Rattle.forms.specs.Letters.{clause_letter, first_letter}
use Rattle.forms.specs.Text.{tab, find, split_from, number}
use Rattle.forms.specs.TextLaws.{find_length}
use Rattle.book.specs.Calls.{Call, bump, decay, insert, switch_off, decide, learn_unit, go_back, bump_reason}
use Rattle.forms.specs.Forms.{Kind, kind_of, bumps, decays, sets_decay, inserts, switches_off, decides, enqueues, learns_unit, goes_back, bumps_reason, moves_group, is_clause, is_first, is_other, given, alone, one, two, one_number, decay_in, numbers, enqueue_in, call_with, call_in, begins_clause, codes_in, opening_in, first_in}
use Rattle.forms.specs.declared.table.Kind as code
use Rattle.forms.specs.declared.table.Kind.TheVariants as a_kind
use Rattle.forms.specs.Kinds.{code_kind, kind_in, kind_back, kind_told, first_told, first_untold}
use Rattle.forms.specs.Behind.{behind, nothing, lettered_behind, behind_end, tabbed, second_tab, tabbed_long, tabbed_fields, untabbed}
use Rattle.forms.specs.Laws.{fields_some, one_field, two_last, two_found, pattern_tab, reason_tab, mode-tab}
use Rattle.forms.specs.Read.{numbered}

-- one field behind the letter
pub one_behind : {B : Type 0} (line : List ℕ) → tabbed line ≡ true → (read : List ℕ → Option B) → ((bs : List ℕ) → find tab bs < length bs → read bs ≡ none) → given (behind (drop 1 line)) (one read) ≡ read (drop 2 line)
one_behind line t read h = rw (tabbed_fields line t) (one_field read (drop 2 line) (h (drop 2 line)))

-- two fields behind the letter: the second tab lies between them, and without one there are not two
module _ (line : List ℕ) where
  range : (second_tab line ≢ length line) → (2 ≤ second_tab line) × (second_tab line < length line)
  unfolding second_tab
  range n =
      true_or_false (tabbed line)
      (λ t. (let m : 2 + find tab (drop 2 line) ≡ length line → ⊥ = rw t at n in
      rw t (omega arith, omega (arith, find_length tab (drop 2 line), length-drop 2 line, tabbed_long line t))))
      (λ f. (let m : length line ≡ length line → ⊥ = rw f at n in absurd (m refl)))

  module _ {B : Type 0} (read : List ℕ → List ℕ → Option B) where
    last : second_tab line ≡ length line → given (behind (drop 1 line)) (two read) ≡ none
    unfolding second_tab
    last e =
        true_or_false (tabbed line)
        (λ t. (let m : 2 + find tab (drop 2 line) ≡ length line = rw t at e in
        rw (tabbed_fields line t) (two_last read (drop 2 line) (omega (arith, length-drop 2 line)))))
        (λ f. untabbed line (two read) refl f)

    between : ((f bs : List ℕ) → find tab bs < length bs → read f bs ≡ none) → (second_tab line ≢ length line) → given (behind (drop 1 line)) (two read) ≡ read (take (second_tab line - 2) (drop 2 line)) (drop (second_tab line + 1) line)
    unfolding second_tab
    between h n =
        true_or_false (tabbed line)
        (λ t. (let m : 2 + find tab (drop 2 line) ≡ length line → ⊥ = rw t at n in
        let at = find tab (drop 2 line) in
        let f = take at (drop 2 line) in
        let bs = drop (at + 1) (drop 2 line) in
        let start : 2 + at - 2 ≡ at = omega arith in
        let end : 2 + (at + 1) ≡ 2 + at + 1 = omega arith in
        rw (t, start, tabbed_fields line t) (two_found read (drop 2 line) (omega (arith, find_length tab (drop 2 line), length-drop 2 line, tabbed_long line t)) ∙ one_field (read f) bs (h f bs) ∙ rw (drop-drop (at + 1) 2 line, end))))
        (λ f. (let m : length line ≡ length line → ⊥ = rw f at n in absurd (m refl)))

  -- with the place as code has it
  module _ {end : ℕ} (e : end ≡ second_tab line) where
    pub second_range : (end ≢ length line) → (2 ≤ end) × (end < length line)
    second_range n = rw e (range (rw e at n))

    module _ {B : Type 0} (read : List ℕ → List ℕ → Option B) where
      pub two_none : end ≡ length line → given (behind (drop 1 line)) (two read) ≡ none
      two_none h = last read (sym e ∙ h)

      pub two_behind : ((f bs : List ℕ) → find tab bs < length bs → read f bs ≡ none) → (end ≢ length line) → given (behind (drop 1 line)) (two read) ≡ read (slice_range line 2 end) (drop (end + 1) line)
      two_behind h n = rw e (between read h (rw e at n))

-- none of the readings takes a tab
pub decay_tab : (bs : List ℕ) → find tab bs < length bs → decay_in bs ≡ none
decay_tab bs l = rw (pattern_tab bs l)

pub enqueue_tab : (f bs : List ℕ) → find tab bs < length bs → enqueue_in f bs ≡ none
enqueue_tab f bs l = rw (reason_tab bs l) (nothing (number f) (λ code. none) (λ code. refl))

pub opening_tab : (f bs : List ℕ) → find tab bs < length bs → opening_in f bs ≡ none
opening_tab f bs l = rw (mode-tab bs l) (nothing (number f) (λ n. none) (λ n. refl))

-- calls: by the kind of the first byte
pub call_none : (line : List ℕ) → length line ≡ 0 → call_in line ≡ none
unfolding call_in split_from
call_none [] e = refl
call_none (b ∷ bs) e = absurd (omega arith)

pub call_kind : (line : List ℕ) {k : code.Kind} → (length line ≢ 0) → k ≡ code_kind (kind_of (slice_index line 0)) → call_in line ≡ given (behind (drop 1 line)) (call_with (kind_in k))
unfolding call_in kind_of
call_kind [] n e = absurd (n refl)
call_kind (b ∷ bs) n e = rw (e, kind_back (kind_of b)) (lettered_behind (λ b fs. call_with (kind_of b) fs) b bs (λ t fs. rw t))

-- `y` stands alone
pub decay_alone : (line : List ℕ) → length line ≡ 1 → given (behind (drop 1 line)) (call_with decays) ≡ some decay
decay_alone line e = rw (behind_end line (omega arith))

pub decay_not_alone : (line : List ℕ) → (length line ≢ 0) → (length line ≢ 1) → given (behind (drop 1 line)) (call_with decays) ≡ none
unfolding behind
decay_not_alone [] n m = absurd (n refl)
decay_not_alone (a ∷ []) n m = absurd (m refl)
decay_not_alone (a ∷ (b ∷ bs)) n m =
    true_or_false (b == tab)
    (λ t. rw t (fields_some (λ fs. alone decay fs ≡ none) bs (λ f fs. refl)))
    (λ f. rw f)

-- the kinds with one whole number, and those of no call
made : (make : ℕ → Call) (fs : List (List ℕ)) → given (one number fs) (λ v. some (make v)) ≡ one_number make fs
made make [] = refl
made make (f ∷ []) = refl
made make (f ∷ (g ∷ fs)) = refl

one_kind : (x : Kind) (o : Option (List (List ℕ))) → (x ≢ decays) → (x ≢ sets_decay) → (x ≢ enqueues) → (x ≢ moves_group) → given (given o (one number)) (numbered x) ≡ given o (call_with x)
one_kind x none d w e f = refl
one_kind bumps (some fs) d w e f = made bump fs
one_kind inserts (some fs) d w e f = made insert fs
one_kind switches_off (some fs) d w e f = made switch_off fs
one_kind decides (some fs) d w e f = made decide fs
one_kind learns_unit (some fs) d w e f = made learn_unit fs
one_kind goes_back (some fs) d w e f = made go_back fs
one_kind bumps_reason (some fs) d w e f = made bump_reason fs
one_kind decays (some fs) d w e f = absurd (d refl)
one_kind sets_decay (some fs) d w e f = absurd (w refl)
one_kind enqueues (some fs) d w e f = absurd (e refl)
one_kind moves_group (some fs) d w e f = absurd (f refl)
one_kind is_clause (some fs) d w e f = nothing (one number fs) (λ v. none) (λ v. refl)
one_kind is_first (some fs) d w e f = nothing (one number fs) (λ v. none) (λ v. refl)
one_kind is_other (some fs) d w e f = nothing (one number fs) (λ v. none) (λ v. refl)

pub call_one : (line : List ℕ) {k : code.Kind} → (length line ≢ 0) → k ≡ code_kind (kind_of (slice_index line 0)) → (k ≢ a_kind.Decays) → (k ≢ a_kind.SetsDecay) → (k ≢ a_kind.Enqueues) → (k ≢ a_kind.MovesGroup)
    → call_in line ≡ given (given (behind (drop 1 line)) (one number)) (numbered (kind_in k))
call_one line {k} n h d w e f =
    call_kind line n h ∙ sym (one_kind (kind_in k) (behind (drop 1 line)) (λ z. d (kind_told z)) (λ z. w (kind_told z)) (λ z. e (kind_told z)) (λ z. f (kind_told z)))

-- clause lines
pub codes_none : (line : List ℕ) → begins_clause line ≡ false → codes_in line ≡ none
unfolding codes_in begins_clause split_from
codes_none [] e = refl
codes_none (b ∷ bs) e = lettered_behind (λ b fs. cond (b == clause_letter) (numbers fs) none) b bs (λ t fs. rw t) ∙ rw e (nothing (behind bs) (λ fs. none) (λ fs. refl))

pub codes_behind : (line : List ℕ) → begins_clause line ≡ true → codes_in line ≡ given (behind (drop 1 line)) numbers
unfolding codes_in begins_clause
codes_behind [] e = absurd (false≢true e)
codes_behind (b ∷ bs) e = lettered_behind (λ b fs. cond (b == clause_letter) (numbers fs) none) b bs (λ t fs. rw t) ∙ rw e

-- the first line
pub first_none : (line : List ℕ) → length line ≡ 0 → first_in line ≡ none
unfolding first_in split_from
first_none [] e = refl
first_none (b ∷ bs) e = absurd (omega arith)

first_kind : (line : List ℕ) → (length line ≢ 0) → first_in line ≡ given (behind (drop 1 line)) (λ fs. cond (slice_index line 0 == first_letter) (two opening_in fs) none)
unfolding first_in
first_kind [] n = absurd (n refl)
first_kind (b ∷ bs) n = lettered_behind (λ b fs. cond (b == first_letter) (two opening_in fs) none) b bs (λ t fs. rw t)

module _ (line : List ℕ) (n : length line ≡ 0 → ⊥) {k : code.Kind} (e : k ≡ code_kind (kind_of (slice_index line 0))) where
  pub first_other : (k ≢ a_kind.First) → first_in line ≡ none
  first_other m = first_kind line n ∙ rw (first_untold (slice_index line 0) e m) (nothing (behind (drop 1 line)) (λ fs. none) (λ fs. refl))

  pub first_behind : k ≡ a_kind.First → first_in line ≡ given (behind (drop 1 line)) (two opening_in)
  first_behind m = first_kind line n ∙ rw (first_told (slice_index line 0) e m)
