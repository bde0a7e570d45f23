-- The forms of a sheet's lines: the first line, clause lines and calls, as document 01's section on the call sheet has them.
use Rattle.std.specs.Prelude.{ℕ, Bool, true, false, cond, ◌&&◌, List, [], ◌∷◌, length, ◌==◌, from_bits, nat_le}
use Rattle.std.proofs.Math.Option.{Option, none, some}
use Rattle.std.specs.Float.{binary64}
use Rattle.lit.specs.Numbers.{NONE, max_group}
use Rattle.book.specs.Calls.{Call, bump, decay, set_decay, insert, switch_off, decide, enqueue, learn_unit, go_back, bump_reason, group}
use Rattle.forms.specs.Letters.{bump_letter, decay_letter, set_decay_letter, insert_letter, switch_off_letter, decide_letter, enqueue_letter, learn_unit_letter, go_back_letter, bump_reason_letter, group_letter, clause_letter, first_letter, vsids_text, vmtf_text, dash}
use Rattle.forms.specs.Text.{fields, number, pattern}

-- what a line's first byte says that it is
pub data Kind : Type 0 where
  bumps decays sets_decay inserts switches_off decides enqueues learns_unit goes_back bumps_reason moves_group : Kind
  is_clause is_first is_other : Kind

-- the rule of the table: the letters b, y, w, i, o, g, e, u, k, r, f, c and n
unfoldable pub kind_of : ℕ → Kind
kind_of b =
    cond (b == bump_letter) bumps (
    cond (b == decay_letter) decays (
    cond (b == set_decay_letter) sets_decay (
    cond (b == insert_letter) inserts (
    cond (b == switch_off_letter) switches_off (
    cond (b == decide_letter) decides (
    cond (b == enqueue_letter) enqueues (
    cond (b == learn_unit_letter) learns_unit (
    cond (b == go_back_letter) goes_back (
    cond (b == bump_reason_letter) bumps_reason (
    cond (b == group_letter) moves_group (
    cond (b == clause_letter) is_clause (
    cond (b == first_letter) is_first is_other))))))))))))

-- f of what was read, if something was
abbrev pub given : {A B : Type 0} → Option A → (A → Option B) → Option B
given none f = none
given (some x) f = f x

-- the fields behind the letter: none, one, two, or any number of whole numbers
abbrev pub alone : {A B : Type 0} → B → List A → Option B
alone x [] = some x
alone x (f ∷ fs) = none

abbrev pub one : {A B : Type 0} → (A → Option B) → List A → Option B
one read [] = none
one read (f ∷ fs) = given (alone f fs) read

abbrev pub two : {A B : Type 0} → (A → A → Option B) → List A → Option B
two read [] = none
two read (f ∷ fs) = one (read f) fs

unfoldable pub numbers : List (List ℕ) → Option (List ℕ)
numbers [] = some []
numbers (f ∷ fs) = given (number f) (λ n. given (numbers fs) (λ ns. some (n ∷ ns)))

-- a whole number alone
abbrev pub one_number : (ℕ → Call) → List (List ℕ) → Option Call
one_number make fs = one (λ f. given (number f) (λ n. some (make n))) fs

-- '16 lower-case hexadecimal digits (set decay, the double's bits)'
abbrev pub decay_in : List ℕ → Option Call
decay_in f = given (pattern f) (λ p. some (set_decay (from_bits binary64 p)))

-- the bytes of a field are these
unfoldable pub is : List ℕ → List ℕ → Bool
is [] [] = true
is [] (c ∷ cs) = false
is (b ∷ bs) [] = false
is (b ∷ bs) (c ∷ cs) = b == c && is bs cs

-- 'reason or `-` for NONE, the figure 4294967295 there getting 3'
unfoldable pub reason_in : List ℕ → Option ℕ
reason_in f = cond (is f (dash ∷ [])) (some NONE) (given (number f) (λ r. cond (r == NONE) none (some r)))

abbrev pub enqueue_in : List ℕ → List ℕ → Option Call
enqueue_in f g = given (number f) (λ code. given (reason_in g) (λ reason. some (enqueue code reason)))

-- '0 to 2,048 variables'
abbrev pub group_in : List (List ℕ) → Option Call
group_in fs = given (numbers fs) (λ vs. cond (nat_le (length vs) max_group) (some (group vs)) none)

-- the call of a kind, with the fields behind its letter
abbrev pub call_with : Kind → List (List ℕ) → Option Call
call_with bumps fs = one_number bump fs
call_with decays fs = alone decay fs
call_with sets_decay fs = one decay_in fs
call_with inserts fs = one_number insert fs
call_with switches_off fs = one_number switch_off fs
call_with decides fs = one_number decide fs
call_with enqueues fs = two enqueue_in fs
call_with learns_unit fs = one_number learn_unit fs
call_with goes_back fs = one_number go_back fs
call_with bumps_reason fs = one_number bump_reason fs
call_with moves_group fs = group_in fs
call_with is_clause fs = none
call_with is_first fs = none
call_with is_other fs = none

-- a line's letter is its whole first field, and says how the fields behind it are read
abbrev pub lettered : {B : Type 0} → (ℕ → List (List ℕ) → Option B) → List (List ℕ) → Option B
lettered read [] = none
lettered read (f ∷ fs) = one (λ b. read b fs) f

-- the call that a line is, if it has the form of one
unfoldable pub call_in : List ℕ → Option Call
call_in line = lettered (λ b fs. call_with (kind_of b) fs) (fields line)

-- 'clause lines `c` with 0 or more codes': whether a line begins with c, and its codes if it has the form
unfoldable pub begins_clause : List ℕ → Bool
begins_clause [] = false
begins_clause (b ∷ bs) = b == clause_letter

unfoldable pub codes_in : List ℕ → Option (List ℕ)
codes_in line = lettered (λ b fs. cond (b == clause_letter) (numbers fs) none) (fields line)

-- 'First line: `n`, N, `vsids` or `vmtf`.'
pub data Mode : Type 0 where
  vsids vmtf : Mode

pub record Opening : Type 0 where
  pub vars : ℕ
  pub mode : Mode

unfoldable pub mode_in : List ℕ → Option Mode
mode_in f =
    cond (is f vsids_text) (some vsids) (
    cond (is f vmtf_text) (some vmtf) none)

abbrev pub opening_in : List ℕ → List ℕ → Option Opening
opening_in f g = given (number f) (λ n. given (mode_in g) (λ m. some (record { vars = n; mode = m })))

unfoldable pub first_in : List ℕ → Option Opening
first_in line = lettered (λ b fs. cond (b == first_letter) (two opening_in fs) none) (fields line)
