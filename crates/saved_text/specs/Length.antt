-- How long a saved text is: a sum over its lines, and what a row takes where its numbers are short. Assumes nothing.
use Rattle.std.specs.Prelude.{ℕ, zero, suc, ◌+◌, ◌*◌, ◌/◌, ◌^◌, ◌≤◌, ◌<◌, ◌≡◌, refl, eqb, length, get_or, take}
use Rattle.std.proofs.Common.{ap, ◌∙◌}
use mathlib.Core.List.{List, [], ◌∷◌, ◌++◌, map}
use native.Mathlib.Omega.{arith}
use Rattle.std.proofs.Math.Nat.{add-mul}
use Rattle.std.proofs.lemmas.Bool.{eqb-false}
use Rattle.std.proofs.Math.ListN.{length-append}
use Rattle.laws.specs.Each.{Each}
use Rattle.laws.specs.Tests.{true_or_false}
use Rattle.lit.specs.Numbers.{NONE}
use Rattle.forms.specs.TextLaws.{digits_short, digits_room}
use Rattle.forms.specs.Forms.{Mode, vsids, vmtf, Opening}
use Rattle.forms.specs.Spelling.{ended, behind, hex, reason_text, mode_text, first_line}
use Rattle.saved_text.specs.Saved.{Kind, up_to, bits, reason, field_text, Form, clause_form, trail_form, Saved, forms_of, row_line, row_lines, text_of}
use Rattle.saved_text.specs.Writing.{row_more, row_next, ended_append}

-- ---- a number: 16 bytes for bits, else its digits (`digits_short`), or a dash

pub bits_length : (k p : ℕ) → length (hex k p) ≡ k
unfolding hex
bits_length zero p = refl
bits_length (suc k) p = simp length-append (omega (arith, bits_length k (p / 16)))

pub reason_length : (j r : ℕ) → ((r ≡ NONE → ⊥) → r < 10 ^ suc j) → length (reason_text r) ≤ suc j
unfolding reason_text
reason_length j r h =
    true_or_false (eqb r NONE)
    (λ t. rw t (omega arith))
    (λ f. rw f (digits_short j 10 r (h (eqb-false r NONE f))))

pub field_room : (k : Kind) (v : ℕ) → length (field_text k v) ≤ 20
unfolding reason_text
field_room (up_to top) v = digits_room 20 v
field_room bits v = omega (arith, bits_length 16 v)
field_room reason v = true_or_false (eqb v NONE) (λ t. rw t (omega arith)) (λ f. rw f (omega (arith, digits_room 10 v)))

-- ---- a row: its letter, and a tab before each number

pub row_length : (f : Form) (vs : List ℕ) (v : ℕ) → length (row_line f (vs ++ (v ∷ []))) ≡ length (row_line f vs) + 1 + length (field_text f.kind v)
row_length f vs v = ap length (row_more f vs v) ∙ simp length-append (omega arith)

pub row_counted : (f : Form) (vs : List ℕ) (i : ℕ) → i < length vs → length (row_line f (take (i + 1) vs)) ≡ length (row_line f (take i vs)) + 1 + length (field_text f.kind (get_or vs i 0))
row_counted f vs i h = ap length (row_next f vs i h) ∙ simp length-append (omega arith)

-- its first numbers take no more
pub row_part : (f : Form) (i : ℕ) (vs : List ℕ) → length (row_line f (take i vs)) ≤ length (row_line f vs)
unfolding behind
row_part f zero vs = omega arith
row_part f (suc i) [] = omega arith
row_part f (suc i) (v ∷ vs) = simp length-append (omega (arith, row_part f i vs))

module _ (f : Form) (w : ℕ) (P : ℕ → Type 0) (short : (v : ℕ) → P v → length (field_text f.kind v) ≤ w) where
  pub row_room : (vs : List ℕ) → Each P vs → length (row_line f vs) ≤ 1 + length vs * (w + 1)
  unfolding behind
  row_room [] h = omega arith
  row_room (v ∷ vs) h = simp length-append (omega (arith, short v h.0, row_room vs h.1, add-mul 1 (length vs) (w + 1)))

-- the first line
mode_length : (m : Mode) → length (mode_text m) ≤ 5
unfolding mode_text
mode_length vsids = omega arith
mode_length vmtf = omega arith

pub first_room : (j : ℕ) (o : Opening) → o.vars < 10 ^ suc j → length (first_line o) ≤ suc j + 8
unfolding behind mode_text
first_room j o h = simp length-append (omega (arith, digits_short j 10 o.vars h, mode_length o.mode))

-- ---- lines, each with its newline

line_length_lem : (l : List ℕ) (ls : List (List ℕ)) → length (ended (l ∷ ls)) ≡ length l + 1 + length (ended ls)
unfolding ended
line_length_lem l ls = simp length-append (omega arith)

ended_more : (ls more : List (List ℕ)) → length (ended (ls ++ more)) ≡ length (ended ls) + length (ended more)
ended_more ls more = ap length (ended_append ls more) ∙ length-append (ended ls) (ended more)

-- the numbers of all rows
unfoldable pub total : List (List ℕ) → ℕ
total [] = 0
total (vs ∷ rows) = length vs + total rows

-- the clauses: two bytes for each, and for each code a tab and its digits
pub clauses_room : (j : ℕ) (cs : List (List ℕ)) → Each (Each (λ v. v < 10 ^ suc j)) cs → length (ended (map (row_line clause_form) cs)) ≤ 2 * length cs + total cs * (suc j + 1)
unfolding ended total
clauses_room j [] h = omega arith
clauses_room j (c ∷ cs) h =
    let one = row_room clause_form (suc j) (λ v. v < 10 ^ suc j) (λ v l. digits_short j 20 v l) c h.0 in
    omega (arith, line_length_lem (row_line clause_form c) (map (row_line clause_form) cs), one, clauses_room j cs h.1, add-mul (length c) (total cs) (suc j + 1))

abbrev pub rows_length : List Form → List (List ℕ) → ℕ
rows_length [] rows = 0
rows_length (f ∷ fs) [] = 0
rows_length (f ∷ fs) (vs ∷ rows) = length (row_line f vs) + 1 + rows_length fs rows

rows_length_lem : (fs : List Form) (rows : List (List ℕ)) → length (ended (row_lines fs rows)) ≡ rows_length fs rows
unfolding ended row_lines
rows_length_lem [] rows = refl
rows_length_lem (f ∷ fs) [] = refl
rows_length_lem (f ∷ fs) (vs ∷ rows) = omega (arith, line_length_lem (row_line f vs) (row_lines fs rows), rows_length_lem fs rows)

-- The text: the first line, the clauses, the trail's line and the rows behind it, each line with its newline.
pub text_length : (s : Saved) → length (text_of s) ≡ (length (first_line s.opening) + 1) + length (ended (map (row_line clause_form) s.clauses)) + (length (row_line trail_form s.codes) + 1) + rows_length (forms_of s) s.rows
unfolding text_of
text_length s =
    let clauses = map (row_line clause_form) s.clauses in
    let trail = row_line trail_form s.codes in
    let rows = row_lines (forms_of s) s.rows in
    omega (arith, line_length_lem (first_line s.opening) (clauses ++ (trail ∷ rows)), ended_more clauses (trail ∷ rows), line_length_lem trail rows, rows_length_lem (forms_of s) s.rows)
