-- Each number, each row of numbers and each line of a saved text has one text, and no newline in it. Assumes nothing.
use Rattle.std.specs.Prelude.{ℕ, suc, ◌^◌, ◌<◌, ◌≡◌, Bool, true, false, cond, ◌&&◌, eqb, length}
use Rattle.std.proofs.Math.Path.{refl}
use Rattle.std.proofs.Common.{sym, ap, ◌∙◌, arith, eqb-true, eq-eqb, ne_eqb}
use Rattle.std.proofs.lemmas.Bool.{false≢true}
use Rattle.std.proofs.Math.Option.{Option, none, some}
use mathlib.Core.List.{List, [], ◌∷◌, ◌++◌, map}
use Rattle.laws.specs.Each.{Each}
use Rattle.laws.specs.Tests.{true_or_false, and_left, and_right}
use Rattle.lit.specs.Numbers.{NONE}
use Rattle.forms.specs.Letters.{first_letter}
use Rattle.forms.specs.Text.{tab, newline, occurs, all, is_digit, is_hex, pattern, hexadecimal, digits_by, digits}
use Rattle.forms.specs.TextLaws.{digits_all}
use Rattle.forms.specs.Forms.{Mode, vsids, vmtf, first_in}
use Rattle.forms.specs.Spelling.{Without, Whole, behind, line_of, hex, reason_text, mode_text, first_line}
use Rattle.forms.specs.Pieces.{lettered_said, lettered_read}
use Rattle.forms.specs.Words.{same_some, given_some, cond_some, Field, clean, a_decimal, a_pattern, a_reason}
use Rattle.forms.specs.SpellingLaws.{first_said}
use Rattle.saved_text.specs.Saved.{Kind, up_to, bits, reason, field_text, Fits, Form, clause_form, trail_form, chooser_forms, forms, Counts, Row, row_line}
use Rattle.saved_text.specs.Reading.{field_in, fields_in, numbers_in, count_ok, counted, row_in}

-- ---- bytes without a newline

-- bytes that all pass a test that b does not
without : (p : ℕ → Bool) (b : ℕ) → p b ≡ false → (bs : List ℕ) → all p bs ≡ true → Without b bs
unfolding all occurs
without p b n [] h = refl
without p b n (c ∷ bs) h =
    true_or_false (eqb c b)
    (λ t. absurd (false≢true (sym n ∙ sym (ap p (eqb-true c b t)) ∙ and_left (p c) (all p bs) h)))
    (λ f. rw f (without p b n bs (and_right (p c) (all p bs) h)))

without_append : (b : ℕ) (a c : List ℕ) → Without b a → Without b c → Without b (a ++ c)
unfolding occurs
without_append b [] c h k = k
without_append b (x ∷ a) c h k =
    true_or_false (eqb x b)
    (λ t. let m : suc (occurs b a) ≡ 0 = rw t at h in absurd (omega arith))
    (λ f. rw f (without_append b a c (rw f at h) k))

digits_clean : (j n : ℕ) → Without newline (digits_by j n)
digits_clean j n = without is_digit newline refl (digits_by j n) (digits_all j n)

pattern_hex : (f : List ℕ) {p : ℕ} → pattern f ≡ some p → all is_hex f ≡ true
unfolding pattern
pattern_hex f e = and_right (eqb (length f) 16) (all is_hex f) (cond_some (eqb (length f) 16 && all is_hex f) (some (hexadecimal 0 f)) e).0

reason_clean : (r : ℕ) → Without newline (reason_text r)
unfolding reason_text occurs
reason_clean r = true_or_false (eqb r NONE) (λ t. rw t) (λ f. rw f (digits_clean 10 r))

-- ---- a number: twenty digits are enough for the kinds in use

abbrev pub Sound : Kind → Type 0
Sound (up_to top) = top < 10 ^ 20
Sound bits = Unit
Sound reason = Unit

pub a_field : (k : Kind) → Sound k → Field (field_in k) (field_text k) (Fits k)
a_field (up_to top) h = a_decimal top 18 h
a_field bits h = a_pattern
a_field reason h = a_reason

field_clean : (k : Kind) (v : ℕ) → Fits k v → Without newline (field_text k v)
field_clean (up_to top) v h = digits_clean 20 v
field_clean bits v h = without is_hex newline refl (hex 16 v) (pattern_hex (hex 16 v) (a_pattern.back v h))
field_clean reason v h = reason_clean v

-- ---- the numbers of a line

module _ (k : Kind) (sound : Sound k) where
  fields_said : (fs : List (List ℕ)) (vs : List ℕ) → fields_in k fs ≡ some vs → (fs ≡ map (field_text k) vs) × Each (Fits k) vs
  unfolding fields_in
  fields_said [] vs e = same_some (λ vs. ([] ≡ map (field_text k) vs) × Each (Fits k) vs) e (refl, tt)
  fields_said (f ∷ fs) vs e =
      given_some (field_in k f) _ e (λ v d e. given_some (fields_in k fs) _ e (λ ws ds e.
      let s = (a_field k sound).said f v d in
      let others = fields_said fs ws ds in
      same_some (λ vs. (f ∷ fs ≡ map (field_text k) vs) × Each (Fits k) vs) e (cc (s.0, others.0), (s.1, others.1))))

  fields_back : (vs : List ℕ) → Each (Fits k) vs → fields_in k (map (field_text k) vs) ≡ some vs
  unfolding fields_in
  fields_back [] h = refl
  fields_back (v ∷ vs) h = rw ((a_field k sound).back v h.0, fields_back vs h.1)

  fields_tabless : (vs : List ℕ) → Each (Fits k) vs → Each (Without tab) (map (field_text k) vs)
  fields_tabless [] h = tt
  fields_tabless (v ∷ vs) h = (clean (a_field k sound) v h.0, fields_tabless vs h.1)

fields_clean : (k : Kind) (vs : List ℕ) → Each (Fits k) vs → Each (Without newline) (map (field_text k) vs)
fields_clean k [] h = tt
fields_clean k (v ∷ vs) h = (field_clean k v h.0, fields_clean k vs h.1)

count_said : (n : Option ℕ) (k : ℕ) → count_ok n k ≡ true → Counts n k
count_said none k e = tt
count_said (some n) k e = eqb-true k n e

count_back : (n : Option ℕ) (k : ℕ) → Counts n k → count_ok n k ≡ true
count_back none k h = refl
count_back (some n) k h = eq-eqb k n h

-- ---- a line

-- A line is read as x where its bytes are the text of x, and nowhere else.
pub record Line {A : Type 0} (read : List ℕ → Option A) (text : A → List ℕ) (Ok : A → Type 0) : Type 0 where
  pub said : (l : List ℕ) (x : A) → read l ≡ some x → (l ≡ text x) × Ok x
  pub back : (x : A) → Ok x → read (text x) ≡ some x
  pub clean : (x : A) → Ok x → Without newline (text x)

-- what a form needs for that: a letter above the newline, and so above the tab
abbrev pub Ready : Form → Type 0
Ready f = (newline < f.letter) × Sound f.kind

behind_clean : (fs : List (List ℕ)) → Each (Without newline) fs → Without newline (behind tab fs)
unfolding behind occurs
behind_clean [] h = refl
behind_clean (f ∷ fs) h = without_append newline f (behind tab fs) h.0 (behind_clean fs h.1)

line_clean : (b : ℕ) (fs : List (List ℕ)) → newline < b → Each (Without newline) fs → Without newline (line_of b fs)
unfolding occurs
line_clean b fs h k = rw (ne_eqb b newline (λ e. omega arith)) (behind_clean fs k)

letter_tabless : (b : ℕ) → newline < b → Without tab (b ∷ [])
unfolding occurs
letter_tabless b h = rw (ne_eqb b tab (λ e. omega arith))

-- a row of numbers
pub a_row : (f : Form) → Ready f → Line (row_in f) (row_line f) (Row f)
unfolding numbers_in counted
a_row f ready =
    let b = f.letter in
    let k = f.kind in
    record {
      said = λ l vs e. given_some (numbers_in b k l) _ e (λ ws d e.
          let c = cond_some (count_ok f.count (length ws)) (some ws) e in
          same_some (λ vs. (l ≡ row_line f vs) × Row f vs) c.1 (lettered_said _ (λ l. (l ≡ row_line f ws) × Row f ws) l d (λ a fs e.
          let t = cond_some (eqb a b) (fields_in k fs) e in
          let s = fields_said k ready.1 fs ws t.1 in
          (cc (eqb-true a b t.0, s.0), (count_said f.count (length ws) c.0, s.1)))));
      back = λ vs h.
          let read = lettered_read (λ a fs. cond (eqb a b) (fields_in k fs) none) b (map (field_text k) vs) (letter_tabless b ready.0) (fields_tabless k ready.1 vs h.1) in
          rw (read, eq-eqb b b refl, fields_back k ready.1 vs h.1, count_back f.count (length vs) h.0);
      clean = λ vs h. line_clean b (map (field_text k) vs) ready.0 (fields_clean k vs h.1);
    }

-- the first line
mode_clean : (m : Mode) → Without newline (mode_text m)
unfolding mode_text occurs
mode_clean vsids = refl
mode_clean vmtf = refl

pub first : Line first_in first_line (λ o. Whole o.vars)
first = record {
  said = λ l o e. (first_said l o).0 e;
  back = λ o h. (first_said (first_line o) o).1 (refl, h);
  clean = λ o h. line_clean first_letter (digits o.vars ∷ mode_text o.mode ∷ []) (omega arith) (digits_clean 10 o.vars, (mode_clean o.mode, tt));
}

-- the forms in use are such
pub clause_ready : Ready clause_form
clause_ready = (omega arith, omega arith)

pub trail_ready : Ready trail_form
trail_ready = (omega arith, omega arith)

chooser_ready : (m : Mode) (n : ℕ) → Each Ready (chooser_forms m n)
chooser_ready vsids n = ((omega arith, omega arith), ((omega arith, tt), ((omega arith, omega arith), ((omega arith, tt), tt))))
chooser_ready vmtf n = ((omega arith, omega arith), ((omega arith, omega arith), ((omega arith, omega arith), ((omega arith, tt), tt))))

pub forms_ready : (m : Mode) (n k : ℕ) → Each Ready (forms m n k)
forms_ready m n k = ((omega arith, omega arith), ((omega arith, tt), ((omega arith, omega arith), chooser_ready m n)))
