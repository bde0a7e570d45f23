-- Writing a text, as code goes: a row number by number, and line behind line. Assumes nothing.
use Rattle.std.specs.Prelude.{ℕ, ◌+◌, ◌<◌, ◌≡◌, refl, List, [], ◌∷◌, ◌++◌, map, length, get_or, take}
use Rattle.std.proofs.Common.{sym, ap, ◌∙◌, append-nil, append_assoc, arith, add-one, take-suc}
use Rattle.forms.specs.Text.{tab, newline, digits}
use Rattle.forms.specs.TextLaws.{digits_enough}
use Rattle.forms.specs.Spelling.{Whole, ended, behind, first_line}
use Rattle.saved_text.specs.Saved.{Kind, whole, field_text, Form, clause_form, trail_form, Saved, forms_of, row_line, row_lines, text_of}

-- a whole number's text is that of 32 bits
pub whole_text : (v : ℕ) → Whole v → field_text whole v ≡ digits v
whole_text v h = digits_enough 19 9 v (omega arith) (omega arith)

-- one number more: a tab and its text
pub texts_more : (k : Kind) (vs : List ℕ) (v : ℕ) → behind tab (map (field_text k) (vs ++ (v ∷ []))) ≡ behind tab (map (field_text k) vs) ++ (tab ∷ field_text k v)
unfolding behind
texts_more k [] v = rw append-nil
texts_more k (w ∷ vs) v = rw (texts_more k vs v, append_assoc)

module _ (f : Form) (vs : List ℕ) where
  pub row_more : (v : ℕ) → row_line f (vs ++ (v ∷ [])) ≡ row_line f vs ++ (tab ∷ field_text f.kind v)
  row_more v = rw (texts_more f.kind vs v)

-- so a row is written from its first number to its last
pub row_none : (f : Form) (vs : List ℕ) → row_line f (take 0 vs) ≡ f.letter ∷ []
unfolding behind
row_none f vs = refl

pub row_next : (f : Form) (vs : List ℕ) (i : ℕ) → i < length vs → row_line f (take (i + 1) vs) ≡ row_line f (take i vs) ++ (tab ∷ field_text f.kind (get_or vs i 0))
row_next f vs i h = rw (add-one i, take-suc vs i 0 h) (row_more f (take i vs) (get_or vs i 0))

-- lines behind lines
pub ended_append : (ls more : List (List ℕ)) → ended (ls ++ more) ≡ ended ls ++ ended more
unfolding ended
ended_append [] more = refl
ended_append (l ∷ ls) more = rw (ended_append ls more) (sym (append_assoc l (newline ∷ ended ls) (ended more)))

-- the text: the first line, the clauses, the trail's line, and the rows behind it; and these, row by row
pub text_parts : (s : Saved) → text_of s ≡ ended (first_line s.opening ∷ []) ++ (ended (map (row_line clause_form) s.clauses) ++ (ended (row_line trail_form s.codes ∷ []) ++ ended (row_lines (forms_of s) s.rows)))
unfolding text_of
text_parts s =
    let clauses = map (row_line clause_form) s.clauses in
    let trail = row_line trail_form s.codes in
    let rows = row_lines (forms_of s) s.rows in
    ended_append (first_line s.opening ∷ []) (clauses ++ (trail ∷ rows)) ∙ ap (λ (l : List ℕ). ended (first_line s.opening ∷ []) ++ l) (ended_append clauses (trail ∷ rows) ∙ ap (λ (l : List ℕ). ended clauses ++ l) (ended_append (trail ∷ []) rows))

pub rows_parts : (f : Form) (fs : List Form) (vs : List ℕ) (rows : List (List ℕ)) → ended (row_lines (f ∷ fs) (vs ∷ rows)) ≡ ended (row_line f vs ∷ []) ++ ended (row_lines fs rows)
unfolding row_lines
rows_parts f fs vs rows = ended_append (row_line f vs ∷ []) (row_lines fs rows)
