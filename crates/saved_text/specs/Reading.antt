-- Reading the text of a saved session: line by line, each of the form that its place asks. `Read` shows that this is the inverse of writing it.
use Rattle.std.specs.Prelude.{ℕ, Bool, cond, true, List, [], ◌∷◌, eqb, length}
use Rattle.std.proofs.Math.Option.{Option, none, some}
use Rattle.forms.specs.Text.{newline, fields, split, lines, number_up_to, pattern}
use Rattle.forms.specs.Forms.{Opening, given, lettered, reason_in, begins_clause, first_in}
use Rattle.saved_text.specs.Saved.{Kind, up_to, bits, reason, Form, clause_form, trail_form, forms, Saved}

-- a field, and the fields of a line
abbrev pub field_in : Kind → List ℕ → Option ℕ
field_in (up_to top) f = number_up_to top f
field_in bits f = pattern f
field_in reason f = reason_in f

unfoldable pub fields_in : Kind → List (List ℕ) → Option (List ℕ)
fields_in k [] = some []
fields_in k (f ∷ fs) = given (field_in k f) (λ v. given (fields_in k fs) (λ vs. some (v ∷ vs)))

-- a line with this letter
unfoldable pub numbers_in : ℕ → Kind → List ℕ → Option (List ℕ)
numbers_in letter kind line = lettered (λ b fs. cond (eqb b letter) (fields_in kind fs) none) (fields line)

abbrev pub count_ok : Option ℕ → ℕ → Bool
count_ok none k = true
count_ok (some n) k = eqb k n

unfoldable pub counted : Option ℕ → List ℕ → Option (List ℕ)
counted n vs = cond (count_ok n (length vs)) (some vs) none

abbrev pub row_in : Form → List ℕ → Option (List ℕ)
row_in f line = given (numbers_in f.letter f.kind line) (counted f.count)

-- the clauses, up to the first line that does not begin as theirs do, and the lines from there on
unfoldable pub clauses_in : List (List ℕ) → Option (List (List ℕ) × List (List ℕ))
clauses_in [] = some ([], [])
clauses_in (l ∷ ls) = cond (begins_clause l) (given (row_in clause_form l) (λ c. given (clauses_in ls) (λ p. some (c ∷ p.0, p.1)))) (some ([], l ∷ ls))

-- these lines and no other
unfoldable pub rows_in : List Form → List (List ℕ) → Option (List (List ℕ))
rows_in [] [] = some []
rows_in [] (l ∷ ls) = none
rows_in (f ∷ fs) [] = none
rows_in (f ∷ fs) (l ∷ ls) = given (row_in f l) (λ vs. given (rows_in fs ls) (λ rows. some (vs ∷ rows)))

unfoldable pub behind_clauses : Opening → List (List ℕ) → List (List ℕ) → Option Saved
behind_clauses o clauses [] = none
behind_clauses o clauses (l ∷ ls) = given (row_in trail_form l) (λ codes. given (rows_in (forms o.mode o.vars (length codes)) ls) (λ rows. some (record { opening = o; clauses = clauses; codes = codes; rows = rows })))

unfoldable pub saved_in : List (List ℕ) → Option Saved
saved_in [] = none
saved_in (l ∷ ls) = given (first_in l) (λ o. given (clauses_in ls) (λ p. behind_clauses o p.0 p.1))

-- whether nothing stands behind the last newline
unfoldable pub last_empty : List (List ℕ) → Bool
last_empty [] = true
last_empty (p ∷ []) = eqb (length p) 0
last_empty (p ∷ (q ∷ ps)) = last_empty (q ∷ ps)

abbrev pub closed : List ℕ → Bool
closed bytes = last_empty (split newline bytes)

unfoldable pub read_text : List ℕ → Option Saved
read_text bytes = cond (closed bytes) (saved_in (lines bytes)) none
