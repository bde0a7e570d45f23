-- The text of a saved session, as docs/SAVED.md has it. Bytes are numbers. A line is a letter, and numbers that are all written in one way.
use Rattle.std.specs.Prelude.{ℕ, ◌^◌, ◌<◌, ◌≤◌, ◌≡◌, List, [], ◌∷◌, ◌++◌, map, length}
use Rattle.std.proofs.Math.Option.{Option, none, some}
use Rattle.laws.specs.Each.{Each}
use Rattle.lit.specs.Numbers.{NONE}
use Rattle.forms.specs.Letters.{clause_letter}
use Rattle.forms.specs.Text.{digits_by}
use Rattle.forms.specs.Forms.{Mode, vsids, vmtf, Opening}
use Rattle.forms.specs.Spelling.{Whole, ended, line_of, hex, reason_text, first_line}

-- how a number is written: in decimal up to the greatest that may stand there, as the 64 bits of a double, or as a reason
pub data Kind : Type 0 where
  up_to : ℕ → Kind
  bits reason : Kind

abbrev pub field_text : Kind → ℕ → List ℕ
field_text (up_to top) v = digits_by 20 v
field_text bits v = hex 16 v
field_text reason v = reason_text v

abbrev pub Fits : Kind → ℕ → Type 0
Fits (up_to top) v = v ≤ top
Fits bits v = v < 2 ^ 64
Fits reason v = Whole v

-- numbers, long numbers, and switches
abbrev pub whole : Kind
whole = up_to NONE

abbrev pub long : Kind
long = up_to 18446744073709551615

abbrev pub switch : Kind
switch = up_to 1

-- a line: its letter, how its numbers are written, and how many they are, where that is said
pub record Form : Type 0 where
  pub letter : ℕ
  pub kind : Kind
  pub count : Option ℕ

abbrev pub form : ℕ → Kind → ℕ → Form
form letter kind count = record { letter = letter; kind = kind; count = some count }

abbrev pub any_of : ℕ → Kind → Form
any_of letter kind = record { letter = letter; kind = kind; count = none }

abbrev pub Counts : Option ℕ → ℕ → Type 0
Counts none k = Unit
Counts (some n) k = k ≡ n

abbrev pub Row : Form → List ℕ → Type 0
Row f vs = Counts f.count (length vs) × Each (Fits f.kind) vs

-- the lines, in their order: `c` for each clause, `t`, then these, where the trail has k codes
abbrev pub clause_form : Form
clause_form = any_of clause_letter whole

abbrev pub trail_form : Form
trail_form = any_of 116 whole

abbrev pub chooser_forms : Mode → ℕ → List Form
chooser_forms vsids n = any_of 104 whole ∷ form 97 bits n ∷ form 111 switch n ∷ form 119 bits 2 ∷ []
chooser_forms vmtf n = form 118 whole n ∷ form 115 long n ∷ form 107 long 1 ∷ form 102 reason 1 ∷ []

abbrev pub forms : Mode → ℕ → ℕ → List Form
forms mode n k = form 108 whole k ∷ form 114 reason k ∷ form 113 whole 1 ∷ chooser_forms mode n

-- what a text says: the numbers of its lines
pub record Saved : Type 0 where
  pub opening : Opening
  pub clauses : List (List ℕ)
  pub codes : List ℕ
  pub rows : List (List ℕ)

unfoldable pub Rows : List Form → List (List ℕ) → Type 0
Rows [] [] = Unit
Rows [] (vs ∷ rows) = ⊥
Rows (f ∷ fs) [] = ⊥
Rows (f ∷ fs) (vs ∷ rows) = Row f vs × Rows fs rows

abbrev pub forms_of : Saved → List Form
forms_of s = forms s.opening.mode s.opening.vars (length s.codes)

pub record WellFormed (s : Saved) : Type 0 where
  pub vars : Whole s.opening.vars
  pub clauses : Each (Row clause_form) s.clauses
  pub codes : Row trail_form s.codes
  pub rows : Rows (forms_of s) s.rows

-- its bytes
abbrev pub row_line : Form → List ℕ → List ℕ
row_line f vs = line_of f.letter (map (field_text f.kind) vs)

unfoldable pub row_lines : List Form → List (List ℕ) → List (List ℕ)
row_lines [] rows = []
row_lines (f ∷ fs) [] = []
row_lines (f ∷ fs) (vs ∷ rows) = row_line f vs ∷ row_lines fs rows

unfoldable pub text_of : Saved → List ℕ
text_of s = ended (first_line s.opening ∷ map (row_line clause_form) s.clauses ++ (row_line trail_form s.codes ∷ row_lines (forms_of s) s.rows))
