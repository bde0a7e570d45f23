-- Reading a saved text byte by byte: what was read is the text of it, and where the text of something stands, it is read.
use Rattle.std.specs.Prelude.{ℕ, ◌+◌, ◌<◌, ◌≤◌, ◌≡◌, List, [], ◌∷◌, ◌++◌, length, take, drop, Some, None}
use Rattle.std.specs.Prelude as code
use Rattle.laws.specs.Each.{Each}
use Rattle.forms.specs.declared.text.Field.{Field}
use Rattle.forms.specs.Text.{newline}
use Rattle.forms.specs.Spelling.{Whole}
use Rattle.saved_text.specs.declared.cursor.Numbers as numbers
use Rattle.saved_text.specs.Saved.{Kind, field_text, Fits}
use Rattle.saved_text.specs.Greatest.{greatest}
use Rattle.saved_text.specs.Puts.{row_text}

-- what may stand behind a field: a tab or a newline, or nothing
abbrev pub Ends : List ℕ → Type 0
Ends [] = Unit
Ends (b ∷ bs) = b ≤ newline

-- A field at a place of a text was read, or none stands there.
pub record FieldRead (k : Kind) (text : List ℕ) (at : ℕ) (r : code.Option Field) : Type 0 where
  pub sound : (f : Field) → r ≡ Some f → Fits k f.value × (f.end ≤ length text) × (at < f.end) × (drop at text ≡ field_text k f.value ++ drop f.end text)
  pub complete : (v : ℕ) (rest : List ℕ) → Fits k v → Ends rest → drop at text ≡ field_text k v ++ rest → r ≡ Some (record { value = v; end = at + length (field_text k v) })

-- a number and the place behind it are a field
abbrev pub as_field : {N : Type 0} → (N → ℕ) → code.Option (N × ℕ) → code.Option Field
as_field value None = None
as_field value (Some p) = Some (record { value = value p.0; end = p.1 })

-- what was read has 32 bits
abbrev pub Small : code.Option Field → Type 0
Small r = (f : Field) → r ≡ Some f → Whole f.value

-- how code has them: how many, the greatest, and the place behind the line
abbrev pub numbers_of : ℕ → ℕ → Kind → List ℕ → numbers.Numbers
numbers_of letter at k vs = record { count = length vs; greatest = greatest vs; behind = at + length (row_text letter k vs) }

-- The numbers of the line at a place of a text, which is the text of no others; they stand in front in out if it has room for them all.
pub record RowIs (letter : ℕ) (k : Kind) (text : List ℕ) (at : ℕ) (out : List ℕ) (n : numbers.Numbers) : Type 0 where
  pub numbers : List ℕ
  pub are : n ≡ numbers_of letter at k numbers
  pub fits : Each (Fits k) numbers
  pub within : n.behind ≤ length text
  pub text_is : drop at text ≡ row_text letter k numbers ++ drop n.behind text
  pub only : (vs rest : List ℕ) → Each (Fits k) vs → drop at text ≡ row_text letter k vs ++ rest → vs ≡ numbers
  pub held : length numbers ≤ length out → take (length numbers) out ≡ numbers

-- They were read, or the text of no line with this letter stands there.
pub record RowRead (letter : ℕ) (k : Kind) (text : List ℕ) (at : ℕ) (r : code.Option numbers.Numbers) (out : List ℕ) : Type 0 where
  pub sound : (n : numbers.Numbers) → r ≡ Some n → RowIs letter k text at out n
  pub complete : (vs rest : List ℕ) → Each (Fits k) vs → drop at text ≡ row_text letter k vs ++ rest → r ≡ Some (numbers_of letter at k vs)
