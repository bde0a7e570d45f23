-- The lines of a saved text, as they are put one behind the other, and how long and how far they may be.
use Rattle.std.specs.Prelude.{ℕ, List, [], ◌∷◌, ◌++◌, map}
use Rattle.forms.specs.Letters.{first_letter}
use Rattle.forms.specs.Text.{newline, digits}
use Rattle.forms.specs.Spelling.{line_of}
use Rattle.saved_text.specs.Saved.{Kind, field_text}

-- a line with its newline
abbrev pub row_text : ℕ → Kind → List ℕ → List ℕ
row_text letter kind vs = line_of letter (map (field_text kind) vs) ++ newline ∷ []

-- so many numbers a line that is written has at most, and so far from the front it begins: its end is then below 2^64
abbrev pub max_row : ℕ
max_row = 4294967295

abbrev pub farthest : ℕ
farthest = 4611686018427387904

-- the first line with its newline: N, and the word of the mode
abbrev pub first_text : ℕ → List ℕ → List ℕ
first_text n word = line_of first_letter (digits n ∷ word ∷ []) ++ newline ∷ []
