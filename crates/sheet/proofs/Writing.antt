-- The pieces of an answer line.
use Rattle.std.specs.Prelude.{ℕ, ◌≡◌, refl, [], ◌∷◌, ◌++◌}
use Rattle.std.proofs.Math.Option.{Option}
use Rattle.std.proofs.Common.{append_assoc}
use Rattle.forms.specs.Text.{tab, newline, digits}
use Rattle.sheet.specs.Sheet.{reply_text, answer_line}
use Rattle.sheet.specs.Writing.{ending, field}

-- an answer line is these
pub answer_pieces : (i k : ℕ) (r : Option ℕ) → answer_line i k r ≡ field i ++ (field k ++ ending r)
unfolding answer_line field ending
answer_pieces i k r = rw (append_assoc (digits i) (tab ∷ []) ((digits k ++ (tab ∷ [])) ++ (reply_text r ++ (newline ∷ []))), append_assoc (digits k) (tab ∷ []) (reply_text r ++ (newline ∷ []))) refl
