-- The numbers of lines as code has them: how they are written, and the values of several.
use Rattle.std.specs.Prelude.{ℕ, ◌≡◌, List, map}
use Rattle.std.proofs.Common.{sym}
use Rattle.std.proofs.lemmas.List.{map-id}
use Rattle.saved_text.specs.declared.number.Word as word
use Rattle.saved_text.specs.declared.number.Word.TheVariants as a_word
use Rattle.saved_text.specs.declared.number.Long as long
use Rattle.saved_text.specs.declared.number.Long.TheVariants as a-long
use Rattle.saved_text.specs.Saved.{Kind, up_to, bits, reason}
use Rattle.saved_text.specs.Saved as kinds

abbrev pub word_kind : word.Word → Kind
word_kind (a_word.UpTo top) = up_to top
word_kind a_word.Reason = reason

abbrev pub long_kind : long.Long → Kind
long_kind a-long.Number = kinds.long
long_kind a-long.Bits = bits

-- words and long numbers are their values
pub as_they_are : (l : List ℕ) → l ≡ map (λ v. v) l
as_they_are l = sym (map-id l)
