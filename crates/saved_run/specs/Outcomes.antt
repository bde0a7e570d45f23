-- What a run with a saved session comes to, as code tells it.
use Rattle.std.specs.Prelude.{ℕ, ◌≡◌, List, length, Ok, Err}
use Rattle.std.specs.Prelude as code
use Rattle.lit.specs.declared.Refusal.{Refusal}
use Rattle.lit.specs.Refusals.{refusal_number}
use Rattle.book.specs.Session.{Result, done, refuse}
use Rattle.forms.specs.Text.{written}
use Rattle.saved_run.specs.declared.Both.{Both}

-- answers and a text are written, each at the front of its buffer, and counted; refused, nothing changes
abbrev pub Comes : Result (List ℕ × List ℕ) → (out text : List ℕ) → code.Result Both Refusal → (out' text' : List ℕ) → Type 0
Comes (done r both) out text k out' text' = (k ≡ Ok (record { answers = length both.0; text = length both.1 })) × (out' ≡ written 0 both.0 out) × (text' ≡ written 0 both.1 text)
Comes (refuse j) out text k out' text' = (e : Refusal) × (k ≡ Err e) × (refusal_number e ≡ j) × (out' ≡ out) × (text' ≡ text)
