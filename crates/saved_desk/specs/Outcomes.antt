-- What a host gets of a run with a saved session.
use Rattle.std.specs.Prelude.{ℕ, ◌-◌, ◌≡◌, List, length}
use Rattle.lit.specs.Numbers.{NONE}
use Rattle.book.specs.Session.{Result, done, refuse}
use Rattle.forms.specs.Text.{written}

-- 'the byte count of the answers, or 4294967295 minus the refusal', and the byte count of the text where it is written
abbrev pub Gives : Result (List ℕ × List ℕ) → (out text : List ℕ) → ℕ → (k : ℕ) (out' text' : List ℕ) → ℕ → Type 0
Gives (done r both) out text w k out' text' w' = (k ≡ length both.0) × (out' ≡ written 0 both.0 out) × (text' ≡ written 0 both.1 text) × (w' ≡ length both.1)
Gives (refuse j) out text w k out' text' w' = (k ≡ NONE - j) × (out' ≡ out) × (text' ≡ text) × (w' ≡ w)
