-- What the check of a list of calls comes to: a refusal is the answer, and without one what the calls leave and tell in turn.
use Rattle.std.specs.Prelude.{ℕ, List, length}
use Rattle.formula.specs.Clauses.{clauses_ok}
use Rattle.book.specs.Session.{Session}
use Rattle.session.specs.Checks.{state_refusal}
use Rattle.session.specs.Mode.{Mode, lengths_ok}
use Rattle.words.specs.Words.{words_fit}

module _ (n m : ℕ) (M : Mode) (lits : List ℕ) (literals : ℕ) (list-ends vars words : List ℕ) (s : Session n m M.ops) (out : List ℕ) where
  abbrev pub refusal : ℕ
  refusal = state_refusal n (lengths_ok n m M lits literals list-ends s (words_fit (length words) (length out))) (clauses_ok n lits list-ends) (M.state s.trail s.chooser)
