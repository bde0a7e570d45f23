-- What an entry point gets with a call.
use Rattle.std.specs.Prelude.{ℕ, List}
use Rattle.book.specs.Calls.{Call}
use Rattle.session.specs.declared.Call as code
use Rattle.session.specs.Calls.{call_of}

-- the call, with the variables of a group beside it, and a group's scratch
pub record Asked : Type 0 where
  pub call : code.Call
  pub vars : List ℕ
  pub stamps : List ℕ
  pub order : List ℕ

abbrev pub asks : code.Call → List ℕ → List ℕ → List ℕ → Asked
asks call vars stamps order = record { call = call; vars = vars; stamps = stamps; order = order }

-- the call of the book that it is
abbrev pub asked : Asked → Call
asked a = call_of a.call a.vars

-- what a call is lent with beside the memory of a session: N, the clause list, and its stated counts
pub record Lending : Type 0 where
  pub n : ℕ
  pub m : ℕ
  pub literals : ℕ
  pub lits : List ℕ
  pub ends : List ℕ
