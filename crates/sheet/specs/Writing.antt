-- The pieces of an answer line.
use Rattle.std.specs.Prelude.{ℕ, cond, List, [], ◌∷◌, ◌++◌, eqb}
use Rattle.std.proofs.Math.Option.{Option, none, some}
use Rattle.std.specs.Prelude as std
use Rattle.lit.specs.declared.Refusal.{Refusal}
use Rattle.lit.specs.Numbers.{NONE}
use Rattle.session.specs.Entry.{reply_of as reply_number}
use Rattle.forms.specs.Text.{tab, newline, digits}
use Rattle.sheet.specs.Sheet.{reply_text}

-- a reply as code has it
abbrev pub reply_of : ℕ → Option ℕ
reply_of r = cond (eqb r NONE) none (some r)

-- what a line gave
abbrev pub replied : std.Result (std.Option ℕ) Refusal → Option ℕ
replied given = reply_of (reply_number given)

-- a number, with the tab behind it
unfoldable pub field : ℕ → List ℕ
field n = digits n ++ (tab ∷ [])

-- a reply, with the newline behind it
unfoldable pub ending : Option ℕ → List ℕ
ending r = reply_text r ++ (newline ∷ [])
