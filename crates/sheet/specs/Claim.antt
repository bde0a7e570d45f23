-- Term 3 of a sheet: what is claimed of every run in `answered`. proofs/Term3.antt proves it: `sheet_term3`.
use Rattle.std.specs.Prelude.{ℕ, ◌≤◌, List, [], length}
use Rattle.lit.specs.Numbers.{max_vars}
use Rattle.book.specs.Claim.{Term3}
use Rattle.forms.specs.Forms.{Mode}
use Rattle.sheet.specs.Sheet.{chooser_of, listed}

-- behind an accepted first line, over the clause list that any lines left, the claim holds of every list of calls
abbrev pub SheetTerm3 : Type 0
SheetTerm3 = (mode : Mode) (n : ℕ) → n ≤ max_vars → (cs : List (List ℕ)) → let list = listed n ([], []) cs in Term3 n (length list.1) (chooser_of mode n list)
