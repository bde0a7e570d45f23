-- Term 3 of a sheet: each line leaves a good clause list, and over a good clause list both choosers have it.
use mathlib.Core.List.{[]}
use Rattle.formula.specs.Good.{clauses_facts}
use Rattle.formula.specs.Adding.{none_ok}
use Rattle.choosers.specs.Terms.{heap_term3, list_term3}
use Rattle.forms.specs.Forms.{vsids, vmtf}
use Rattle.sheet.specs.Claim.{SheetTerm3}
use Rattle.sheet.proofs.ClauseLines.{listed_good}

pub sheet_term3 : SheetTerm3
sheet_term3 vsids n small cs = heap_term3 n _ _ small (listed_good n cs ([], []) ((clauses_facts n [] []).0 (none_ok n)))
sheet_term3 vmtf n small cs = list_term3 n _ _ small (listed_good n cs ([], []) ((clauses_facts n [] []).0 (none_ok n)))
