-- Term 3 for both choosers: over every list of calls, from any fresh session with a good clause list of at most 2,048 variables.
use Rattle.std.specs.Prelude.{ℕ, ◌≤◌, List, length}
use Rattle.std.proofs.Common.{arith}
use Rattle.lit.specs.Numbers.{max_vars}
use Rattle.formula.specs.Good.{GoodClauses}
use Rattle.book.specs.Claim.{Term3, SettledAccepted}
use Rattle.book.proofs.Term3.{term3, settled_accepted}
use Rattle.choosers.specs.Heap.{heap_ops, heap_chooser}
use Rattle.choosers.specs.List.{list_ops, list_chooser}

module _ (n : ℕ) (lits ends : List ℕ) (small : n ≤ max_vars) (good : GoodClauses n lits ends) where
  -- "none" exactly when no switched-on variable is unassigned
  pub heap_term3 : Term3 n (length ends) (heap_ops n lits ends)
  heap_term3 = term3 n (length ends) (heap_ops n lits ends) (heap_chooser n lits ends small good)

  -- and once all is settled by the book, a decide with a good polarity is accepted
  pub heap_settled : SettledAccepted n (length ends) (heap_ops n lits ends)
  heap_settled = settled_accepted n (length ends) (heap_ops n lits ends) (heap_chooser n lits ends small good)

  -- "none" exactly when no variable is unassigned
  pub list_term3 : Term3 n (length ends) (list_ops n lits)
  list_term3 = term3 n (length ends) (list_ops n lits) (list_chooser n (length ends) lits (omega arith))

  -- and once all is settled by the book, a decide with a good polarity is accepted
  pub list_settled : SettledAccepted n (length ends) (list_ops n lits)
  list_settled = settled_accepted n (length ends) (list_ops n lits) (list_chooser n (length ends) lits (omega arith))
