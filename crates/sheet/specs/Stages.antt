-- The run of a call sheet as code goes through it, line by line: one line is one step, at a stage of the run. Turns.antt shows that it gives the
-- answers of Sheet.antt.
use Rattle.std.specs.Prelude.{ℕ, ◌+◌, cond, List, [], ◌∷◌, ◌++◌, length}
use Rattle.std.proofs.Math.Option.{Option}
use Rattle.choosers.specs.Heap.{heap_ops}
use Rattle.choosers.specs.List.{list_ops}
use Rattle.book.specs.Chooser.{Operations}
use Rattle.book.specs.Session.{Result, status, reply, leaves, mapped, Session, fresh}
use Rattle.book.specs.Read.{called}
use Rattle.forms.specs.Forms.{Mode, vsids, vmtf, Opening, call_in, begins_clause, codes_in}
use Rattle.sheet.specs.Sheet.{answer_line, ClauseList, added, from_first}

-- Where a run stands between two lines: among the clause lines, or in a session of either mode.
pub data Stage : Type 0 where
  reading : Mode → ℕ → List ℕ → List ℕ → Stage
  in_heap : (n : ℕ) (lits ends : List ℕ) → Session n (length ends) (heap_ops n lits ends) → Stage
  in_list : (n : ℕ) (lits ends : List ℕ) → Session n (length ends) (list_ops n lits) → Stage

-- a line of a session, and its result as one of the stage; of either mode
abbrev call_line : (n m : ℕ) (O : Operations) → (Session n m O → Stage) → Session n m O → List ℕ → Result Stage
call_line n m O stage s line = mapped stage (called n m O s (call_in line))

abbrev heap_line : (n : ℕ) (lits ends : List ℕ) → Session n (length ends) (heap_ops n lits ends) → List ℕ → Result Stage
heap_line n lits ends = call_line n (length ends) (heap_ops n lits ends) (in_heap n lits ends)

abbrev list_line : (n : ℕ) (lits ends : List ℕ) → Session n (length ends) (list_ops n lits) → List ℕ → Result Stage
list_line n lits ends = call_line n (length ends) (list_ops n lits) (in_list n lits ends)

-- a clause line
abbrev pub on_list : Mode → ℕ → ClauseList → Stage
on_list mode n list = reading mode n list.0 list.1

abbrev pub clause_with : Mode → ℕ → List ℕ → List ℕ → Option (List ℕ) → Result Stage
clause_with mode n lits ends codes = mapped (on_list mode n) (added n (lits, ends) codes)

-- 'The session is made fresh once these are read.'
abbrev pub opened : Mode → ℕ → List ℕ → List ℕ → Stage
opened vsids n lits ends = in_heap n lits ends (fresh n (length ends) (heap_ops n lits ends))
opened vmtf n lits ends = in_list n lits ends (fresh n (length ends) (list_ops n lits))

-- the stage that a line meets: 'up to the first line not beginning with c'
abbrev pub meets : Stage → List ℕ → Stage
meets (reading mode n lits ends) line = cond (begins_clause line) (reading mode n lits ends) (opened mode n lits ends)
meets (in_heap n lits ends s) line = in_heap n lits ends s
meets (in_list n lits ends s) line = in_list n lits ends s

-- the line, at that stage
abbrev pub turn : Stage → List ℕ → Result Stage
turn (reading mode n lits ends) line = clause_with mode n lits ends (codes_in line)
turn (in_heap n lits ends s) line = heap_line n lits ends s line
turn (in_list n lits ends s) line = list_line n lits ends s line

-- the answers to the lines from the i-th on
unfoldable pub answers : ℕ → Stage → List (List ℕ) → List ℕ
answers i stage [] = []
answers i stage (line ∷ ls) =
    let at = meets stage line in
    let x = turn at line in
    answer_line i (status x) (reply x) ++ answers (i + 1) (leaves at x) ls

-- and the stage behind them
unfoldable pub stage_behind : Stage → List (List ℕ) → Stage
stage_behind stage [] = stage
stage_behind stage (line ∷ ls) = let at = meets stage line in stage_behind (leaves at (turn at line)) ls

-- the answers to a sheet whose first line came to x
abbrev pub started : Result Opening → List (List ℕ) → List ℕ
started x ls = from_first x (λ o. answers 2 (on_list o.mode o.vars ([], [])) ls)
