-- A call sheet: the answers to its lines, and what a host gets. Behind the clause lines the answers are the log of one run of the book.
use Rattle.std.specs.Prelude.{ℕ, ◌+◌, ◌*◌, ◌-◌, cond, List, [], ◌∷◌, ◌++◌, map, reverse, length, drop, leb}
use Rattle.std.proofs.Math.Option.{Option, none, some}
use Rattle.lit.specs.Numbers.{NONE, max_vars, max_sheet, answer_room, long_sheet, short_buffer, bad_line, many_vars, bad_clauses}
use Rattle.formula.specs.Clauses.{clause_fits}
use Rattle.formula.specs.Adding.{with_end}
use Rattle.choosers.specs.Heap.{heap_ops}
use Rattle.choosers.specs.List.{list_ops}
use Rattle.book.specs.Calls.{Call, Line}
use Rattle.book.specs.Chooser.{Operations}
use Rattle.book.specs.Session.{Result, done, refuse, status, leaves, need, Session, fresh}
use Rattle.book.specs.Claim.{log, starting_with, run}
use Rattle.book.specs.Read.{calls_of}
use Rattle.forms.specs.Letters.{dash}
use Rattle.forms.specs.Text.{tab, newline, lines, occurs, digits}
use Rattle.forms.specs.Forms.{Mode, vsids, vmtf, Opening, call_in, begins_clause, codes_in, first_in}

-- 'else `-`, also for "none" and refusals'
abbrev pub reply_text : Option ℕ → List ℕ
reply_text none = dash ∷ []
reply_text (some r) = digits r

-- 'Answer line: line number from 1, status, reply.'
unfoldable pub answer_line : ℕ → ℕ → Option ℕ → List ℕ
answer_line i k r = digits i ++ (tab ∷ (digits k ++ (tab ∷ (reply_text r ++ (newline ∷ [])))))

-- the answers to lines from the i-th on: 3 where a line has no call's form, else the next of what a log says of the calls. The third clause never comes: a
-- run logs every call.
unfoldable pub logged : ℕ → List (Option Call) → List Line → List ℕ
logged i [] ls = []
logged i (none ∷ cs) ls = answer_line i bad_line none ++ logged (i + 1) cs ls
logged i (some c ∷ cs) [] = []
logged i (some c ∷ cs) (l ∷ ls) = answer_line i l.status l.reply ++ logged (i + 1) cs ls

-- the answers of a session: the log of a run of the book that starts with it, the oldest first
abbrev pub session_answers : (n m : ℕ) (O : Operations) → Session n m O → ℕ → List (Option Call) → List ℕ
session_answers n m O s i cs = logged i cs (reverse (log (run n m O (starting_with n m O s) (calls_of cs)).past))

-- literals and ends of a clause list, and the chooser over them
abbrev pub ClauseList : Type 0
ClauseList = List ℕ × List ℕ

abbrev pub chooser_of : Mode → ℕ → ClauseList → Operations
chooser_of vsids n list = heap_ops n list.0 list.1
chooser_of vmtf n list = list_ops n list.0

-- a clause line: 3 by its form, 6 where the longer list would break its paragraph
abbrev pub added : ℕ → ClauseList → Option (List ℕ) → Result ClauseList
added n list none = refuse bad_line
added n list (some codes) = need (clause_fits n (length list.1) (length list.0) codes) bad_clauses (done none (list.0 ++ codes, with_end list.0 list.1 codes))

-- 'clause lines .. up to the first line not beginning with c', the clause list that they leave, and their answers from the i-th on
unfoldable pub clause_lines : List (List ℕ) → List (List ℕ)
clause_lines [] = []
clause_lines (line ∷ ls) = cond (begins_clause line) (line ∷ clause_lines ls) []

unfoldable pub listed : ℕ → ClauseList → List (List ℕ) → ClauseList
listed n list [] = list
listed n list (line ∷ ls) = listed n (leaves list (added n list (codes_in line))) ls

unfoldable pub clause_answers : ℕ → ℕ → ClauseList → List (List ℕ) → List ℕ
clause_answers n i list [] = []
clause_answers n i list (line ∷ ls) = let x = added n list (codes_in line) in answer_line i (status x) none ++ clause_answers n (i + 1) (leaves list x) ls

-- behind the first line, from the i-th on: clause lines, then the session's. 'The session is made fresh once these are read'
unfoldable pub behind_first : Mode → ℕ → ℕ → ClauseList → List (List ℕ) → List ℕ
behind_first mode n i start ls =
    let cs = clause_lines ls in
    let list = listed n start cs in
    let m = length list.1 in
    let O = chooser_of mode n list in
    clause_answers n i start cs ++ session_answers n m O (fresh n m O) (i + length cs) (map call_in (drop (length cs) ls))

-- the first line: 3 by its form, 4 above 2,048 variables
abbrev pub opening : Option Opening → Result Opening
opening none = refuse bad_line
opening (some o) = need (leb o.vars max_vars) many_vars (done none o)

-- 'Refused, it gets its answer and the run ends.' Else the answers to the lines behind it follow
abbrev pub from_first : Result Opening → (Opening → List ℕ) → List ℕ
from_first (done r o) behind = answer_line 1 0 r ++ behind o
from_first (refuse k) behind = answer_line 1 k none

unfoldable pub answered : List (List ℕ) → List ℕ
answered [] = []
answered (line ∷ ls) = from_first (opening (first_in line)) (λ o. behind_first o.mode o.vars 2 ([], []) ls)

-- what a run of a sheet comes to with a buffer of so many bytes: the bytes that are written, or refusal 1 or 2
unfoldable pub ran : List ℕ → ℕ → Result (List ℕ)
ran sheet room =
    need (leb (length sheet) max_sheet) long_sheet (
    need (leb (answer_room * occurs newline sheet) room) short_buffer (
    done none (answered (lines sheet))))

-- 'the byte count written .., or refusal 1 or 2 as 4294967295 minus its number': what a host gets
abbrev pub result : Result (List ℕ) → ℕ
result (done r bytes) = length bytes
result (refuse k) = NONE - k
