-- The run over stages gives a sheet's answers. By induction over the lines: among the clause lines each is one more of them; in a session a line
-- with a call is a step of the book's run, and any other leaves the run as it is.
use Prim.Native.Nat.{ℕ, suc, ◌+◌}
use Rattle.std.specs.Prelude.{◌≡◌, false}
use Rattle.std.proofs.Math.Path.{refl, sym, ap}
use Rattle.std.proofs.Common.{◌∙◌}
use Rattle.std.proofs.Math.Option.{Option, none, some}
use mathlib.Core.List.{List, [], ◌∷◌, ◌++◌, map, append_assoc}
use native.Mathlib.Omega.{arith}
use Rattle.std.proofs.Math.ListN.{length}
use Rattle.lit.specs.Numbers.{bad_line}
use Rattle.laws.specs.Tests.{true_or_false}
use Rattle.choosers.specs.Heap.{heap_ops}
use Rattle.choosers.specs.List.{list_ops}
use Rattle.book.specs.Calls.{Call, Line}
use Rattle.book.specs.Chooser.{Operations}
use Rattle.book.specs.Session.{Result, done, refuse, status, reply, leaves, Session, fresh, call}
use Rattle.book.specs.Mapped.{mapped_status, mapped_reply, mapped_leaves}
use Rattle.book.specs.Claim.{Run, starting_with, step}
use Rattle.book.specs.Read.{called, log_lines, logs}
use Rattle.forms.specs.Forms.{Mode, vsids, vmtf, Opening, call_in, codes_in, begins_clause, first_in}
use Rattle.sheet.specs.Sheet.{answer_line, logged, session_answers, ClauseList, chooser_of, added, clause_lines, listed, clause_answers, behind_first, opening, from_first, answered}
use Rattle.sheet.specs.Stages.{Stage, in_heap, in_list, on_list, opened, answers, started}
use Rattle.sheet.proofs.ClauseLines.{section_over, clause_reply}

-- ---- a session
module _ (n m : ℕ) (O : Operations) where
  module _ (stage : Session n m O → Stage) where
    -- how a line of the session is answered
    abbrev Answers : Type 0
    Answers = (s : Session n m O) (i : ℕ) (line : List ℕ) (ls : List (List ℕ)) → let x = called n m O s (call_in line) in
        answers i (stage s) (line ∷ ls) ≡ answer_line i (status x) (reply x) ++ answers (i + 1) (stage (leaves s x)) ls

    tells : Answers → (ls : List (List ℕ)) (r : Run n m O) (i : ℕ) → answers i (stage r.now) ls ≡ logged i (map call_in ls) (log_lines n m O r (map call_in ls))
    unfolding answers called step logged log_lines
    tells a [] r i = refl
    tells a (line ∷ ls) r i = a r.now i line ls ∙ go (call_in line) (tells a ls)
      where
        go : (c : Option Call) → ((u : Run n m O) (j : ℕ) → answers j (stage u.now) ls ≡ logged j (map call_in ls) (log_lines n m O u (map call_in ls)))
            → let x = called n m O r.now c in
            answer_line i (status x) (reply x) ++ answers (i + 1) (stage (leaves r.now x)) ls ≡ logged i (c ∷ map call_in ls) (log_lines n m O r (c ∷ map call_in ls))
        go none ih = ap (λ (bs : List ℕ). answer_line i bad_line none ++ bs) (ih r (i + 1))
        go (some c) ih = let x = call n m O r.now c in ap (λ (bs : List ℕ). answer_line i (status x) (reply x) ++ bs) (ih (step n m O r c) (i + 1))

    session : Answers → (s : Session n m O) (i : ℕ) (ls : List (List ℕ)) → answers i (stage s) ls ≡ session_answers n m O s i (map call_in ls)
    session a s i ls = let r = starting_with n m O s in tells a ls r i ∙ ap (λ (log : List Line). logged i (map call_in ls) log) (sym (logs n m O (map call_in ls) r))

-- in either mode
pub heap_answers : (n : ℕ) (lits ends : List ℕ) (s : Session n (length ends) (heap_ops n lits ends)) (i : ℕ) (ls : List (List ℕ))
    → answers i (in_heap n lits ends s) ls ≡ session_answers n (length ends) (heap_ops n lits ends) s i (map call_in ls)
unfolding answers
heap_answers n lits ends = session n (length ends) (heap_ops n lits ends) (in_heap n lits ends) (λ s i line ls.
    let x = called n (length ends) (heap_ops n lits ends) s (call_in line) in
    rw (mapped_status (in_heap n lits ends) x, mapped_reply (in_heap n lits ends) x, mapped_leaves (in_heap n lits ends) s x))

pub list_answers : (n : ℕ) (lits ends : List ℕ) (s : Session n (length ends) (list_ops n lits)) (i : ℕ) (ls : List (List ℕ))
    → answers i (in_list n lits ends s) ls ≡ session_answers n (length ends) (list_ops n lits) s i (map call_in ls)
unfolding answers
list_answers n lits ends = session n (length ends) (list_ops n lits) (in_list n lits ends) (λ s i line ls.
    let x = called n (length ends) (list_ops n lits) s (call_in line) in
    rw (mapped_status (in_list n lits ends) x, mapped_reply (in_list n lits ends) x, mapped_leaves (in_list n lits ends) s x))

opened_answers : (mode : Mode) (n : ℕ) (list : ClauseList) (i : ℕ) (ls : List (List ℕ)) → let m = length list.1 in let O = chooser_of mode n list in
    answers i (opened mode n list.0 list.1) ls ≡ session_answers n m O (fresh n m O) i (map call_in ls)
opened_answers vsids n (lits, ends) i ls = heap_answers n lits ends (fresh n (length ends) (heap_ops n lits ends)) i ls
opened_answers vmtf n (lits, ends) i ls = list_answers n lits ends (fresh n (length ends) (list_ops n lits)) i ls

-- ---- the clause lines
module _ (mode : Mode) (n : ℕ) where
  -- from the first line on that is none
  session_turns : (line : List ℕ) (ls : List (List ℕ)) (i : ℕ) (list : ClauseList) → begins_clause line ≡ false → behind_first mode n i list (line ∷ ls) ≡ answers i (on_list mode n list) (line ∷ ls)
  unfolding behind_first clause_lines listed clause_answers
  session_turns line ls i list e =
      let place : i + 0 ≡ i = omega arith in
      rw (e, place) (sym (section_over i mode n list.0 list.1 (line ∷ ls) e ∙ opened_answers mode n list i (line ∷ ls)))

  behind_turns : (ls : List (List ℕ)) (i : ℕ) (list : ClauseList) → behind_first mode n i list ls ≡ answers i (on_list mode n list) ls
  unfolding behind_first clause_lines listed clause_answers answers logged
  behind_turns [] i list = refl
  behind_turns (line ∷ ls) i list =
      true_or_false (begins_clause line)
      (λ e.
      (let x = added n list (codes_in line) in
      let cs = clause_lines ls in
      let place : i + suc (length cs) ≡ i + 1 + length cs = omega arith in
      rw (e, clause_reply mode n list.0 list.1 (codes_in line), mapped_status (on_list mode n) x, mapped_leaves (on_list mode n) list x, place, sym (behind_turns ls (i + 1) (leaves list x)))
      (append_assoc (answer_line i (status x) none) (clause_answers n (i + 1) (leaves list x) cs) _)))
      (session_turns line ls i list)

-- ---- a sheet
pub answered_turns : (line : List ℕ) (ls : List (List ℕ)) → answered (line ∷ ls) ≡ started (opening (first_in line)) ls
unfolding answered
answered_turns line ls = go (opening (first_in line))
  where
    go : (x : Result Opening) → from_first x (λ o. behind_first o.mode o.vars 2 ([], []) ls) ≡ started x ls
    go (done r o) = rw (behind_turns o.mode o.vars ls 2 ([], []))
    go (refuse k) = refl
