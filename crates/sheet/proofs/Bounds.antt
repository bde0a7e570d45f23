-- How long an answer is: at most 20 bytes of the 24 that the buffer has for each line. Assumes nothing.
use Rattle.std.specs.Prelude.{ℕ, suc, ◌+◌, ◌*◌, ◌≤◌, ◌<◌, ◌≡◌, refl, Bool, true, false, List, [], ◌∷◌, ◌++◌, leb, length}
use Rattle.std.proofs.Math.Option.{Option, none, some}
use native.Mathlib.Omega.{arith}
use Rattle.std.proofs.Common.{ne_eqb, length-append}
use Rattle.lit.specs.Numbers.{NONE, max_vars, max_sheet, answer_room}
use Rattle.choosers.specs.Heap.{heap_ops}
use Rattle.choosers.specs.List.{list_ops}
use Rattle.book.specs.Calls.{Call, bump, decay, set_decay, insert, switch_off, decide, enqueue, learn_unit, go_back, bump_reason, group}
use Rattle.book.specs.Chooser.{Next, chose, nothing, stuck, Operations}
use Rattle.book.specs.Session.{Result, done, refuse, status, reply, leaves, mapped, need, Session, tuned, decided, call}
use Rattle.book.specs.Read.{called}
use Rattle.book.specs.Mapped.{mapped_status}
use Rattle.session.specs.Entry.{reply_number}
use Rattle.forms.specs.Text.{tab, newline, digits}
use Rattle.forms.specs.TextLaws.{digits_two, digits_five, digits_room}
use Rattle.forms.specs.Forms.{Opening, call_in, codes_in, first_in}
use Rattle.sheet.specs.Sheet.{reply_text, answer_line, ClauseList, added, opening, answered}
use Rattle.sheet.proofs.Turns.{answered_turns}
use Rattle.sheet.specs.Stages.{Stage, reading, in_heap, in_list, on_list, meets, turn, answers, started}
use Rattle.sheet.specs.Writing.{reply_of}
use Rattle.sheet.specs.Bounds.{Small}

-- five digits, two and ten, two tabs and a newline
reply_short : (r : Option ℕ) → length (reply_text r) ≤ 10
reply_short none = omega arith
reply_short (some r) = digits_room 10 r

pub answer_short : (i k : ℕ) (r : Option ℕ) → i < 100000 → k < 100 → length (answer_line i k r) ≤ answer_room
unfolding answer_line
answer_short i k r five two =
    omega (
      arith,
      length-append (digits i) (tab ∷ (digits k ++ (tab ∷ (reply_text r ++ (newline ∷ []))))),
      length-append (digits k) (tab ∷ (reply_text r ++ (newline ∷ []))),
      length-append (reply_text r) (newline ∷ []),
      digits_five i five,
      digits_two k two,
      reply_short r,
    )

-- the status is 0 or a refusal, none of which is above 14
abbrev Few : {S : Type 0} → Result S → Type 0
Few x = status x < 100

need_few : {S : Type 0} (b : Bool) (k : ℕ) (x : Result S) → k < 100 → Few x → Few (need b k x)
unfolding need
need_few true k x h q = q
need_few false k x h q = h

module _ (n m : ℕ) (O : Operations) where
  tuned_few : (s : Session n m O) (c : Option O.State) → Few (tuned n m O s c)
  unfolding tuned
  tuned_few s none = omega arith
  tuned_few s (some c) = omega arith

  decided_few : (p : ℕ) (s : Session n m O) (x : Next O.State) → Few (decided n m O p s x)
  unfolding decided
  decided_few p s (chose v c) = omega arith
  decided_few p s (nothing c) = omega arith
  decided_few p s stuck = omega arith

  call_few : (s : Session n m O) (c : Call) → Few (call n m O s c)
  unfolding call
  call_few s (bump v) = need_few _ _ _ (omega arith) (tuned_few s _)
  call_few s decay = tuned_few s _
  call_few s (set_decay d) = need_few _ _ _ (omega arith) (tuned_few s _)
  call_few s (insert v) = need_few _ _ _ (omega arith) (omega arith)
  call_few s (switch_off v) = need_few _ _ _ (omega arith) (omega arith)
  call_few s (decide p) = need_few _ _ _ (omega arith) (decided_few p s _)
  call_few s (enqueue code reason) = need_few _ _ _ (omega arith) (need_few _ _ _ (omega arith) (need_few _ _ _ (omega arith) (omega arith)))
  call_few s (learn_unit code) = need_few _ _ _ (omega arith) (need_few _ _ _ (omega arith) (omega arith))
  call_few s (go_back l) = omega arith
  call_few s (bump_reason v) = need_few _ _ _ (omega arith) (tuned_few s _)
  call_few s (group vs) = need_few _ _ _ (omega arith) (tuned_few s _)

  pub status_small : (s : Session n m O) (c : Option Call) → status (called n m O s c) < 100
  unfolding called
  status_small s none = omega arith
  status_small s (some c) = call_few s c

mapped_few : {S T : Type 0} (f : S → T) (x : Result S) → Few x → Few (mapped f x)
mapped_few f x q = rw (mapped_status f x) q

added_few : (n : ℕ) (list : ClauseList) (codes : Option (List ℕ)) → Few (added n list codes)
added_few n list none = omega arith
added_few n list (some codes) = need_few _ _ _ (omega arith) (omega arith)

-- so it is of every line
pub turn_small : (stage : Stage) (line : List ℕ) → status (turn stage line) < 100
turn_small (reading mode n lits ends) line = mapped_few (on_list mode n) (added n (lits, ends) (codes_in line)) (added_few n (lits, ends) (codes_in line))
turn_small (in_heap n lits ends s) line = mapped_few (in_heap n lits ends) (called n (length ends) (heap_ops n lits ends) s (call_in line)) (status_small n (length ends) (heap_ops n lits ends) s (call_in line))
turn_small (in_list n lits ends s) line = mapped_few (in_list n lits ends) (called n (length ends) (list_ops n lits) s (call_in line)) (status_small n (length ends) (list_ops n lits) s (call_in line))

opening_few : (o : Option Opening) → Few (opening o)
opening_few none = omega arith
opening_few (some o) = need_few (leb o.vars max_vars) _ _ (omega arith) (omega arith)

-- the answers to all lines have room where each line has its 24 bytes
pub answers_short : (i : ℕ) (stage : Stage) (ls : List (List ℕ)) → i + length ls ≤ 100000 → length (answers i stage ls) ≤ answer_room * length ls
unfolding answers
answers_short i stage [] h = omega arith
answers_short i stage (line ∷ ls) h =
    let at = meets stage line in
    let x = turn at line in
    let rest = leaves at x in
    omega (
      arith,
      length-append (answer_line i (status x) (reply x)) (answers (i + 1) rest ls),
      answer_short i (status x) (reply x) (omega arith) (turn_small at line),
      answers_short (i + 1) rest ls (omega arith),
    )

started_short : (x : Result Opening) (ls : List (List ℕ)) → Few x → length ls < max_sheet → length (started x ls) ≤ answer_room * suc (length ls)
started_short (done r o) ls few h =
    let stage = on_list o.mode o.vars ([], []) in
    omega (arith, length-append (answer_line 1 0 r) (answers 2 stage ls), answer_short 1 0 r (omega arith) (omega arith), answers_short 2 stage ls (omega arith))
started_short (refuse k) ls few h = omega (arith, answer_short 1 k none (omega arith) few)

pub answered_short : (ls : List (List ℕ)) → length ls ≤ max_sheet → length (answered ls) ≤ answer_room * length ls
unfolding answered
answered_short [] h = omega arith
answered_short (line ∷ ls) h = rw (answered_turns line ls) (started_short (opening (first_in line)) ls (opening_few (first_in line)) (omega arith))

-- such a reply is what its number says
pub answer_text : (o : Option ℕ) → Small o → reply_of (reply_number o) ≡ o
answer_text none h = refl
answer_text (some r) h = rw (ne_eqb r NONE (λ e. omega arith))
