-- The session behind the lines of a sheet: the stage that code comes to holds it, with its clause list and its text. By induction over the lines. Assumes nothing.
use Rattle.std.specs.Prelude.{ℕ, ◌≡◌, false, length, drop}
use Rattle.std.proofs.Math.Path.{refl, ap}
use Rattle.std.proofs.Common.{sym, ◌∙◌}
use Rattle.std.proofs.Math.Option.{Option, none, some}
use mathlib.Core.List.{List, [], ◌∷◌, map}
use Rattle.laws.specs.Tests.{true_or_false}
use Rattle.choosers.specs.Heap.{heap_ops}
use Rattle.choosers.specs.List.{list_ops}
use Rattle.book.specs.Calls.{Call}
use Rattle.book.specs.Chooser.{Operations}
use Rattle.book.specs.Session.{leaves, mapped, Session}
use Rattle.book.specs.Mapped.{mapped_leaves}
use Rattle.book.specs.Claim.{Run, begin, step, run}
use Rattle.book.specs.Read.{calls_of, called}
use Rattle.forms.specs.Forms.{Mode, vsids, vmtf, Opening, call_in, codes_in, begins_clause}
use Rattle.sheet.specs.Sheet.{ClauseList, chooser_of, added, clause_lines, listed}
use Rattle.sheet.specs.Stages.{Stage, reading, in_heap, in_list, on_list, opened, meets, turn, stage_behind}
use Rattle.sheet.specs.Running.{next_clause}
use Rattle.sheet.proofs.ClauseLines.{no_clause_line}
use Rattle.sheet.specs.Counting.{list_of}
use Rattle.sheet.specs.SessionLines as session
use Rattle.saved_sheet.specs.Sheets.{Held, text_held, after_calls, held_behind}
use Rattle.saved_run.specs.Ends.{stage_text}

-- ---- lines of a session are its calls
module _ {n m : ℕ} {O : Operations} {stage : Session n m O → Stage} (mode : session.Mode stage) where
  calls_behind : (ls : List (List ℕ)) (r : Run n m O) → stage_behind (stage r.now) ls ≡ stage (run n m O r (calls_of (map call_in ls))).now
  unfolding stage_behind called run calls_of step
  calls_behind [] r = refl
  calls_behind (line ∷ ls) r = ap (λ (t : Stage). stage_behind t ls) (turned ∙ mapped_leaves stage r.now (called n m O r.now (call_in line))) ∙ go (call_in line) (calls_behind ls)
    where
      turned : leaves (meets (stage r.now) line) (turn (meets (stage r.now) line) line) ≡ leaves (stage r.now) (mapped stage (called n m O r.now (call_in line)))
      turned = rw (mode.meets_it r.now line, mode.its_turn r.now line)

      go : (c : Option Call) → ((u : Run n m O) → stage_behind (stage u.now) ls ≡ stage (run n m O u (calls_of (map call_in ls))).now)
          → stage_behind (stage (leaves r.now (called n m O r.now c))) ls ≡ stage (run n m O r (calls_of (c ∷ map call_in ls))).now
      go none ih = ih r
      go (some c) ih = ih (step n m O r c)

module _ (n : ℕ) (lits ends : List ℕ) (ls : List (List ℕ)) where
  pub heap_behind : (r : Run n (length ends) (heap_ops n lits ends)) → stage_behind (in_heap n lits ends r.now) ls ≡ in_heap n lits ends (run n (length ends) (heap_ops n lits ends) r (calls_of (map call_in ls))).now
  heap_behind r = calls_behind {stage = in_heap n lits ends} (record { meets_it = λ s line. refl; its_turn = λ s line. refl }) ls r

  pub list_behind : (r : Run n (length ends) (list_ops n lits)) → stage_behind (in_list n lits ends r.now) ls ≡ in_list n lits ends (run n (length ends) (list_ops n lits) r (calls_of (map call_in ls))).now
  list_behind r = calls_behind {stage = in_list n lits ends} (record { meets_it = λ s line. refl; its_turn = λ s line. refl }) ls r

-- ---- clause lines, and then lines of the session made fresh: for what a stage among them shares with the fresh session
module _ {A : Type 0} (f : Stage → A) (mode : Mode) (n : ℕ) (shared : (list : ClauseList) → f (on_list mode n list) ≡ f (opened mode n list.0 list.1)) where
  pub read_over : (list : ClauseList) (ls : List (List ℕ)) → next_clause ls ≡ false → f (stage_behind (on_list mode n list) ls) ≡ f (stage_behind (opened mode n list.0 list.1) ls)
  unfolding stage_behind
  read_over list [] e = shared list
  read_over list (line ∷ ls) e = rw e (ap (λ (t : Stage). f (stage_behind (leaves t (turn t line)) ls)) (sym (met mode)))
    where
      met : (mode : Mode) → meets (opened mode n list.0 list.1) line ≡ opened mode n list.0 list.1
      met vsids = refl
      met vmtf = refl

  pub read_behind : (ls : List (List ℕ)) (list : ClauseList) → let cs = clause_lines ls in let all = listed n list cs in
      f (stage_behind (on_list mode n list) ls) ≡ f (stage_behind (opened mode n all.0 all.1) (drop (length cs) ls))
  unfolding clause_lines listed stage_behind
  read_behind [] list = shared list
  read_behind (line ∷ ls) list =
      true_or_false (begins_clause line)
      (λ t. rw t (ap (λ (s : Stage). f (stage_behind s ls)) (mapped_leaves (on_list mode n) list (added n list (codes_in line))) ∙ read_behind ls (leaves list (added n list (codes_in line)))))
      (λ e. rw e (rw e at (read_over list (line ∷ ls) e)))

-- the session made fresh, over a clause list
abbrev fresh_held : Mode → ℕ → ClauseList → Held
fresh_held mode n list = record { mode = mode; vars = n; list = list; run = begin n (length list.1) (chooser_of mode n list) }

text_fresh : (mode : Mode) (n : ℕ) (list : ClauseList) → stage_text (on_list mode n list) ≡ stage_text (opened mode n list.0 list.1)
text_fresh vsids n list = refl
text_fresh vmtf n list = refl

text_opened : (mode : Mode) (n : ℕ) (list : ClauseList) (ls : List (List ℕ)) → stage_text (stage_behind (opened mode n list.0 list.1) ls) ≡ text_held (after_calls (fresh_held mode n list) (map call_in ls))
unfolding begin
text_opened vsids n (lits, ends) ls = ap stage_text (heap_behind n lits ends ls (begin n (length ends) (heap_ops n lits ends)))
text_opened vmtf n (lits, ends) ls = ap stage_text (list_behind n lits ends ls (begin n (length ends) (list_ops n lits)))

-- The text behind the lines of a sheet is that of the session that they leave.
pub text_behind : (o : Opening) (ls : List (List ℕ)) → stage_text (stage_behind (on_list o.mode o.vars ([], [])) ls) ≡ text_held (held_behind o ls)
text_behind o ls =
    let cs = clause_lines ls in
    read_behind stage_text o.mode o.vars (text_fresh o.mode o.vars) ls ([], []) ∙ text_opened o.mode o.vars (listed o.vars ([], []) cs) (drop (length cs) ls)

-- where no clause line comes next, it is that of the session made fresh and gone on with
pub text_over : (mode : Mode) (n : ℕ) (lits ends : List ℕ) (ls : List (List ℕ)) → next_clause ls ≡ false → stage_text (stage_behind (reading mode n lits ends) ls) ≡ stage_text (stage_behind (opened mode n lits ends) ls)
text_over mode n lits ends ls over = read_over stage_text mode n (text_fresh mode n) (lits, ends) ls over

-- The clause list is that of the clause lines.
list_fresh : (mode : Mode) (n : ℕ) (list : ClauseList) → list_of (on_list mode n list) ≡ list_of (opened mode n list.0 list.1)
list_fresh vsids n list = refl
list_fresh vmtf n list = refl

list_opened : (mode : Mode) (n : ℕ) (list : ClauseList) (ls : List (List ℕ)) → list_of (stage_behind (opened mode n list.0 list.1) ls) ≡ list
unfolding begin
list_opened vsids n (lits, ends) ls = ap (λ (t : Stage). list_of t) (heap_behind n lits ends ls (begin n (length ends) (heap_ops n lits ends)))
list_opened vmtf n (lits, ends) ls = ap (λ (t : Stage). list_of t) (list_behind n lits ends ls (begin n (length ends) (list_ops n lits)))

lists_behind : (mode : Mode) (n : ℕ) (list : ClauseList) (ls : List (List ℕ)) → list_of (stage_behind (on_list mode n list) ls) ≡ listed n list (clause_lines ls)
lists_behind mode n list ls =
    let cs = clause_lines ls in
    read_behind (λ (t : Stage). list_of t) mode n (list_fresh mode n) ls list ∙ list_opened mode n (listed n list cs) (drop (length cs) ls)

-- two stages among clause lines that lead to the same one, of which the second is behind the last clause line
pub list_over : (mode : Mode) (n : ℕ) (list all : ClauseList) (ls ms : List (List ℕ)) → stage_behind (on_list mode n all) ms ≡ stage_behind (on_list mode n list) ls → next_clause ms ≡ false → all ≡ listed n list (clause_lines ls)
unfolding listed
list_over mode n list all ls ms e over =
    ap (λ (cs : List (List ℕ)). listed n all cs) (sym (no_clause_line ms over)) ∙ sym (lists_behind mode n all ms) ∙ ap (λ (t : Stage). list_of t) e ∙ lists_behind mode n list ls
