-- Two sheets put together: their lines are those of both, where the first ends in a newline; the answers to all calls are those to the first calls and then those to the
-- others, on the session that the first leave. By induction over the lines.
use Prim.Native.Nat.{ℕ, suc, ◌+◌, ◌<◌}
use mathlib.Core.Path.{◌≡◌, refl, sym, ap, ◌∙◌}
use mathlib.Core.Bool.{true, false}
use mathlib.Core.Option.{Option, none, some}
use mathlib.Core.List.{List, [], ◌∷◌, ◌++◌, map, append_assoc, map-append}
use native.Mathlib.Omega.{arith}
use borrow.Author.Tests.{eqb-true}
use lib.Dec.{eqb}
use lib.ListN.{length, drop, length-append, length-map}
use Rattle.laws.specs.Each.{Each}
use Rattle.laws.specs.Tests.{true_or_false}
use Rattle.lit.specs.Numbers.{bad_line}
use Rattle.book.specs.Calls.{Call, Line}
use Rattle.book.specs.Chooser.{Operations}
use Rattle.book.specs.Session.{Result, done, refuse, status, reply, Session, call}
use Rattle.book.specs.Claim.{Past, Run, starting_with, begin, step, run}
use Rattle.book.specs.Read.{calls_of, log_one, log_lines, logs}
use Rattle.forms.specs.Text.{newline, occurs, split_from, split, but_last, lines}
use Rattle.forms.specs.TextLaws.{split_length, lines_length}
use Rattle.forms.specs.Forms.{Opening, call_in, begins_clause, first_in}
use Rattle.forms.specs.Words.{never, same_some}
use Rattle.saved_text.specs.Reading.{last_empty, closed}
use Rattle.saved_text.specs.Read.{last_behind}
use Rattle.sheet.specs.Sheet.{answer_line, logged, session_answers, chooser_of, clause_lines, listed, clause_answers, behind_first, opening, from_first, answered}
use Rattle.sheet.specs.Running.{next_clause}
use Rattle.saved_sheet.specs.Sheets.{Held, after_calls, held_behind, held_first, held_by, answers_held}

-- ---- bytes

but_behind : (p : List ℕ) (ps : List (List ℕ)) → 0 < length ps → but_last (p ∷ ps) ≡ p ∷ but_last ps
unfolding but_last
but_behind p [] h = absurd (omega arith)
but_behind p (q ∷ ps) h = refl

empty : (l : List ℕ) → length l ≡ 0 → l ≡ []
empty [] e = refl
empty (x ∷ l) e = absurd (omega arith)

split_joined : (piece a b : List ℕ) → last_empty (split_from newline piece a) ≡ true
    → but_last (split_from newline piece (a ++ b)) ≡ but_last (split_from newline piece a) ++ lines b
unfolding split_from but_last last_empty
split_joined piece [] b e = rw (empty piece (eqb-true (length piece) 0 e))
split_joined piece (c ∷ a) b e =
    true_or_false (eqb c newline)
    (λ t.
    let some-a : 0 < length (split newline a) = omega (arith, split_length newline a) in
    let some-b : 0 < length (split newline (a ++ b)) = omega (arith, split_length newline (a ++ b)) in
    rw (t, but_behind piece (split newline a) some-a, but_behind piece (split newline (a ++ b)) some-b, split_joined [] a b (sym (last_behind piece (split newline a) some-a) ∙ rw t at e)))
    (λ f. rw f (split_joined (piece ++ (c ∷ [])) a b (rw f at e)))

pub lines_joined : (a b : List ℕ) → closed a ≡ true → lines (a ++ b) ≡ lines a ++ lines b
lines_joined a b e = split_joined [] a b e

pub newlines_joined : (a b : List ℕ) → closed a ≡ true → occurs newline (a ++ b) ≡ occurs newline a + occurs newline b
newlines_joined a b e =
    sym (lines_length (a ++ b)) ∙ ap length (lines_joined a b e) ∙ length-append (lines a) (lines b) ∙ (let p = lines_length a in let q = lines_length b in omega arith)

-- ---- calls

calls_joined : (cs ds : List (Option Call)) → calls_of (cs ++ ds) ≡ calls_of cs ++ calls_of ds
unfolding calls_of
calls_joined [] ds = refl
calls_joined (none ∷ cs) ds = calls_joined cs ds
calls_joined (some c ∷ cs) ds = ap (λ (l : List Call). c ∷ l) (calls_joined cs ds)

module _ (n m : ℕ) (O : Operations) where
  run_joined : (r : Run n m O) (cs ds : List Call) → run n m O r (cs ++ ds) ≡ run n m O (run n m O r cs) ds
  unfolding run
  run_joined r [] ds = refl
  run_joined r (c ∷ cs) ds = run_joined (step n m O r c) cs ds

  pub calls_run : (r : Run n m O) (cs ds : List (Option Call)) → run n m O r (calls_of (cs ++ ds)) ≡ run n m O (run n m O r (calls_of cs)) (calls_of ds)
  calls_run r cs ds = ap (run n m O r) (calls_joined cs ds) ∙ run_joined r (calls_of cs) (calls_of ds)

  -- a log looks at the session alone
  log_now : (s : Session n m O) (p q : Past) (cs : List (Option Call)) → log_lines n m O (record { now = s; past = p }) cs ≡ log_lines n m O (record { now = s; past = q }) cs
  unfolding log_lines step
  log_now s p q [] = refl
  log_now s p q (none ∷ cs) = log_now s p q cs
  log_now s p q (some c ∷ cs) =
      let u : Run n m O = step n m O (record { now = s; past = p }) c in
      let w : Run n m O = step n m O (record { now = s; past = q }) c in
      ap (λ (l : List Line). log_one n m O (starting_with n m O s) c ∷ l) (log_now u.now u.past w.past cs)

  logged_joined : (cs ds : List (Option Call)) (i : ℕ) (r : Run n m O)
      → logged i (cs ++ ds) (log_lines n m O r (cs ++ ds)) ≡ logged i cs (log_lines n m O r cs) ++ logged (i + length cs) ds (log_lines n m O (run n m O r (calls_of cs)) ds)
  unfolding logged log_lines calls_of run
  logged_joined [] ds i r = let e : i + 0 ≡ i = omega arith in rw e
  logged_joined (none ∷ cs) ds i r =
      let place : i + suc (length cs) ≡ i + 1 + length cs = omega arith in
      let a = answer_line i bad_line none in
      rw (place, logged_joined cs ds (i + 1) r) (sym (append_assoc a (logged (i + 1) cs (log_lines n m O r cs)) _))
  logged_joined (some c ∷ cs) ds i r =
      let place : i + suc (length cs) ≡ i + 1 + length cs = omega arith in
      let x = call n m O r.now c in
      let u = step n m O r c in
      let a = answer_line i (status x) (reply x) in
      rw (place, logged_joined cs ds (i + 1) u) (sym (append_assoc a (logged (i + 1) cs (log_lines n m O u cs)) _))

  -- the answers of a session, whatever led to it
  answers_told : (r : Run n m O) (i : ℕ) (cs : List (Option Call)) → session_answers n m O r.now i cs ≡ logged i cs (log_lines n m O r cs)
  answers_told r i cs = ap (λ (l : List Line). logged i cs l) (logs n m O cs (starting_with n m O r.now) ∙ log_now r.now [] r.past cs)

  pub answers_joined : (r : Run n m O) (i : ℕ) (cs ds : List (Option Call))
      → session_answers n m O r.now i (cs ++ ds) ≡ session_answers n m O r.now i cs ++ session_answers n m O (run n m O r (calls_of cs)).now (i + length cs) ds
  answers_joined r i cs ds =
      answers_told r i (cs ++ ds) ∙ logged_joined cs ds i r
      ∙ (λ k. sym (answers_told r i cs) k ++ sym (answers_told (run n m O r (calls_of cs)) (i + length cs) ds) k)

-- ---- a new sheet

-- no line of ms is a clause line, where all of ls are
abbrev NoMore : List (List ℕ) → List (List ℕ) → Type 0
NoMore ls ms = Each (λ l. begins_clause l ≡ true) ls → next_clause ms ≡ false

clauses_joined : (ls ms : List (List ℕ)) → NoMore ls ms → (clause_lines (ls ++ ms) ≡ clause_lines ls) × (drop (length (clause_lines ls)) (ls ++ ms) ≡ drop (length (clause_lines ls)) ls ++ ms)
unfolding clause_lines
clauses_joined [] [] h = (refl, refl)
clauses_joined [] (l ∷ ms) h = (rw (h tt), refl)
clauses_joined (l ∷ ls) ms h =
    true_or_false (begins_clause l)
    (λ t. let r = clauses_joined ls ms (λ e. h (t, e)) in rw t (ap (λ (cs : List (List ℕ)). l ∷ cs) r.0, r.1))
    (λ f. rw f (refl, refl))

-- how the lines behind the first are run, by the clause lines and the calls
abbrev start_for : Opening → List (List ℕ) → Held
start_for o cs =
    let n = o.vars in
    let list = listed n ([], []) cs in
    record { mode = o.mode; vars = n; list = list; run = begin n (length list.1) (chooser_of o.mode n list) }

abbrev answers_for : Opening → List (List ℕ) → List (Option Call) → List ℕ
answers_for o cs calls =
    let n = o.vars in
    let list = listed n ([], []) cs in
    let m = length list.1 in
    let O = chooser_of o.mode n list in
    clause_answers n 2 ([], []) cs ++ session_answers n m O (begin n m O).now (2 + length cs) calls

pub after_joined : (h : Held) (cs ds : List (Option Call)) → after_calls h (cs ++ ds) ≡ after_calls (after_calls h cs) ds
after_joined h cs ds =
    ap (λ (r : Run h.vars (length h.list.1) (chooser_of h.mode h.vars h.list)). record { mode = h.mode; vars = h.vars; list = h.list; run = r })
    (calls_run h.vars (length h.list.1) (chooser_of h.mode h.vars h.list) h.run cs ds)

clause_part : (ls : List (List ℕ)) → length (clause_lines ls) + length (drop (length (clause_lines ls)) ls) ≡ length ls
unfolding clause_lines
clause_part [] = refl
clause_part (l ∷ ls) = true_or_false (begins_clause l) (λ t. rw t (omega (arith, clause_part ls))) (λ f. rw f (omega arith))

-- where the first line of ls is accepted, and leads to the session h
pub new_joined : (ls ms : List (List ℕ)) (h : Held) → held_by ls ≡ some h → NoMore (drop 1 ls) ms
    → (held_by (ls ++ ms) ≡ some (after_calls h (map call_in ms))) × (answered (ls ++ ms) ≡ answered ls ++ answers_held h (1 + length ls) (map call_in ms))
unfolding held_by answered behind_first begin
new_joined [] ms h e q = never e
new_joined (line ∷ ls) ms h e q = go (opening (first_in line)) e
  where
    same : clause_lines (ls ++ ms) ≡ clause_lines ls
    same = (clauses_joined ls ms q).0

    all : map call_in (drop (length (clause_lines (ls ++ ms))) (ls ++ ms)) ≡ map call_in (drop (length (clause_lines ls)) ls) ++ map call_in ms
    all =
        ap (λ (l : List (List ℕ)). map call_in (drop (length l) (ls ++ ms))) same
        ∙ ap (map call_in) (clauses_joined ls ms q).1
        ∙ map-append call_in (drop (length (clause_lines ls)) ls) ms

    held : (o : Opening) → held_behind o (ls ++ ms) ≡ after_calls (held_behind o ls) (map call_in ms)
    held o = (λ i. after_calls (start_for o (same i)) (all i)) ∙ after_joined (start_for o (clause_lines ls)) (map call_in (drop (length (clause_lines ls)) ls)) (map call_in ms)

    told : (o : Opening) → behind_first o.mode o.vars 2 ([], []) (ls ++ ms) ≡ behind_first o.mode o.vars 2 ([], []) ls ++ answers_held (held_behind o ls) (1 + length (line ∷ ls)) (map call_in ms)
    told o =
        let n = o.vars in
        let list = listed n ([], []) (clause_lines ls) in
        let m = length list.1 in
        let O = chooser_of o.mode n list in
        let calls = map call_in (drop (length (clause_lines ls)) ls) in
        let place : 2 + length (clause_lines ls) + length calls ≡ 1 + length (line ∷ ls) = omega (arith, clause_part ls, length-map (drop (length (clause_lines ls)) ls) call_in) in
        (λ i. answers_for o (same i) (all i))
        ∙ ap (λ (l : List ℕ). clause_answers n 2 ([], []) (clause_lines ls) ++ l)
        (answers_joined n m O (begin n m O) (2 + length (clause_lines ls)) calls (map call_in ms)
        ∙ ap (λ (j : ℕ). session_answers n m O (begin n m O).now (2 + length (clause_lines ls)) calls ++ session_answers n m O (run n m O (begin n m O) (calls_of calls)).now j (map call_in ms)) place)
        ∙ sym (append_assoc (clause_answers n 2 ([], []) (clause_lines ls)) _ _)

    go : (x : Result Opening) → held_first x ls ≡ some h → (held_first x (ls ++ ms) ≡ some (after_calls h (map call_in ms)))
        × (from_first x (λ o. behind_first o.mode o.vars 2 ([], []) (ls ++ ms)) ≡ from_first x (λ o. behind_first o.mode o.vars 2 ([], []) ls) ++ answers_held h (1 + length (line ∷ ls)) (map call_in ms))
    go (refuse k) e = never e
    go (done r o) e =
        same_some
        (λ (h : Held). (some (held_behind o (ls ++ ms)) ≡ some (after_calls h (map call_in ms)))
        × (answer_line 1 0 r ++ behind_first o.mode o.vars 2 ([], []) (ls ++ ms) ≡ (answer_line 1 0 r ++ behind_first o.mode o.vars 2 ([], []) ls) ++ answers_held h (1 + length (line ∷ ls)) (map call_in ms)))
        e
        (ap some (held o), ap (λ (l : List ℕ). answer_line 1 0 r ++ l) (told o) ∙ sym (append_assoc (answer_line 1 0 r) (behind_first o.mode o.vars 2 ([], []) ls) _))
