-- The claims. A text is read as its session with levels of unassigned variables forgotten, which no call tells from it; and what every run keeps is kept over a save.
use Prim.Native.Nat.{ℕ, ◌+◌, ◌*◌, ◌≤◌, ◌<◌}
use mathlib.Core.Path.{◌≡◌, refl, sym, ap, subst, ◌∙◌}
use mathlib.Core.Logic.{◌⊎◌, inl, inr}
use mathlib.Core.Bool.{Bool, true, false, true≢false}
use mathlib.Core.Option.{Option, none, some}
use mathlib.Core.List.{List, [], ◌∷◌, ◌++◌, map, reverse, map-append, reverse-cons, reverse-append}
use native.Mathlib.Omega.{arith}
use borrow.Author.Tests.{leb-true, leb-false, le-leb}
use lib.Dec.{leb}
use lib.ListN.{length, drop, length-append, length-map}
use Rattle.laws.specs.Tests.{true_or_false}
use Rattle.lit.specs.Numbers.{max_vars, max_sheet, answer_room, long_sheet, short_buffer, many_vars, bad_length, bad_clauses, bad_state}
use Rattle.formula.specs.Clauses.{clauses_ok}
use Rattle.formula.specs.Good.{GoodClauses, clauses_facts}
use Rattle.formula.specs.Adding.{none_ok}
use Rattle.choosers.specs.Heap.{heap_chooser}
use Rattle.choosers.specs.List.{list_chooser}
use Rattle.book.specs.Calls.{Call, Line}
use Rattle.book.specs.Chooser.{Operations, Chooser}
use Rattle.book.specs.Session.{Result, done, refuse, status, reply, leaves, mapped, need, Session}
use Rattle.book.specs.Claim.{Event, log, Run, starting_with, begin, run}
use Rattle.book.specs.Saved.{forgotten, read_back}
use Rattle.book.specs.Read.{calls_of, behind, run_past}
use Rattle.book.proofs.Term3.{Inv, began, ran as kept-along}
use Rattle.book.proofs.Saved.{read_back_lem}
use Rattle.carried.specs.Same.{Alike}
use Rattle.carried.proofs.Calls.{runs_same}
use Rattle.forms.specs.Text.{newline, lines, occurs}
use Rattle.forms.specs.TextLaws.{occurs_length, lines_length}
use Rattle.forms.specs.Forms.{Mode, vsids, vmtf, Opening, call_in, first_in}
use Rattle.forms.specs.Words.{never, same_some}
use Rattle.saved_text.specs.Saved.{Saved}
use Rattle.saved_text.specs.Reading.{read_text, closed}
use Rattle.session.specs.Entry.{sizes_checked, checked}
use Rattle.saved_state.specs.Said.{lits_said, ends_said}
use Rattle.saved_state.specs.Entry.{Reader, Memory, memory_said, read_with}
use Rattle.saved_state.specs.Sound.{state_test}
use Rattle.heap_saved.specs.Reader.{heap_reader}
use Rattle.list_saved.specs.Reader.{list_reader}
use Rattle.sheet.specs.Sheet.{logged, session_answers, ClauseList, chooser_of, clause_lines, listed, opening, answered, ran}
use Rattle.sheet.proofs.ClauseLines.{listed_good}
use Rattle.sheet.specs.Stages.{in_heap, in_list}
use Rattle.sheet.proofs.Turns.{heap_answers, list_answers}
use Rattle.sheet.proofs.Bounds.{answers_short}
use Rattle.saved_sheet.specs.Sheets.{Held, text_held, room_for, after_calls, with_text, taken, held_behind, held_first, held_by, with_text_of, ran_new, heap_held, list_held, held_said, held_of, held_in, answers_held, carried_on, ran_on}
use Rattle.saved_sheet.specs.Claims.{calls_on, Savable, Good, read_held, TextOf, TextNew, NewAnswers, NewText, OnText, ForEver, CountedOn, CarriedOn, CarriedAgain, saved_held, gone_on, Day, opened, carried, Told, DayTold, DayTerm3}
use Rattle.saved_sheet.proofs.Widths.{lines_double}
use Rattle.saved_sheet.proofs.Texts.{text_with, good_read, read_good, good_length, good_forgets, good_same, same_text, good_fresh, good_run}
use Rattle.saved_sheet.proofs.Joined.{lines_joined, newlines_joined, answers_joined, after_joined, new_joined}

-- ---- tests that pass

need_zero : {S : Type 0} (b : Bool) (k : ℕ) (x : Result S) → 0 < k → status (need b k x) ≡ 0 → (b ≡ true) × (status x ≡ 0)
unfolding need
need_zero true k x h e = (refl, e)
need_zero false k x h e = absurd (omega arith)

pub is_taken : {S : Type 0} (sheet : List ℕ) (room : ℕ) (x : Result S) → length sheet ≤ max_sheet → answer_room * occurs newline sheet ≤ room → taken sheet room x ≡ x
unfolding need
is_taken sheet room x a b = rw (le-leb (length sheet) max_sheet a, le-leb (answer_room * occurs newline sheet) room b)

was_taken : {S : Type 0} (sheet : List ℕ) (room : ℕ) (x : Result S) → status (taken sheet room x) ≡ 0 → (length sheet ≤ max_sheet) × (answer_room * occurs newline sheet ≤ room) × (status x ≡ 0)
was_taken sheet room x e =
    let p = need_zero (leb (length sheet) max_sheet) long_sheet _ (omega arith) e in
    let q = need_zero (leb (answer_room * occurs newline sheet) room) short_buffer x (omega arith) p.1 in
    (leb-true _ _ p.0, leb-true _ _ q.0, q.1)

with_room : (space : ℕ) (answers : List ℕ) (h : Held) → room_for h ≤ space → with_text space answers h ≡ done none (answers, text_held h)
unfolding need
with_room space answers h r = rw (le-leb (room_for h) space r)

had_room : (space : ℕ) (answers : List ℕ) (h : Held) → status (with_text space answers h) ≡ 0 → room_for h ≤ space
had_room space answers h e = leb-true _ _ (need_zero (leb (room_for h) space) short_buffer _ (omega arith) e).0

reverse_twice : (l : List Line) → reverse (reverse l) ≡ l
reverse_twice [] = refl
reverse_twice (x ∷ l) = ap reverse (reverse-cons x l) ∙ reverse-append (reverse l) (x ∷ []) ∙ ap (λ (r : List Line). x ∷ r) (reverse_twice l)

-- what two results that are equal leave
same_left : {x y text last : List ℕ} → ◌≡◌ {A = Result (List ℕ × List ℕ)} (done none (x, text)) (done none (y, last)) → (x ≡ y) × (text ≡ last)
same_left {x} {y} {text} {last} e = (ap (λ (r : Result (List ℕ × List ℕ)). (leaves (x, text) r).0) e, ap (λ (r : Result (List ℕ × List ℕ)). (leaves (x, text) r).1) e)

-- ---- good sessions

after_good : (h : Held) (sheet : List ℕ) → Good h → Good (after_calls h (calls_on sheet))
after_good h sheet g = good_run h.mode h.vars h.list h.run (calls_of (calls_on sheet)) (lines_double (lines sheet)) g

-- what holds behind every accepted first line holds of a new sheet's session
held_of_lem : (P : Held → Type 0) → ((o : Opening) (ls : List (List ℕ)) → o.vars ≤ max_vars → P (held_behind o ls)) → (ls : List (List ℕ)) (h : Held) → held_by ls ≡ some h → P h
unfolding held_by need
held_of_lem P f [] h e = never e
held_of_lem P f (line ∷ ls) h e = go (first_in line) e
  where
    go : (o : Option Opening) → held_first (opening o) ls ≡ some h → P h
    go none e = never e
    go (some o) e = true_or_false (leb o.vars max_vars) (λ t. same_some P (rw t at e) (f o ls (leb-true _ _ t))) (λ t. never (rw t at e))

clauses_good : (n : ℕ) (cs : List (List ℕ)) → let list = listed n ([], []) cs in GoodClauses n list.0 list.1
clauses_good n cs = listed_good n cs ([], []) ((clauses_facts n [] []).0 (none_ok n))

pub held_good : (ls : List (List ℕ)) (h : Held) → held_by ls ≡ some h → Good h
unfolding begin
held_good = held_of_lem Good (λ o ls small.
    let n = o.vars in
    let cs = clause_lines ls in
    let list = listed n ([], []) cs in
    good_run o.mode n list (begin n (length list.1) (chooser_of o.mode n list)) (calls_of (map call_in (drop (length cs) ls))) (lines_double (drop (length cs) ls))
    (good_fresh o.mode n list small (clauses_good n cs)))

pub text_of : (h : Held) (space : ℕ) → Good h → room_for h ≤ space → TextOf h space (text_held h)
text_of h space g r = record { good = g; is = refl; fits = (let l = good_length h.mode h.vars h.list h.run.now g in omega (arith, l, r)); read = good_read h g }

-- ---- one sheet

pub new_answers : NewAnswers
unfolding ran ran_new need
new_answers sheet room space = go (leb (length sheet) max_sheet) (leb (answer_room * occurs newline sheet) room) (held_by (lines sheet))
  where
    go : (a b : Bool) (o : Option Held) →
        (mapped (λ (p : List ℕ × List ℕ). p.0) (need a long_sheet (need b short_buffer (with_text_of space (answered (lines sheet)) o))) ≡ need a long_sheet (need b short_buffer (done none (answered (lines sheet)))))
        ⊎ ((h : Held) × (o ≡ some h) × (space < room_for h) × (need a long_sheet (need b short_buffer (with_text_of space (answered (lines sheet)) o)) ≡ refuse short_buffer))
    go false b o = inl refl
    go true false o = inl refl
    go true true none = inl refl
    go true true (some h) = true_or_false (leb (room_for h) space) (λ t. inl (rw t)) (λ f. inr (h, refl, leb-false _ _ f, rw f))

pub new_text : NewText
unfolding ran_new
new_text sheet room space x text e =
    let t = was_taken sheet room (with_text_of space (answered (lines sheet)) (held_by (lines sheet))) (ap status e) in
    go (held_by (lines sheet)) refl (sym (is_taken sheet room _ t.0 t.1) ∙ e)
  where
    go : (o : Option Held) → held_by (lines sheet) ≡ o → with_text_of space (answered (lines sheet)) o ≡ done none (x, text) → TextNew text space o
    go none q e = sym (same_left e).1
    go (some h) q e =
        let r = had_room space (answered (lines sheet)) h (ap status e) in
        subst (TextOf h space) (same_left (sym (with_room space (answered (lines sheet)) h r) ∙ e)).1 (text_of h space (held_good (lines sheet) h q) r)

-- a text that is not read is refused by some number
abbrev is_done : {S : Type 0} → Result S → Bool
is_done (done r x) = true
is_done (refuse k) = false

abbrev Sure : {S : Type 0} → Result S → Type 0
Sure x = status x ≡ 0 → is_done x ≡ true

need_sure : {S : Type 0} (b : Bool) (k : ℕ) (x : Result S) → 0 < k → Sure x → Sure (need b k x)
unfolding need
need_sure true k x h f e = f e
need_sure false k x h f e = absurd (omega arith)

mapped_sure : {S T : Type 0} (f : S → T) (x : Result S) → Sure x → Sure (mapped f x)
mapped_sure f (done r x) h e = refl
mapped_sure f (refuse k) h e = h e

read_sure : {C : Type 0} (R : Reader C) (s : Saved) → Sure (read_with R true s)
unfolding checked sizes_checked
read_sure R s =
    let said : Result (Memory _) = done none (memory_said R s) in
    let state = need (state_test R s) bad_state said in
    let clauses = need (clauses_ok s.opening.vars (lits_said s) (ends_said s)) bad_clauses state in
    need_sure (leb s.opening.vars max_vars) many_vars (need true bad_length clauses) (omega arith)
    (need_sure true bad_length clauses (omega arith)
    (need_sure (clauses_ok s.opening.vars (lits_said s) (ends_said s)) bad_clauses state (omega arith)
    (need_sure (state_test R s) bad_state said (omega arith) (λ e. refl))))

said_sure : (mode : Mode) (s : Saved) → Sure (held_said mode s)
said_sure vsids s = mapped_sure (heap_held s.opening.vars) (read_with heap_reader true s) (read_sure heap_reader s)
said_sure vmtf s = mapped_sure (list_held s.opening.vars) (read_with list_reader true s) (read_sure list_reader s)

held_sure : (o : Option Saved) → Sure (held_of o)
held_sure none e = absurd (omega arith)
held_sure (some s) e = said_sure s.opening.mode s e

-- what a sheet of calls on the text of g comes to
pub on_is : (old sheet : List ℕ) (room space : ℕ) (g : Held) → held_in old ≡ done none g → length sheet ≤ max_sheet → answer_room * occurs newline sheet ≤ room → room_for g ≤ space
    → ran_on old sheet room space ≡ done none (answers_held g 1 (calls_on sheet), text_held (after_calls g (calls_on sheet)))
unfolding ran_on
on_is old sheet room space g e a b r = is_taken sheet room _ a b ∙ rw e (with_room space _ (after_calls g (calls_on sheet)) r)

-- and what it came to where it was accepted
pub on_was : (old sheet : List ℕ) (room space : ℕ) → status (ran_on old sheet room space) ≡ 0
    → (g : Held) × Good g × (old ≡ text_held g) × (held_in old ≡ done none g) × (length sheet ≤ max_sheet) × (answer_room * occurs newline sheet ≤ room) × (room_for g ≤ space)
unfolding ran_on held_in
on_was old sheet room space e =
    let t = was_taken sheet room (carried_on space (calls_on sheet) (held_in old)) e in
    go (held_in old) refl t.2 t.0 t.1
  where
    go : (x : Result Held) → held_in old ≡ x → status (carried_on space (calls_on sheet) x) ≡ 0 → length sheet ≤ max_sheet → answer_room * occurs newline sheet ≤ room
        → (g : Held) × Good g × (old ≡ text_held g) × (held_in old ≡ done none g) × (length sheet ≤ max_sheet) × (answer_room * occurs newline sheet ≤ room) × (room_for g ≤ space)
    go (refuse k) q e a b = absurd (true≢false (sym (held_sure (read_text old) (ap status q ∙ e)) ∙ ap (λ (x : Result Held). is_done x) q))
    go (done r g) q e a b =
        let t = read_good old r g q in
        let again : held_in old ≡ done none (read_held g) = ap held_in t.1 ∙ good_read g t.0 in
        let plain : r ≡ none = ap (λ (x : Result Held). reply x) (sym q ∙ again) in
        (g, t.0, t.1, q ∙ ap (λ (o : Option ℕ). done o g) plain, a, b, had_room space (answers_held g 1 (calls_on sheet)) (after_calls g (calls_on sheet)) e)

-- answers are short: each line has its 24 bytes
pub lines_few : (sheet : List ℕ) → length sheet ≤ max_sheet → length (lines sheet) ≤ max_sheet
lines_few sheet short = omega (arith, lines_length sheet, occurs_length newline sheet)

pub session_short : (mode : Mode) (n : ℕ) (list : ClauseList) (s : Session n (length list.1) (chooser_of mode n list)) (ls : List (List ℕ)) → length ls ≤ max_sheet
    → length (session_answers n (length list.1) (chooser_of mode n list) s 1 (map call_in ls)) ≤ answer_room * length ls
session_short vsids n (lits, ends) s ls few = omega (arith, ap length (heap_answers n lits ends s 1 ls), answers_short 1 (in_heap n lits ends s) ls (omega arith))
session_short vmtf n (lits, ends) s ls few = omega (arith, ap length (list_answers n lits ends s 1 ls), answers_short 1 (in_list n lits ends s) ls (omega arith))

pub on_text : OnText
on_text old sheet room space y text e =
    let t = on_was old sheet room space (ap status e) in
    let g = t.0 in
    let cs = calls_on sheet in
    let same = same_left (sym (on_is old sheet room space g t.3 t.4 t.5 t.6) ∙ e) in (
      g,
      t.3,
      subst (TextOf (after_calls g cs) space) same.1 (text_of (after_calls g cs) space (after_good g sheet t.1) t.6),
      omega (arith, ap length same.0, session_short g.mode g.vars g.list g.run.now (lines sheet) (lines_few sheet t.4), lines_length sheet, t.5),
    )

pub for_ever : ForEver
for_ever h old before t sheet room space a b r = ap status (on_is old sheet room space (read_held h) t.read a b r)

-- ---- two sheets

-- no call tells a session from what it is read back as
module _ (h : Held) (g : Good h) (sheet : List ℕ) where
  abbrev O : Operations
  O = chooser_of h.mode h.vars h.list

  abbrev clauses : ℕ
  clauses = length h.list.1

  abbrev calls : List Call
  calls = calls_of (calls_on sheet)

  alike : Alike (run h.vars clauses O (starting_with h.vars clauses O h.run.now) calls) (run h.vars clauses O (starting_with h.vars clauses O (forgotten h.run.now)) calls)
  alike = runs_same h.vars clauses O h.run.now (forgotten h.run.now) (good_same h.mode h.vars h.list h.run.now g) calls

  read_good_held : Good (read_held h)
  read_good_held = good_forgets h.mode h.vars h.list h.run.now g

  pub read_counted : (k : ℕ) → CountedOn k (calls_on sheet) (answers_held (read_held h) 1 (calls_on sheet)) (answers_held h (1 + k) (calls_on sheet))
  read_counted k = (_, refl, ap (λ (ls : List Line). logged (1 + k) (calls_on sheet) (reverse ls)) alike.answers)

  pub read_text_lem : text_held (after_calls h (calls_on sheet)) ≡ text_held (after_calls (read_held h) (calls_on sheet))
  read_text_lem =
      let now : (run h.vars clauses O h.run calls).now ≡ (run h.vars clauses O (starting_with h.vars clauses O h.run.now) calls).now = ap (λ (r : Run h.vars clauses O). r.now) (run_past h.vars clauses O calls h.run) in
      let one = after_good h sheet g in
      ap (text_with h.mode h.vars h.list) now
      ∙ same_text h.mode h.vars h.list _ _ (subst (Savable h.mode h.vars h.list) now one) (after_good (read_held h) sheet read_good_held) alike.ends

  -- the second sheet, on the text of h
  pub on_second : (room space : ℕ) → length sheet ≤ max_sheet → answer_room * occurs newline sheet ≤ room → room_for h ≤ space
      → ran_on (text_held h) sheet room space ≡ done none (answers_held (read_held h) 1 (calls_on sheet), text_held (after_calls (read_held h) (calls_on sheet)))
  on_second room space a b r = on_is (text_held h) sheet room space (read_held h) (good_read h g) a b r

-- what the long sheet fits, both do
halves : (a b : List ℕ) (room : ℕ) → closed a ≡ true → length (a ++ b) ≤ max_sheet → answer_room * occurs newline (a ++ b) ≤ room
    → (length a ≤ max_sheet) × (answer_room * occurs newline a ≤ room) × (length b ≤ max_sheet) × (answer_room * occurs newline b ≤ room)
halves a b room c l r =
    let n = newlines_joined a b c in
    let m = length-append a b in
    (omega (arith, m, l), omega (arith, n, r), omega (arith, m, l), omega (arith, n, r))

pub carried_on_lem : CarriedOn
unfolding ran_new
carried_on_lem a b room space h c q no_more e =
    let ls = lines a in
    let cs = calls_on b in
    let g = held_good ls h q in
    let t = was_taken (a ++ b) room (with_text_of space (answered (lines (a ++ b))) (held_by (lines (a ++ b)))) e in
    let f = halves a b room c t.0 t.1 in
    let j = new_joined ls (lines b) h q no_more in
    let held : held_by (lines (a ++ b)) ≡ some (after_calls h cs) = ap held_by (lines_joined a b c) ∙ j.0 in
    let told : answered (lines (a ++ b)) ≡ answered ls ++ answers_held h (1 + length ls) cs = ap answered (lines_joined a b c) ∙ j.1 in
    let r : room_for h ≤ space = had_room space (answered (lines (a ++ b))) (after_calls h cs) (rw held at t.2) in
    record {
      x = answered ls;
      y = answers_held (read_held h) 1 cs;
      z = answers_held h (1 + length ls) cs;
      text = text_held h;
      last = text_held (after_calls (read_held h) cs);
      first = is_taken a room _ f.0 f.1 ∙ rw q (with_room space (answered ls) h r);
      second = on_second h g b room space f.2 f.3 r;
      counted = read_counted h g b (length ls);
      long = is_taken (a ++ b) room _ t.0 t.1 ∙ rw (held, told, ← read_text_lem h g b) (with_room space _ (after_calls h cs) r);
    }

pub carried_again : CarriedAgain
carried_again old a b room space c e =
    let t = on_was old (a ++ b) room space e in
    let f = halves a b room c t.4 t.5 in
    let h = t.0 in
    let ds = calls_on a in
    let cs = calls_on b in
    let u = after_calls h ds in
    let g = after_good h a t.1 in
    let all : calls_on (a ++ b) ≡ ds ++ cs = ap (map call_in) (lines_joined a b c) ∙ map-append call_in (lines a) (lines b) in
    let place : 1 + length ds ≡ 1 + length (lines a) = omega (arith, length-map (lines a) call_in) in
    let told : answers_held h 1 (ds ++ cs) ≡ answers_held h 1 ds ++ answers_held u (1 + length (lines a)) cs =
    answers_joined h.vars (length h.list.1) (chooser_of h.mode h.vars h.list) h.run 1 ds cs ∙ ap (λ (k : ℕ). answers_held h 1 ds ++ answers_held u k cs) place in
    let text : text_held (after_calls h (ds ++ cs)) ≡ text_held (after_calls (read_held u) cs) = ap text_held (after_joined h ds cs) ∙ read_text_lem u g b in
    record {
      x = answers_held h 1 ds;
      y = answers_held (read_held u) 1 cs;
      z = answers_held u (1 + length (lines a)) cs;
      text = text_held u;
      last = text_held (after_calls (read_held u) cs);
      first = on_is old a room space h t.3 f.0 f.1 t.6;
      second = on_second u g b room space f.2 f.3 t.6;
      counted = read_counted u g b (length (lines a));
      long = on_is old (a ++ b) room space h t.3 t.4 t.5 t.6 ∙ rw (all, told, text);
    }

-- ---- a day

-- the runs from a session saved with its past, and from what it is read back as
module _ (h : Held) (sheet : List ℕ) where
  gone : (gone_on h sheet).run ≡ behind h.vars (length h.list.1) (chooser_of h.mode h.vars h.list) (after_calls (read_held h) (calls_on sheet)).run h.run.past
  gone = run_past h.vars (length h.list.1) (chooser_of h.mode h.vars h.list) (calls_of (calls_on sheet)) (read_back h.run)

  gone_text : text_held (gone_on h sheet) ≡ text_held (after_calls (read_held h) (calls_on sheet))
  gone_text = ap (λ (r : Run h.vars (length h.list.1) (chooser_of h.mode h.vars h.list)). text_with h.mode h.vars h.list r.now) gone

  gone_log : log (gone_on h sheet).run.past ≡ log (after_calls (read_held h) (calls_on sheet)).run.past ++ log h.run.past
  gone_log =
      ap (λ (r : Run h.vars (length h.list.1) (chooser_of h.mode h.vars h.list)). log r.past) gone
      ∙ map-append (λ (ev : Event). ev.line) (after_calls (read_held h) (calls_on sheet)).run.past h.run.past

-- a sheet that was accepted on the text of h
on_told : (h : Held) (old : List ℕ) → Good h → old ≡ text_held h → (sheet : List ℕ) (room space : ℕ) (y text : List ℕ) → ran_on old sheet room space ≡ done none (y, text)
    → (y ≡ answers_held (read_held h) 1 (calls_on sheet)) × (text ≡ text_held (after_calls (read_held h) (calls_on sheet)))
on_told h old g is sheet room space y text e =
    let t = on_was old sheet room space (ap status e) in
    let read : held_in old ≡ done none (read_held h) = ap held_in is ∙ good_read h g in
    let same : t.0 ≡ read_held h = ap (leaves t.0) (sym t.3 ∙ read) in
    let r : room_for h ≤ space = subst (λ (k : Held). room_for k ≤ space) same t.6 in
    same_left (sym e ∙ on_is old sheet room space (read_held h) read t.4 t.5 r)

told : (h : Held) (old : List ℕ) → Good h → old ≡ text_held h → Told h old
told h old g is = record {
  good = g;
  is = is;
  next = λ sheet room space {y} {text} e. (
    reverse (log (after_calls (read_held h) (calls_on sheet)).run.past),
    (on_told h old g is sheet room space y text e).0,
    gone_log h sheet ∙ ap (λ (l : List Line). l ++ log h.run.past) (sym (reverse_twice (log (after_calls (read_held h) (calls_on sheet)).run.past))),
  );
}

pub day_told : DayTold
day_told h text (opened sheet room space {x} e q) = let t = rw q at (new_text sheet room space x text e) in told h text (held_good (lines sheet) h q) t.is
day_told h text (carried sheet room space {old} {y} {h = k} d e) =
    let t = day_told k old d in
    told (gone_on k sheet) text (after_good (saved_held k) sheet (good_forgets k.mode k.vars k.list k.run.now t.good))
    ((on_told k old t.good t.is sheet room space y text e).1 ∙ sym (gone_text k sheet))

-- what every run keeps
chooser_for : (mode : Mode) (n : ℕ) (list : ClauseList) → n ≤ max_vars → GoodClauses n list.0 list.1 → Chooser n (length list.1) (chooser_of mode n list)
chooser_for vsids n list small g = heap_chooser n list.0 list.1 small g
chooser_for vmtf n list small g = list_chooser n (length list.1) list.0 (omega arith)

abbrev Kept : Held → Type 0
Kept h =
    let n = h.vars in
    (small : n ≤ max_vars) × (g : GoodClauses n h.list.0 h.list.1) × Inv n (length h.list.1) (chooser_of h.mode n h.list) (chooser_for h.mode n h.list small g) h.run

new_kept : (ls : List (List ℕ)) (h : Held) → held_by ls ≡ some h → Kept h
new_kept = held_of_lem Kept (λ o ls small.
    let n = o.vars in
    let cs = clause_lines ls in
    let list = listed n ([], []) cs in
    let g = clauses_good n cs in
    let C = chooser_for o.mode n list small g in
    (small, g, kept-along n (length list.1) (chooser_of o.mode n list) C _ (calls_of (map call_in (drop (length cs) ls))) (began n (length list.1) (chooser_of o.mode n list) C)))

day_kept : (h : Held) (text : List ℕ) → Day h text → Kept h
day_kept h text (opened sheet room space e q) = new_kept (lines sheet) h q
day_kept h text (carried sheet room space {old} {h = k} d e) =
    let (small, g, i) = day_kept k old d in
    let C = chooser_for k.mode k.vars k.list small g in
    (small, g, kept-along k.vars (length k.list.1) (chooser_of k.mode k.vars k.list) C (read_back k.run) (calls_of (calls_on sheet)) (read_back_lem C k.run i))

pub day_term3 : DayTerm3
day_term3 h text d = (day_kept h text d).2.claim
