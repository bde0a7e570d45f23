-- A sheet of calls on a saved session, as code runs it: what was loaded of the text, its refusals, and the calls on it. Assumes nothing.
use Rattle.std.specs.Prelude.{ℕ, ◌≤◌, ◌<◌, ◌≡◌, Bool, true, cond, take, Ok, Err}
use Rattle.std.proofs.Math.Path.{refl, ap}
use Rattle.std.proofs.Common.{sym, subst, ◌∙◌, arith, length-take-le}
use Rattle.std.proofs.Math.Bool.{false}
use Rattle.std.proofs.Math.Option.{Option, none, some}
use mathlib.Core.List.{List, map}
use borrow.Author.Tests.{leb-true, le-leb, lt-leb}
use Rattle.std.proofs.Math.Dec.{leb}
use Rattle.std.proofs.Math.ListN.{length}
use Rattle.laws.specs.Tests.{true_or_false}
use Rattle.lit.specs.declared.Refusal.{Refusal}
use Rattle.lit.specs.Refusals.{refusal_number, refusal_above}
use Rattle.lit.specs.Numbers.{max_vars, max_clauses, max_literals, short_buffer, many_vars, bad_clauses, bad_state, bad_saved}
use Rattle.formula.specs.Good.{clauses_facts}
use Rattle.trail.specs.Trail.{Trail}
use Rattle.vsids.specs.Vsids.{Vsids}
use Rattle.vmtf.specs.Vmtf.{Vmtf}
use Rattle.choosers.specs.Heap.{heap_ops}
use Rattle.choosers.specs.List.{list_ops}
use Rattle.book.specs.Calls.{Call}
use Rattle.book.specs.Session.{Result, done, refuse, mapped, need, Session}
use Rattle.book.specs.Claim.{starting_with}
use Rattle.session.specs.Entry.{sizes_checked, checked}
use Rattle.forms.specs.Text.{lines, written}
use Rattle.forms.specs.Forms.{Mode, vsids, vmtf, Opening, call_in}
use Rattle.saved_text.specs.Saved.{Saved, WellFormed}
use Rattle.saved_text.specs.Reading.{read_text}
use Rattle.saved_text.specs.Read.{read_said}
use Rattle.saved_text.specs.Form.{OpensWith, opened}
use Rattle.saved_text.specs.FormLaws.{opens_said}
use Rattle.saved_state.specs.Said.{lits_said, ends_said}
use Rattle.saved_state.specs.Entry.{Reader, Memory, memory_said, read_with}
use Rattle.saved_state.specs.Sound.{state_test, Sound}
use Rattle.saved_state.specs.declared.judging.Unfit.{Unfit}
use Rattle.saved_state.specs.declared.judging.Unfit.TheVariants as a-reason
use Rattle.saved_state.specs.Judging.{unfit_number, clauses_fit, form_or, LoadedIs, ends_length}
use Rattle.sheet.specs.Stages as spec
use Rattle.sheet.specs.Stages.{Stage, in_heap, in_list, stage_behind}
use Rattle.sheet.proofs.Turns.{heap_answers, list_answers}
use Rattle.sheet.specs.Running.{Holds}
use Rattle.sheet.specs.Opening.{at_first}
use Rattle.saved_sheet.specs.Sheets.{Held, text_room, room_for, heap_held, list_held, held_said, held_of, held_in, carried_on}
use Rattle.saved_run.specs.declared.Both.{Both}
use Rattle.saved_run.specs.Outcomes.{Comes}
use Rattle.saved_run.specs.Ends.{stage_text, Saves}
use Rattle.saved_run.specs.Behind.{heap_behind, list_behind}
use Rattle.saved_run.specs.Holding.{codes_held, ends_held}

-- the refusal of what was loaded, 6 or 7, or 2 for the room of its text; or 0
abbrev pub refusal_of : ℕ → ℕ → ℕ → Bool → Bool → ℕ → ℕ
refusal_of n clauses literals good passed space = cond good (cond passed (cond (leb (text_room n clauses literals) space) 0 short_buffer) bad_state) bad_clauses

pub unfit_refusal : (u : Unfit) (n clauses literals space : ℕ) → unfit_number u ≡ refusal_of n clauses literals (clauses_fit {S = Unit {0}} (Err u)) false space
unfit_refusal a-reason.Clauses n clauses literals space = refl
unfit_refusal a-reason.State n clauses literals space = refl

-- What was loaded of a text of a mode that opens n variables, into slices that have room for a good clause list.
pub record Loads {C : Type 0} (R : Reader C) (s : Saved) (n literals clauses : ℕ) (good passed : Bool) (lits ends : List ℕ) (t : Trail) (c : C) : Type 0 where
  pub well : WellFormed s
  pub mode : s.opening.mode ≡ R.mode
  pub vars : s.opening.vars ≡ n
  pub is : LoadedIs R s literals clauses good passed lits ends t c
  pub codes_room : good ≡ true → literals ≤ length lits
  pub ends_room : good ≡ true → clauses ≤ length ends

-- ---- what a text says

pub held_none : (old : List ℕ) → read_text old ≡ none → held_in old ≡ refuse bad_saved
unfolding held_in
held_none old e = rw e refl

pub held_some : (old : List ℕ) (s : Saved) (mode : Mode) → read_text old ≡ some s → s.opening.mode ≡ mode → held_in old ≡ held_said mode s
unfolding held_in
held_some old s mode e m = rw e (ap (λ (k : Mode). held_said k s) m)

-- 4, or 15
module _ {old : List ℕ} {at n : ℕ} (list : Bool) (w : OpensWith old at (opened n list)) (many : max_vars < n) where
  said_many : (s : Saved) → read_text old ≡ some s → held_said s.opening.mode s ≡ refuse many_vars
  unfolding checked sizes_checked need
  said_many s e =
      let x = (opens_said w s e).1 in
      let f = lt-leb s.opening.vars max_vars (omega (arith, ap (λ (o : Opening). o.vars) x)) in
      go s.opening.mode f
    where
      go : (mode : Mode) → leb s.opening.vars max_vars ≡ false → held_said mode s ≡ refuse many_vars
      go vsids f = rw f refl
      go vmtf f = rw f refl

  pub held_many : {k : ℕ} → k ≡ form_or (read_text old) many_vars → held_in old ≡ refuse k
  unfolding held_in
  held_many {k} = go (read_text old) refl
    where
      go : (o : Option Saved) → read_text old ≡ o → k ≡ form_or o many_vars → held_of o ≡ refuse k
      go none q e = ap refuse (sym e)
      go (some s) q e = said_many s q ∙ ap refuse (sym e)

pub came_refused : {x : Result Held} (space : ℕ) (cs : List (Option Call)) (out text : List ℕ) (e : Refusal) → x ≡ refuse (refusal_number e) → Comes (carried_on space cs x) out text (Err e) out text
came_refused space cs out text e q = rw q (e, refl, refl, refl, refl)

-- ---- what was loaded

abbrev Facts : ℕ → ℕ → ℕ → Bool → Bool → ℕ → Type 0
Facts n clauses literals good passed space = (good ≡ true) × (passed ≡ true) × (text_room n clauses literals ≤ space)

no_refusal : (n clauses literals : ℕ) (good passed : Bool) (space : ℕ) → 0 ≡ refusal_of n clauses literals good passed space → Facts n clauses literals good passed space
no_refusal n clauses literals false passed space e = absurd (omega arith)
no_refusal n clauses literals true false space e = absurd (omega arith)
no_refusal n clauses literals true true space e =
    true_or_false (leb (text_room n clauses literals) space)
    (λ t. (refl, refl, leb-true _ _ t))
    (λ f. absurd (omega (arith, rw f at e)))

-- a good clause list has few clauses and literals
pub loaded_few : {C : Type 0} {R : Reader C} {s : Saved} {n literals clauses : ℕ} {good passed : Bool} {lits ends : List ℕ} {t : Trail} {c : C} → Loads R s n literals clauses good passed lits ends t c
    → good ≡ true → (clauses ≤ max_clauses) × (literals ≤ max_literals)
loaded_few {s = s} l e =
    let g = (clauses_facts s.opening.vars (lits_said s) (ends_said s)).0 (sym l.is.good_clauses ∙ e) in
    (omega (arith, l.is.clause_count, g.list.few_clauses), omega (arith, l.is.literal_count, g.list.few_literals_lem))

-- what is not refused has its clause list in the slices
pub loaded_fits : {C : Type 0} {R : Reader C} {s : Saved} {n literals clauses : ℕ} {good passed : Bool} {lits ends : List ℕ} {t : Trail} {c : C} (space : ℕ) → Loads R s n literals clauses good passed lits ends t c
    → 0 ≡ refusal_of n clauses literals good passed space → (literals ≤ length lits) × (clauses ≤ length ends)
loaded_fits {n = n} {literals} {clauses} {good} {passed} space l e = let f = no_refusal n clauses literals good passed space e in (l.codes_room f.0, l.ends_room f.0)

module _ {C : Type 0} (R : Reader C) (S : Sound R) (hold : ℕ → Memory C → Held) (holds : (s : Saved) → held_said R.mode s ≡ mapped (hold s.opening.vars) (read_with R true s))
    (room : (n : ℕ) (x : Memory C) → room_for (hold n x) ≡ text_room n (length x.1) (length x.0))
    {s : Saved} {n literals clauses : ℕ} {good passed : Bool} {lits ends : List ℕ} {t : Trail} {c : C} (small : n ≤ max_vars) (l : Loads R s n literals clauses good passed lits ends t c) where
  -- the tests that are left
  said : held_said R.mode s ≡ mapped (hold n) (need good bad_clauses (need (state_test R s) bad_state (done none (memory_said R s))))
  unfolding checked sizes_checked need
  said =
      let few = le-leb s.opening.vars max_vars (omega (arith, l.vars, small)) in
      holds s ∙ rw (few, ← l.is.good_clauses) (ap (λ (k : ℕ). mapped (hold k) (need good bad_clauses (need (state_test R s) bad_state (done none (memory_said R s))))) l.vars)

  pub loaded_refused : (space : ℕ) (cs : List (Option Call)) (e : Refusal) (out text : List ℕ) → refusal_number e ≡ refusal_of n clauses literals good passed space
      → Comes (carried_on space cs (held_said R.mode s)) out text (Err e) out text
  unfolding need
  loaded_refused space cs e out text q = rw said (go good passed (state_test R s) l.is.state_passed q)
    where
      needs : room_for (hold n (memory_said R s)) ≡ text_room n clauses literals
      needs = room n (memory_said R s) ∙ (λ i. text_room n (sym l.is.clause_count i) (sym l.is.literal_count i))

      go : (g p d : Bool) → (g ≡ true → p ≡ d) → refusal_number e ≡ refusal_of n clauses literals g p space
          → Comes (carried_on space cs (mapped (hold n) (need g bad_clauses (need d bad_state (done none (memory_said R s)))))) out text (Err e) out text
      go false p d h q = (e, refl, q, refl, refl)
      go true p false h q = (e, refl, rw (h refl) at q, refl, refl)
      go true p true h q =
          true_or_false (leb (text_room n clauses literals) space)
          (λ t. absurd (let z = rw (h refl, t) at q in omega (arith, refusal_above e, z)))
          (λ f. rw (needs, f) (e, refl, rw (h refl, f) at q, refl, refl))

  module _ (space : ℕ) (none-fits : 0 ≡ refusal_of n clauses literals good passed space) where
    abbrev memory : Memory C
    memory = (take literals lits, take clauses ends, t, c)

    facts : Facts n clauses literals good passed space
    facts = no_refusal n clauses literals good passed space none-fits

    is_said : memory ≡ memory_said R s
    is_said =
        let i = l.is in
        let count : clauses ≡ length s.clauses = i.clause_count ∙ ends_length 0 s.clauses in
        let more = l.codes_room facts.0 in
        let more-ends = l.ends_room facts.0 in
        let codes : take literals lits ≡ lits_said s = ap (λ (m : ℕ). take m lits) i.literal_count ∙ i.held.codes_held (omega (arith, i.literal_count, more)) in
        let those : take clauses ends ≡ ends_said s = ap (λ (m : ℕ). take m ends) count ∙ i.held.ends_held (omega (arith, i.literal_count, more)) (omega (arith, count, more-ends)) in
        let at-trail = i.trail_said_lem facts.1 in
        let at-chooser = i.chooser_said facts.1 in
        (λ j. (codes j, those j, at-trail j, at-chooser j))

    passes : state_test R s ≡ true
    passes = sym (l.is.state_passed facts.0) ∙ facts.1

    pub loaded_good : S.Good n memory
    loaded_good =
        let clauses_ok_lem = (clauses_facts s.opening.vars (lits_said s) (ends_said s)).0 (sym l.is.good_clauses ∙ facts.0) in
        subst (λ (x : Memory C). S.Good n x) (sym is_said) (subst (λ (k : ℕ). S.Good k (memory_said R s)) l.vars ((S.right s l.well l.mode (omega (arith, l.vars, small)) clauses_ok_lem).0 passes))

    pub loaded_room : text_room n (length (take clauses ends)) (length (take literals lits)) ≤ space
    loaded_room = omega (arith, length-take-le clauses ends (l.ends_room facts.0), length-take-le literals lits (l.codes_room facts.0), facts.2)

    pub loaded_said : held_said R.mode s ≡ done none (hold n memory)
    unfolding need
    loaded_said = said ∙ rw (facts.0, passes) (ap (λ (x : Memory C). done none (hold n x)) (sym is_said))

-- ---- calls on a session, and its text
module _ (n : ℕ) (lits ends : List ℕ) {sheet out text out' text' : List ℕ} {count : ℕ} {b : Both} (room : text_room n (length ends) (length lits) ≤ length text) where
  -- answers and text of the session behind the lines
  carried_written : {stage : Stage} (answers text_is : List ℕ) → Saves sheet (at_first count) stage out text b out' text' → spec.answers 1 stage (lines sheet) ≡ answers → stage_text (stage_behind stage (lines sheet)) ≡ text_is
      → Comes (need (leb (text_room n (length ends) (length lits)) (length text)) short_buffer (done none (answers, text_is))) out text (Ok b) out' text'
  unfolding need
  carried_written {stage} answers text_is s a t =
      let first : b.answers ≡ length answers = omega (arith, s.answers.count, ap length a) in
      let second : b.text ≡ length text_is = omega (arith, s.saved.place, ap length t) in
      rw (le-leb (text_room n (length ends) (length lits)) (length text) room)
      (ap Ok (λ i. record { answers = first i; text = second i }), s.answers.buffer ∙ ap (λ (x : List ℕ). written 0 x out) a, s.saved.buffer ∙ ap (λ (x : List ℕ). written 0 x text) t)

  pub heap_carried : (t : Trail) (h : Vsids) → Saves sheet (at_first count) (in_heap n lits ends (record { trail = t; chooser = h })) out text b out' text'
      → Comes (carried_on (length text) (map call_in (lines sheet)) (done none (heap_held n (lits, ends, t, h)))) out text (Ok b) out' text'
  heap_carried t h s =
      let u : Session n (length ends) (heap_ops n lits ends) = record { trail = t; chooser = h } in
      carried_written _ _ s (heap_answers n lits ends u 1 (lines sheet)) (ap stage_text (heap_behind n lits ends (lines sheet) (starting_with n (length ends) (heap_ops n lits ends) u)))

  pub list_carried : (t : Trail) (l : Vmtf) → Saves sheet (at_first count) (in_list n lits ends (record { trail = t; chooser = l })) out text b out' text'
      → Comes (carried_on (length text) (map call_in (lines sheet)) (done none (list_held n (lits, ends, t, l)))) out text (Ok b) out' text'
  list_carried t l s =
      let u : Session n (length ends) (list_ops n lits) = record { trail = t; chooser = l } in
      carried_written _ _ s (list_answers n lits ends u 1 (lines sheet)) (ap stage_text (list_behind n lits ends (lines sheet) (starting_with n (length ends) (list_ops n lits) u)))

-- ---- what the readers load
module _ (old : List ℕ) (n : ℕ) (lits ends : List ℕ) where
  pub loads_some : {C : Type 0} (R : Reader C) (s : Saved) {literals clauses : ℕ} {good passed : Bool} {t : Trail} {c : C} → Holds old lits ends → read_text old ≡ some s → s.opening.mode ≡ R.mode → s.opening.vars ≡ n
      → LoadedIs R s literals clauses good passed lits ends t c → Loads R s n literals clauses good passed lits ends t c
  loads_some R s holds e mode vars is = record {
    well = ((read_said old s).0 e).0;
    mode = mode;
    vars = vars;
    is = is;
    codes_room = λ g. (let h = codes_held old s e holds (sym is.good_clauses ∙ g) in omega (arith, is.literal_count, h));
    ends_room = λ g. (let h = ends_held old s e holds (sym is.good_clauses ∙ g) in omega (arith, is.clause_count, h));
  }
