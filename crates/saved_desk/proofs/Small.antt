-- Answers and texts of runs are short: at most 24 bytes for each line of a sheet, and the text's bound, so that 32 bits count them.
use Prim.Native.Nat.{ℕ, ◌*◌, ◌≤◌, ◌<◌}
use mathlib.Core.Path.{◌≡◌, refl}
use mathlib.Core.Bool.{Bool, true, false}
use mathlib.Core.Option.{Option, none, some}
use mathlib.Core.List.{List, map}
use native.Mathlib.Omega.{arith}
use borrow.Author.Tests.{leb-true}
use lib.Dec.{leb}
use lib.ListN.{length}
use Rattle.laws.specs.Tests.{true_or_false}
use Rattle.lit.specs.declared.Refusal.{Refusal}
use Rattle.lit.specs.declared.Refusal.TheVariants.{LongSheet, ShortBuffer, BadLine, ManyVars, BadLength, BadClauses, BadState, NoVariable, BadPolarity, BadReason, Assigned, BadDecay, LargeStep, PastOpen, BadSaved}
use Rattle.lit.specs.Refusals.{refusal_number}
use Rattle.lit.specs.Numbers.{NONE, max_sheet, answer_room, long_sheet, short_buffer}
use Rattle.book.specs.Session.{Result, done, refuse, need, Session}
use Rattle.book.specs.Read.{calls_of}
use Rattle.forms.specs.Text.{newline, lines, occurs}
use Rattle.forms.specs.Forms.{Mode, vsids, vmtf, call_in}
use Rattle.sheet.specs.Sheet.{ClauseList, chooser_of, answered}
use Rattle.sheet.proofs.Bounds.{answered_short}
use Rattle.saved_sheet.specs.Sheets.{Held, text_held, text_room, room_for, after_calls, with_text, held_by, with_text_of, ran_new, held_in, answers_held, carried_on, ran_on}
use Rattle.saved_sheet.specs.Claims.{Savable, Good}
use Rattle.saved_sheet.proofs.Widths.{lines_double}
use Rattle.saved_sheet.proofs.Texts.{read_good, good_length, good_run}
use Rattle.saved_sheet.proofs.Claims.{held_good, lines_few, session_short}
use Rattle.saved_desk.specs.Entry.{Small}

text_few : (mode : Mode) (n : ℕ) (list : ClauseList) (s : Session n (length list.1) (chooser_of mode n list)) → Savable mode n list s → text_room n (length list.1) (length list.0) ≤ NONE
text_few vsids n list s g = omega (arith, g.0.small, g.0.clauses.list.few_clauses, g.0.clauses.list.few_literals_lem)
text_few vmtf n list s g = omega (arith, g.1.small, g.0.list.few_clauses, g.0.list.few_literals_lem)

text_small : (h : Held) → Good h → length (text_held h) ≤ NONE
text_small h g = omega (arith, good_length h.mode h.vars h.list h.run.now g, text_few h.mode h.vars h.list h.run.now g)

with_small : (space : ℕ) (answers : List ℕ) (h : Held) → length answers ≤ NONE → Good h → Small (with_text space answers h)
unfolding need
with_small space answers h a g = true_or_false (leb (room_for h) space) (λ t. rw t (a, text_small h g)) (λ f. rw f tt)

pub new_small : (sheet : List ℕ) (room space : ℕ) → Small (ran_new sheet room space)
unfolding ran_new need
new_small sheet room space = go (leb (length sheet) max_sheet) refl (leb (answer_room * occurs newline sheet) room) (held_by (lines sheet)) refl
  where
    go : (a : Bool) → leb (length sheet) max_sheet ≡ a → (b : Bool) (o : Option Held) → held_by (lines sheet) ≡ o → Small (need a long_sheet (need b short_buffer (with_text_of space (answered (lines sheet)) o)))
    go false p b o q = tt
    go true p false o q = tt
    go true p true none q = (let few = lines_few sheet (leb-true _ _ p) in omega (arith, answered_short (lines sheet) few, few), omega arith)
    go true p true (some h) q = (let few = lines_few sheet (leb-true _ _ p) in with_small space (answered (lines sheet)) h (omega (arith, answered_short (lines sheet) few, few)) (held_good (lines sheet) h q))

pub on_small : (old sheet : List ℕ) (room space : ℕ) → Small (ran_on old sheet room space)
unfolding ran_on need
on_small old sheet room space = go (leb (length sheet) max_sheet) refl (leb (answer_room * occurs newline sheet) room) (held_in old) refl
  where
    go : (a : Bool) → leb (length sheet) max_sheet ≡ a → (b : Bool) (x : Result Held) → held_in old ≡ x → Small (need a long_sheet (need b short_buffer (carried_on space (map call_in (lines sheet)) x)))
    go false p b x q = tt
    go true p false x q = tt
    go true p true (refuse k) q = tt
    go true p true (done r h) q =
        let few = lines_few sheet (leb-true _ _ p) in
        let ls = lines sheet in
        with_small space (answers_held h 1 (map call_in ls)) (after_calls h (map call_in ls)) (omega (arith, session_short h.mode h.vars h.list h.run.now ls few, few))
        (good_run h.mode h.vars h.list h.run (calls_of (map call_in ls)) (lines_double ls) (read_good old r h q).0)

-- and a refusal has two digits at most
pub refusal_small : (e : Refusal) → refusal_number e < 100
refusal_small LongSheet = omega arith
refusal_small ShortBuffer = omega arith
refusal_small BadLine = omega arith
refusal_small ManyVars = omega arith
refusal_small BadLength = omega arith
refusal_small BadClauses = omega arith
refusal_small BadState = omega arith
refusal_small NoVariable = omega arith
refusal_small BadPolarity = omega arith
refusal_small BadReason = omega arith
refusal_small Assigned = omega arith
refusal_small BadDecay = omega arith
refusal_small LargeStep = omega arith
refusal_small PastOpen = omega arith
refusal_small BadSaved = omega arith
