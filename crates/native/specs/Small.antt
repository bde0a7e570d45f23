-- The small states of a session as hosts lend them, numbers one by one; and what an exported entry makes of an answer.
use Rattle.std.specs.Prelude.{ℕ, ◌≡◌, refl, ◌≢◌, Bool, true, false, List, leb, Float}
use Rattle.std.proofs.Common.{sym, ap, ◌∙◌}
use Rattle.std.proofs.Math.Option.{none}
use Rattle.lit.specs.Numbers.{NONE, max_vars, many_vars, bad_length, bad_clauses, bad_state}
use Rattle.choosers.specs.Heap.{heap_ops}
use Rattle.choosers.specs.List.{list_ops}
use Rattle.book.specs.Session.{Result, done, refuse, reply, need, Session}
use Rattle.book.specs.Mapped.{mapped_reply}
use Rattle.session.specs.Entry.{sizes_checked, checked, Answered}
use Rattle.session.proofs.Checks.{size_zero, size_accepted}
use Rattle.session.specs.Mode.{Mode, entered_list}
use Rattle.words.specs.Words as words
use Rattle.words.specs.Words.{entered_words}
use Rattle.heap_session.specs.Memory as heap
use Rattle.list_session.specs.Memory as list
use Rattle.heap_session.specs.declared.HeapState.{HeapState}
use Rattle.list_session.specs.declared.ListState.{ListState}

abbrev pub heap_state : (len level curr members : ℕ) (inc decay : Float) → HeapState
heap_state len level curr members inc decay = record { trail = record { len = len; level = level; curr_i = curr }; vsids = record { len = members; step = record { inc = inc; decay = decay } } }

abbrev pub list_state : (len level curr start search timestamp : ℕ) → ListState
list_state len level curr start search timestamp = record { trail = record { len = len; level = level; curr_i = curr }; vmtf = record { start = start; search = search; timestamp = timestamp } }

-- the session s with these small states
abbrev pub heap_with : (n m : ℕ) (lits ends : List ℕ) → HeapState → Session n m (heap_ops n lits ends) → Session n m (heap_ops n lits ends)
heap_with n m lits ends small s =
    let t = s.trail in
    let h = s.chooser in
    heap.session_of n m lits ends t.values t.levels t.reasons t.trail t.opened h.activity h.heap h.indices h.decision small

abbrev pub list_with : (n m : ℕ) (lits : List ℕ) → ListState → Session n m (list_ops n lits) → Session n m (list_ops n lits)
list_with n m lits small s =
    let t = s.trail in
    let l = s.chooser in
    list.session_of n m lits t.values t.levels t.reasons t.trail t.opened l.next l.prev l.ts small

-- what is refused is left as it was, whatever f puts in its place
pub refused_kept : {S : Type 0} (f : S → S) {x : Result S} {s u : S} {k r : ℕ} → Answered x s k r u → k ≢ 0 → Answered x (f s) k NONE (f u)
refused_kept f {x = done j v} a z = absurd (z a.status)
refused_kept f {x = refuse j} a z = record { status = a.status; reply = refl; session = ap f a.session }

-- what creation makes hangs on the slices' lengths alone
pub made_accepted : {S : Type 0} (n : ℕ) (lengths clauses : Bool) (v : S) {s u : S} {k r : ℕ} → Answered (sizes_checked n lengths clauses (done none v)) s k r u → k ≡ 0 → (s' : S)
    → Answered (sizes_checked n lengths clauses (done none v)) s' 0 NONE u
made_accepted n lengths clauses v a z s' =
    let e = size_zero n lengths clauses (done none v) (sym a.status ∙ z) in
    rw (size_accepted n lengths clauses (done none v) e) (record { status = refl; reply = refl; session = rw (size_accepted n lengths clauses (done none v) e) at a.session })

-- a list has no reply of its own
checked_quiet : {S : Type 0} (n : ℕ) (lengths clauses state : Bool) (u : S) → reply (checked n lengths clauses state (done none u)) ≡ none
unfolding checked sizes_checked need
checked_quiet n lengths clauses state u = go (leb n max_vars) lengths clauses state
  where
    go : (a b c d : Bool) → reply (need a many_vars (need b bad_length (need c bad_clauses (need d bad_state (done none u))))) ≡ none
    go false b c d = refl
    go true false c d = refl
    go true true false d = refl
    go true true true false = refl
    go true true true true = refl

pub list_answered : (n m : ℕ) (M : Mode) (lits : List ℕ) (literals : ℕ) (ends vars ws : List ℕ) (answers : ℕ) (s : Session n m M.ops) {p q : Session n m M.ops × List ℕ} {k r : ℕ}
    → Answered (entered_words n m M lits literals ends vars ws answers s) p k r q → k ≡ 0 → Answered (entered_words n m M lits literals ends vars ws answers s) p 0 NONE q
unfolding entered_list
list_answered n m M lits literals ends vars ws answers s a z = record {
  status = sym z ∙ a.status;
  reply = rw (mapped_reply (words.told vars ws), checked_quiet);
  session = a.session;
}
