-- What a host is told of a text that was written, and the memory of a saved session with its small states as numbers.
use Rattle.std.specs.Prelude.{ℕ, ◌≡◌, refl, ◌≢◌, Bool, true, false, List, leb}
use Rattle.std.proofs.Common.{sym, subst, ◌∙◌, arith}
use Rattle.std.proofs.Math.Option.{Option, none, some}
use Rattle.lit.specs.Numbers.{NONE, max_vars, many_vars, bad_length, bad_clauses, bad_state, short_buffer, bad_saved}
use Rattle.vsids.specs.Vsids.{Vsids}
use Rattle.vmtf.specs.Vmtf.{Vmtf}
use Rattle.book.specs.Session.{Result, done, refuse, status, reply, leaves, need, Session}
use Rattle.session.specs.Entry.{sizes_checked, checked, Answered, reply_number}
use Rattle.session.specs.Mode.{Mode}
use Rattle.heap_session.specs.declared.HeapState.{HeapState}
use Rattle.list_session.specs.declared.ListState.{ListState}
use Rattle.forms.specs.Forms.{vsids, vmtf}
use Rattle.saved_text.specs.Saved.{Saved}
use Rattle.saved_text.specs.Reading.{read_text}
use Rattle.saved_state.specs.Entry.{same_mode, said_in, Memory, read_into, on_said, read, wrote}
use Rattle.saved_state.specs.Answering.{read_accepted}
use Rattle.heap_saved.specs.Reader as heap-saved
use Rattle.list_saved.specs.Reader as list-saved
use Rattle.native.specs.Small.{refused_kept}

-- a count that is told where there is one; else what was there stays
abbrev pub told : ℕ → Option ℕ → ℕ
told before none = before
told before (some k) = k

-- ---- a text's count, told where the text was written
abbrev pub Told : {S : Type 0} → Result S → S → (w k : ℕ) → S → ℕ → Type 0
Told x s w k u w' = (k ≡ status x) × (u ≡ leaves s x) × (w' ≡ told w (reply x))

pub refused_told : {S : Type 0} {x : Result S} {s u : S} {k r : ℕ} (w : ℕ) → Answered x s k r u → k ≢ 0 → Told x s w k u w
refused_told {x = done j v} w a z = absurd (z a.status)
refused_told {x = refuse j} w a z = (a.status, a.session, refl)

checked_told : {S : Type 0} (n : ℕ) (lengths clauses state room : Bool) (j : ℕ) (u : S) {r : ℕ} (w : ℕ) → let x = checked n lengths clauses state (need room short_buffer (done (some j) u)) in
    0 ≡ status x → r ≡ reply_number (reply x) → r ≡ told w (reply x)
unfolding checked sizes_checked need
checked_told {S} n lengths clauses state room j u {r} w = go (leb n max_vars) lengths clauses state room
  where
    go : (a b c d e : Bool) → let x : Result S = need a many_vars (need b bad_length (need c bad_clauses (need d bad_state (need e short_buffer (done (some j) u))))) in 0 ≡ status x → r ≡ reply_number (reply x) → r ≡ told w (reply x)
    go false b c d e z q = absurd (omega arith)
    go true false c d e z q = absurd (omega arith)
    go true true false d e z q = absurd (omega arith)
    go true true true false e z q = absurd (omega arith)
    go true true true true false z q = absurd (omega arith)
    go true true true true true z q = q

pub written_told : (n m : ℕ) (M : Mode) (lits : List ℕ) (literals : ℕ) (ends : List ℕ) (saved_of : Session n m M.ops → Saved) (s : Session n m M.ops) {buffer u : List ℕ} {k r : ℕ} (w : ℕ)
    → let x = wrote n m M lits literals ends saved_of s buffer in Answered x buffer k r u → k ≡ 0 → Told x buffer w 0 u r
unfolding wrote
written_told n m M lits literals ends saved_of s w a z = (sym z ∙ a.status, a.session, checked_told n _ _ _ _ _ _ w (sym z ∙ a.status) a.reply)

-- ---- the memory of a saved session with these small states
abbrev pub heap_memory : HeapState → Memory Vsids → Memory Vsids
heap_memory small (lits, ends, t, h) = heap-saved.memory_of lits ends t.values t.levels t.reasons t.trail t.opened h.activity h.heap h.indices h.decision small

abbrev pub list_memory : ListState → Memory Vmtf → Memory Vmtf
list_memory small (lits, ends, t, l) = list-saved.memory_of lits ends t.values t.levels t.reasons t.trail t.opened l.next l.prev l.ts small

-- what is read does not hang on them
heap_read : (text : List ℕ) (before : Memory Vsids) (small : HeapState) → read heap-saved.heap_reader text before ≡ read heap-saved.heap_reader text (heap_memory small before)
unfolding read_into need
heap_read text before small = go (read_text text)
  where
    in_mode_lem : (b : Bool) (s : Saved) → on_said heap-saved.heap_reader (need b bad_saved (done none s)) before ≡ on_said heap-saved.heap_reader (need b bad_saved (done none s)) (heap_memory small before)
    in_mode_lem true s = refl
    in_mode_lem false s = refl

    go : (o : Option Saved) → on_said heap-saved.heap_reader (said_in vsids o) before ≡ on_said heap-saved.heap_reader (said_in vsids o) (heap_memory small before)
    go none = refl
    go (some s) = in_mode_lem (same_mode vsids s.opening.mode) s

module _ (text : List ℕ) {before after : Memory Vsids} {k r : ℕ} (small : HeapState) (a : Answered (read heap-saved.heap_reader text before) before k r after) where
  pub heap_refused : k ≢ 0 → Answered (read heap-saved.heap_reader text (heap_memory small before)) (heap_memory small before) k NONE (heap_memory small after)
  heap_refused z = subst (λ (x : Result (Memory Vsids)). Answered x (heap_memory small before) k NONE (heap_memory small after)) (heap_read text before small) (refused_kept (heap_memory small) a z)

  pub heap_taken : k ≡ 0 → Answered (read heap-saved.heap_reader text (heap_memory small before)) (heap_memory small before) 0 NONE after
  heap_taken z = subst (λ (x : Result (Memory Vsids)). Answered x (heap_memory small before) 0 NONE after) (heap_read text before small) (read_accepted heap-saved.heap_reader text before a z (heap_memory small before))

list_read : (text : List ℕ) (before : Memory Vmtf) (small : ListState) → read list-saved.list_reader text before ≡ read list-saved.list_reader text (list_memory small before)
unfolding read_into need
list_read text before small = go (read_text text)
  where
    in_mode_lem : (b : Bool) (s : Saved) → on_said list-saved.list_reader (need b bad_saved (done none s)) before ≡ on_said list-saved.list_reader (need b bad_saved (done none s)) (list_memory small before)
    in_mode_lem true s = refl
    in_mode_lem false s = refl

    go : (o : Option Saved) → on_said list-saved.list_reader (said_in vmtf o) before ≡ on_said list-saved.list_reader (said_in vmtf o) (list_memory small before)
    go none = refl
    go (some s) = in_mode_lem (same_mode vmtf s.opening.mode) s

module _ (text : List ℕ) {before after : Memory Vmtf} {k r : ℕ} (small : ListState) (a : Answered (read list-saved.list_reader text before) before k r after) where
  pub list_refused : k ≢ 0 → Answered (read list-saved.list_reader text (list_memory small before)) (list_memory small before) k NONE (list_memory small after)
  list_refused z = subst (λ (x : Result (Memory Vmtf)). Answered x (list_memory small before) k NONE (list_memory small after)) (list_read text before small) (refused_kept (list_memory small) a z)

  pub list_taken : k ≡ 0 → Answered (read list-saved.list_reader text (list_memory small before)) (list_memory small before) 0 NONE after
  list_taken z = subst (λ (x : Result (Memory Vmtf)). Answered x (list_memory small before) 0 NONE after) (list_read text before small) (read_accepted list-saved.list_reader text before a z (list_memory small before))
