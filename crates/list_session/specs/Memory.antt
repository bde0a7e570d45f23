-- A session in list mode as code holds it: eight lent slices, and the small states of the trail and of the list by value.
use Rattle.std.specs.Prelude.{ℕ, ◌≡◌, Bool, cond, List, length, replicate, Option, Result}
use Rattle.lit.specs.declared.Refusal.{Refusal}
use Rattle.lit.specs.Refusals.{status_of}
use Rattle.trail.specs.Trail.{Trail}
use Rattle.trail.specs.Memory.{trail_of, view_in}
use Rattle.vmtf.specs.Vmtf.{Vmtf, vmtf_of, vmtf_seen}
use Rattle.choosers.specs.List.{list_ops}
use Rattle.book.specs.Calls.{Call}
use Rattle.book.specs.Session.{Session, call}
use Rattle.session.specs.Entry.{Answered, reply_of}
use Rattle.list_session.specs.declared.ListState.{ListState}
use Rattle.list_session.specs.declared.ListSession.{ListSession}
use Rattle.list_session.specs.declared.ListView.{ListView}
use Rattle.list_session.specs.declared.ListAnswer.{ListAnswer}

-- the slices' contents and the small states, as the book's session over n variables and m clauses with these literals
abbrev pub session_of : (n m : ℕ) (lits values levels reasons trail opened next prev ts : List ℕ) → ListState → Session n m (list_ops n lits)
session_of n m lits values levels reasons trail opened next prev ts s = record {
  trail = trail_of values levels reasons trail opened s.trail;
  chooser = vmtf_of next prev ts s.vmtf;
}

-- the book's session with this trail and this list
abbrev pub held : (n m : ℕ) (lits : List ℕ) → Trail → Vmtf → Session n m (list_ops n lits)
held n m lits t l = record { trail = t; chooser = l }

-- the trail and the list that the code's session holds, and the book's session
abbrev pub trail_held : ListSession → Trail
trail_held s = trail_of s.values.now s.levels.now s.reasons.now s.trail.now s.opened.now s.at.trail

abbrev pub vmtf_held : ListSession → Vmtf
vmtf_held s = vmtf_of s.next.now s.prev.now s.ts.now s.at.vmtf

abbrev pub session_in : (n m : ℕ) (lits : List ℕ) → ListSession → Session n m (list_ops n lits)
session_in n m lits s = held n m lits (trail_held s) (vmtf_held s)

-- and what a view of it shows
abbrev pub session_seen : (n m : ℕ) (lits : List ℕ) → ListView → Session n m (list_ops n lits)
session_seen n m lits v = held n m lits (view_in v.trail) (vmtf_seen v.vmtf)

-- the session holds the same slices as before
abbrev pub SameSlices : ListSession → ListSession → Type 0
SameSlices a b =
    (a.values.ghost_name ≡ b.values.ghost_name)
    × (a.levels.ghost_name ≡ b.levels.ghost_name)
    × (a.reasons.ghost_name ≡ b.reasons.ghost_name)
    × (a.trail.ghost_name ≡ b.trail.ghost_name)
    × (a.opened.ghost_name ≡ b.opened.ghost_name)
    × (a.next.ghost_name ≡ b.next.ghost_name)
    × (a.prev.ghost_name ≡ b.prev.ghost_name)
    × (a.ts.ghost_name ≡ b.ts.ghost_name)

-- status k and reply r, with the small states to go on with
abbrev pub answer : ℕ → ℕ → ListState → ListAnswer
answer k r s = record { status = k; reply = r; state = s }

-- the answer a and the session u are what the call c gives for the session s
abbrev pub Answers : (n m : ℕ) (lits : List ℕ) → Call → Session n m (list_ops n lits) → Result (Option ℕ) Refusal → Session n m (list_ops n lits) → Type 0
Answers n m lits c s a u = Answered (call n m (list_ops n lits) s c) s (status_of a) (reply_of a) u

-- scratch ends as zeros where it was used, else it stays
abbrev pub cleared : Bool → List ℕ → List ℕ
cleared used l = cond used (replicate (length l) 0) l
