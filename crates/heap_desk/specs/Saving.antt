-- The end of a run that saves a session in heap mode, and its fresh session. Assumes nothing.
use Rattle.std.specs.Prelude.{ℕ, ◌≤◌, ◌≡◌, List, T, Float, length}
use Rattle.std.proofs.Common.{sym, ap, subst, ◌∙◌, arith}
use Rattle.std.specs.Float.{binary64}
use Rattle.std.specs.Float.Ieee.{fits}
use Rattle.std.specs.Float.Ieee.Bits.{of_bits-fits}
use Rattle.lit.specs.Numbers.{max_vars}
use Rattle.formula.specs.Good.{GoodClauses}
use Rattle.trail.specs.Trail.{Trail, fresh_trail}
use Rattle.trail.specs.Memory.{trail_of}
use Rattle.vsids.specs.Vsids as vsids-of
use Rattle.vsids.specs.Vsids.{Vsids, vsids_of}
use Rattle.choosers.specs.Heap.{heap_ops}
use Rattle.book.specs.Session.{Session}
use Rattle.heap_session.specs.declared.HeapState.{HeapState}
use Rattle.heap_session.specs.Good.{GoodSession}
use Rattle.heap_session.specs.Memory.{session_of}
use Rattle.heap_session.specs.Check.{fresh_session}
use Rattle.forms.specs.Written.{Wrote}
use Rattle.heap_saved.specs.Reader.{Savable}
use Rattle.saved_text.specs.Puts.{farthest}
use Rattle.heap_saved.specs.Pieces as heap-pieces
use Rattle.sheet.specs.declared.Place.{Place}
use Rattle.sheet.specs.Stages.{in_heap}
use Rattle.sheet.proofs.SessionLines.{along_over, along_last}
use Rattle.heap_sheet.specs.Lines.{HeapAlong}
use Rattle.saved_sheet.specs.Sheets.{text_room}
use Rattle.saved_run.specs.Ends.{stage_text, Saves}

-- there is room for the text, and it is that of the session behind the lines
module _ {n : ℕ} {lits ends values levels reasons trail opened : List ℕ} {activity : List Float} {heap indices decision : List ℕ} {u : HeapState} where
  pub heap_fits : (text : List ℕ) → GoodSession n (length ends) lits ends (trail_of values levels reasons trail opened u.trail) (vsids_of activity heap indices decision u.vsids)
      → T (fits binary64 u.vsids.step.inc) × T (fits binary64 u.vsids.step.decay) → text_room n (length ends) (length lits) ≤ length text
      → heap-pieces.Lines n lits ends levels reasons trail activity heap decision u × (length (heap-pieces.session_text n lits ends levels reasons trail activity heap decision u) ≤ length text)
      × (length (heap-pieces.session_text n lits ends levels reasons trail activity heap decision u) ≤ farthest)
  heap_fits text g double room =
      let l = heap-pieces.session_lines {opened = opened} {indices = indices} (g, double) in
      (l, omega (arith, l.short, room), omega (arith, l.short, l.shape.few_clauses, l.shape.few_literals_lem, l.in_heap_lem.small))

  module _ {sheet : List ℕ} {p q : Place} {s : Session n (length ends) (heap_ops n lits ends)} {out out' text text' : List ℕ} {k : ℕ} where
    pub heap_saves : HeapAlong n lits ends sheet p s out q (session_of n (length ends) lits ends values levels reasons trail opened activity heap indices decision u) out' → q.left ≡ 0
        → Wrote 0 (heap-pieces.session_text n lits ends levels reasons trail activity heap decision u) text text' k → Saves sheet p (in_heap n lits ends s) out text (record { answers = q.at; text = k }) out' text'
    heap_saves a over w = record {
      answers = along_over a over;
      saved = subst (λ (t : List ℕ). Wrote 0 t text text' k)
          (sym (heap-pieces.session_text_lem n lits ends values levels reasons trail opened activity heap indices decision u) ∙ ap stage_text (along_last a over)) w;
    }

-- a session made fresh over a good clause list has a text
pub heap_fresh : {n : ℕ} (lits ends : List ℕ) {t : Trail} {h : Vsids} → t ≡ fresh_trail n → h ≡ vsids-of.new n → n ≤ max_vars → GoodClauses n lits ends → Savable n (lits, ends, t, h)
unfolding vsids-of.new
heap_fresh {n} lits ends et eh small clauses = rw (et, eh) (fresh_session n lits ends small clauses, (of_bits-fits binary64 _, of_bits-fits binary64 _))
