-- The text of a session in heap mode in the pieces that are written, and what a good session says of the numbers on them. Assumes nothing.
use Rattle.std.specs.Prelude.{ℕ, ◌≤◌, ◌<◌, ◌≡◌, true, not, List, [], ◌∷◌, ◌++◌, map, T, Float, length, get_or, take}
use Rattle.std.proofs.Common.{sym, ap, subst, ◌∙◌, arith}
use Rattle.std.specs.Float.{nan, binary64}
use Rattle.std.specs.Float.Ieee.{is_nan, to_bits}
use Rattle.laws.specs.Each.{Each}
use Rattle.lit.specs.Numbers.{NONE, max_vars}
use Rattle.formula.specs.Clauses.{clauses, clauses_ok}
use Rattle.formula.specs.Good.{GoodShape}
use Rattle.activity.specs.declared.Step.{Step}
use Rattle.trail.specs.Memory.{trail_of}
use Rattle.vsids.specs.Vsids.{Vsids, vsids_of}
use Rattle.vsids.specs.Good.{GoodHeap}
use Rattle.book.specs.Session.{Session}
use Rattle.session.specs.Checks.{state_refusal}
use Rattle.session.specs.Mode.{lengths_ok}
use Rattle.session.proofs.Entered.{passed_good}
use Rattle.choosers.specs.Heap.{heap_ops}
use Rattle.heap_session.specs.declared.HeapState.{HeapState}
use Rattle.heap_session.specs.declared.HeapView.{HeapView}
use Rattle.heap_session.specs.Good.{GoodSession}
use Rattle.heap_session.specs.Check.{state_ok}
use Rattle.heap_entry.specs.Entry.{heap_mode}
use Rattle.heap_entry.specs.Checked.{Doubles, heap_sound as lent-sound}
use Rattle.forms.specs.Letters.{vsids_text}
use Rattle.forms.specs.Forms.{vsids}
use Rattle.forms.specs.Spelling.{Whole, mode_text}
use Rattle.saved_text.specs.Saved.{whole, bits, switch, Fits, form, any_of, clause_form, Row, Rows, text_of}
use Rattle.saved_text.specs.Puts.{row_text}
use Rattle.saved_state.specs.Written.{codes_of, heap_rows, saved_heap}
use Rattle.saved_state.specs.Judged.{DoubleStep}
use Rattle.saved_state.specs.OfClauses.{clauses_formed}
use Rattle.saved_state.specs.OfHeap.{upright_no, above_no, members_length, heap_formed}
use Rattle.saved_state.specs.Pieces.{front_text, text_pieces, longest, four_lines, TrailLines, trail_lines}
use Rattle.heap_saved.specs.Reader.{Savable}
use Rattle.heap_saved.specs.Claims.{text_length}

-- the lines of the members, the activities, the switches, and step and decay
unfoldable pub heap_text : List ℕ → List Float → List ℕ → Step → List ℕ
heap_text members activity decision step =
    row_text 104 whole members ++ (row_text 97 bits (map (to_bits binary64) activity) ++ (row_text 111 switch decision ++ row_text 119 bits (to_bits binary64 step.inc ∷ to_bits binary64 step.decay ∷ [])))

-- the text, of what is written of the slices
unfoldable pub session_text : (n : ℕ) (lits ends levels reasons trail : List ℕ) (activity : List Float) (heap decision : List ℕ) → HeapState → List ℕ
session_text n lits ends levels reasons trail activity heap decision s =
    front_text n vsids_text lits ends (take s.trail.len trail) levels reasons s.trail.curr_i ++ heap_text (take s.vsids.len heap) activity decision s.vsids.step

-- that of a session is the text of what it saves
pub session_text_lem : (n : ℕ) (lits ends values levels reasons trail opened : List ℕ) (activity : List Float) (heap indices decision : List ℕ) (s : HeapState)
    → text_of (saved_heap n lits ends (trail_of values levels reasons trail opened s.trail) (vsids_of activity heap indices decision s.vsids)) ≡ session_text n lits ends levels reasons trail activity heap decision s
unfolding session_text heap_text mode_text
session_text_lem n lits ends values levels reasons trail opened activity heap indices decision s =
    let t = trail_of values levels reasons trail opened s.trail in
    let h = vsids_of activity heap indices decision s.vsids in
    let front = front_text n vsids_text lits ends (codes_of t) levels reasons t.curr in
    text_pieces vsids n lits ends t (heap_rows h)
    ∙ ap (λ (l : List ℕ). front ++ l)
    (four_lines (any_of 104 whole) (form 97 bits n) (form 111 switch n) (form 119 bits 2)
    (take h.len heap) (map (to_bits binary64) activity) decision (to_bits binary64 h.step.inc ∷ to_bits binary64 h.step.decay ∷ []))

-- ---- the numbers of the heap's lines
pub record HeapLines (n : ℕ) (members : List ℕ) (activity : List Float) (decision : List ℕ) (step : Step) : Type 0 where
  pub small : n ≤ max_vars
  pub few : length members ≤ n
  pub members_fit : Each Whole members
  pub activity_long : length activity ≡ n
  pub numbers : (v : ℕ) → v < length activity → T (not (is_nan (get_or activity v nan)))
  pub activity_fit : Each (Fits bits) (map (to_bits binary64) activity)
  pub decision_long : length decision ≡ n
  pub switches_fit : Each (Fits switch) decision
  pub inc_number : T (not (is_nan step.inc))
  pub decay_number : T (not (is_nan step.decay))
  pub step_fits : Each (Fits bits) (to_bits binary64 step.inc ∷ to_bits binary64 step.decay ∷ [])

heap_lines : {n : ℕ} {values : List ℕ} {h : Vsids} → GoodHeap n values h → DoubleStep h → n ≤ max_vars → HeapLines n (take h.len h.heap) h.activity h.decision h.step
unfolding Rows
heap_lines {n} {values} {h} g double small =
    let rows = heap_formed g double in
    record {
      small = small;
      few = omega (arith, members_length g, g.inverse.room.fits);
      members_fit = rows.0.1;
      activity_long = g.scores.long;
      numbers = λ v b. upright_no (g.scores.bounded v (omega (arith, g.scores.long))).sound;
      activity_fit = rows.1.0.1;
      decision_long = g.switches;
      switches_fit = rows.1.1.0.1;
      inc_number = upright_no g.scores.step.inc.sound;
      decay_number = above_no _ h.step.decay g.scores.step.decay.low;
      step_fits = rows.1.1.1.0.1;
    }

-- what is written of the slices: clauses, trail and heap
pub record Lines (n : ℕ) (lits ends levels reasons trail : List ℕ) (activity : List Float) (heap decision : List ℕ) (s : HeapState) : Type 0 where
  pub shape : GoodShape lits ends
  pub clauses_fit : Each (Row clause_form) (clauses lits ends)
  pub len_in : s.trail.len ≤ n
  pub trail_long : length trail ≡ n
  pub on_trail : TrailLines (take s.trail.len trail) levels reasons
  pub members_in : s.vsids.len ≤ n
  pub heap_long : length heap ≡ n
  pub in_heap_lem : HeapLines n (take s.vsids.len heap) activity decision s.vsids.step
  pub short : length (session_text n lits ends levels reasons trail activity heap decision s) ≤ longest n (length ends) (length lits)

pub session_lines : {n : ℕ} {lits ends values levels reasons trail opened : List ℕ} {activity : List Float} {heap indices decision : List ℕ} {s : HeapState}
    → Savable n (lits, ends, trail_of values levels reasons trail opened s.trail, vsids_of activity heap indices decision s.vsids) → Lines n lits ends levels reasons trail activity heap decision s
session_lines {n} {lits} {ends} {values} {levels} {reasons} {trail} {opened} {activity} {heap} {indices} {decision} {s} (g, double) =
    let few : length ends ≤ NONE = omega (arith, g.clauses.list.few_clauses) in
    record {
      shape = g.clauses.list;
      clauses_fit = clauses_formed g.clauses g.small;
      len_in = g.trail.len_in;
      trail_long = g.trail.lengths.trail_long;
      on_trail = trail_lines g.trail g.small few;
      members_in = g.heap.inverse.room.fits;
      heap_long = g.heap.inverse.room.heap_long;
      in_heap_lem = heap_lines g.heap double g.small;
      short = rw (session_text_lem n lits ends values levels reasons trail opened activity heap indices decision s) at
          (text_length n lits ends (trail_of values levels reasons trail opened s.trail) (vsids_of activity heap indices decision s.vsids) (g, double));
    }

-- both of a session that is looked at
abbrev pub state_seen : HeapView → HeapState
state_seen v = record { trail = v.trail.at; vsids = v.vsids.at }

abbrev pub text_seen : ℕ → List ℕ → List ℕ → HeapView → List ℕ
text_seen n lits ends v = session_text n lits ends v.trail.levels.now v.trail.reasons.now v.trail.codes.now v.vsids.activity.now v.vsids.heap.now v.vsids.decision.now (state_seen v)

abbrev pub LinesSeen : ℕ → List ℕ → List ℕ → HeapView → Type 0
LinesSeen n lits ends v = Lines n lits ends v.trail.levels.now v.trail.reasons.now v.trail.codes.now v.vsids.activity.now v.vsids.heap.now v.vsids.decision.now (state_seen v)

-- Memory that was lent and not refused is a session that can be written, as its types say of its doubles.
pub lent_savable : (n m : ℕ) (lits : List ℕ) (literals : ℕ) (ends : List ℕ) (s : Session n m (heap_ops n lits ends))
    → 0 ≡ state_refusal n (lengths_ok n m (heap_mode n m lits ends) lits literals ends s true) (clauses_ok n lits ends) (state_ok m s.trail s.chooser) → Doubles s.chooser → DoubleStep s.chooser
    → Savable n (lits, ends, s.trail, s.chooser)
unfolding lent-sound
lent_savable n m lits literals ends s none doubles wide =
    let g = (passed_good n m (heap_mode n m lits ends) lits literals ends (lent-sound n m lits ends) true s doubles none).0 in
    (subst (λ (k : ℕ). GoodSession n k lits ends s.trail s.chooser) (sym g.founded.stated) g.session, wide)
