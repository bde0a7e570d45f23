-- The text of a session in list mode in the pieces that are written, and what a good session says of the numbers on them. Assumes nothing.
use Rattle.std.specs.Prelude.{ℕ, ◌≤◌, ◌≡◌, true, List, [], ◌∷◌, ◌++◌, map, length, get_or, take}
use Rattle.std.proofs.Common.{sym, ap, subst, ◌∙◌, arith}
use Rattle.laws.specs.Each.{Each}
use Rattle.lit.specs.Numbers.{NONE, max_vars}
use Rattle.formula.specs.Clauses.{clauses, clauses_ok}
use Rattle.formula.specs.Good.{GoodShape}
use Rattle.trail.specs.Memory.{trail_of}
use Rattle.vmtf.specs.declared.VmtfState.{VmtfState}
use Rattle.vmtf.specs.Vmtf.{vmtf_of, from, Ends, Vars}
use Rattle.vmtf.specs.Order.{every_at}
use Rattle.vmtf.specs.Good.{GoodList, order_length, order_is, chain}
use Rattle.book.specs.Session.{Session}
use Rattle.session.specs.Checks.{state_refusal}
use Rattle.session.specs.Mode.{lengths_ok}
use Rattle.session.proofs.Entered.{passed_good}
use Rattle.choosers.specs.List.{list_ops}
use Rattle.list_session.specs.declared.ListState.{ListState}
use Rattle.list_session.specs.declared.ListView.{ListView}
use Rattle.list_session.specs.Good.{GoodSession}
use Rattle.list_session.specs.Check.{state_ok}
use Rattle.list_entry.specs.Entry.{list_mode}
use Rattle.list_entry.specs.Checked.{list_sound as lent-sound}
use Rattle.forms.specs.Letters.{vmtf_text}
use Rattle.forms.specs.Forms.{vmtf}
use Rattle.forms.specs.Spelling.{Whole, mode_text}
use Rattle.saved_text.specs.Saved.{whole, long, reason, Fits, form, clause_form, Row, Rows, text_of}
use Rattle.saved_text.specs.Puts.{row_text}
use Rattle.saved_state.specs.Written.{codes_of, list_rows, saved_list}
use Rattle.saved_state.specs.Judged.{LongStamp}
use Rattle.saved_state.specs.OfClauses.{clauses_formed}
use Rattle.saved_state.specs.OfList.{list_formed}
use Rattle.saved_state.specs.Pieces.{front_text, text_pieces, longest, four_lines, TrailLines, trail_lines}
use Rattle.list_saved.specs.Reader.{Savable}
use Rattle.list_saved.specs.Claims.{text_length}

-- the variables from the front, and their stamps
abbrev pub order_from : List ℕ → VmtfState → List ℕ
order_from next s = from next (length next) s.start

abbrev pub stamps_from : List ℕ → List ℕ → VmtfState → List ℕ
stamps_from next ts s = map (λ v. get_or ts v 0) (order_from next s)

-- the lines of these, of the timestamp, and of where the search starts
unfoldable pub list_text : List ℕ → List ℕ → VmtfState → List ℕ
list_text next ts s = row_text 118 whole (order_from next s) ++ (row_text 115 long (stamps_from next ts s) ++ (row_text 107 long (s.timestamp ∷ []) ++ row_text 102 reason (s.search ∷ [])))

-- the text, of what is written of the slices
unfoldable pub session_text : (n : ℕ) (lits ends levels reasons trail next ts : List ℕ) → ListState → List ℕ
session_text n lits ends levels reasons trail next ts s = front_text n vmtf_text lits ends (take s.trail.len trail) levels reasons s.trail.curr_i ++ list_text next ts s.vmtf

-- that of a session is the text of what it saves
pub session_text_lem : (n : ℕ) (lits ends values levels reasons trail opened next prev ts : List ℕ) (s : ListState)
    → text_of (saved_list n lits ends (trail_of values levels reasons trail opened s.trail) (vmtf_of next prev ts s.vmtf)) ≡ session_text n lits ends levels reasons trail next ts s
unfolding session_text list_text mode_text
session_text_lem n lits ends values levels reasons trail opened next prev ts s =
    let t = trail_of values levels reasons trail opened s.trail in
    let l = vmtf_of next prev ts s.vmtf in
    let front = front_text n vmtf_text lits ends (codes_of t) levels reasons t.curr in
    text_pieces vmtf n lits ends t (list_rows l)
    ∙ ap (λ (u : List ℕ). front ++ u)
    (four_lines (form 118 whole n) (form 115 long n) (form 107 long 1) (form 102 reason 1)
    (order_from next s.vmtf) (stamps_from next ts s.vmtf) (l.timestamp ∷ []) (l.search ∷ []))

-- ---- the numbers of the list's lines
pub record ListLines (n : ℕ) (next ts : List ℕ) (s : VmtfState) : Type 0 where
  pub small : n ≤ max_vars
  pub next_long : length next ≡ n
  pub ends : Ends next s.start
  pub order_long : length (order_from next s) ≡ n
  pub vars : Vars (length ts) (order_from next s)
  pub order_fits : Each Whole (order_from next s)
  pub stamps_fit : Each (Fits long) (stamps_from next ts s)

list_lines : {n : ℕ} {order next prev ts : List ℕ} {s : VmtfState} → GoodList n order (vmtf_of next prev ts s) → LongStamp (vmtf_of next prev ts s) → n ≤ max_vars → ListLines n next ts s
unfolding Rows
list_lines {n} {order} {next} {prev} {ts} {s} g wide small =
    let k = g.linked in
    let rows = list_formed g small wide in
    record {
      small = small;
      next_long = k.next_long;
      ends = record { rest = order; chain = chain k; short = omega (arith, order_length k, k.next_long); small = omega (arith, k.next_long) };
      order_long = ap length (order_is k) ∙ order_length k;
      vars = rw (order_is k, g.ts_long) (λ i h. k.vars (get_or order i 0) (every_at order i h));
      order_fits = rows.0.1;
      stamps_fit = rows.1.0.1;
    }

-- what is written of the slices: clauses, trail and list
pub record Lines (n : ℕ) (lits ends levels reasons trail next ts : List ℕ) (s : ListState) : Type 0 where
  pub shape : GoodShape lits ends
  pub clauses_fit : Each (Row clause_form) (clauses lits ends)
  pub len_in : s.trail.len ≤ n
  pub trail_long : length trail ≡ n
  pub on_trail : TrailLines (take s.trail.len trail) levels reasons
  pub in_list : ListLines n next ts s.vmtf
  pub short : length (session_text n lits ends levels reasons trail next ts s) ≤ longest n (length ends) (length lits)

pub session_lines : {n : ℕ} {lits ends values levels reasons trail opened next prev ts : List ℕ} {s : ListState}
    → Savable n (lits, ends, trail_of values levels reasons trail opened s.trail, vmtf_of next prev ts s.vmtf) → Lines n lits ends levels reasons trail next ts s
session_lines {n} {lits} {ends} {values} {levels} {reasons} {trail} {opened} {next} {prev} {ts} {s} (cs, g, wide) =
    let few : length ends ≤ NONE = omega (arith, cs.list.few_clauses) in
    record {
      shape = cs.list;
      clauses_fit = clauses_formed cs g.small;
      len_in = g.trail.len_in;
      trail_long = g.trail.lengths.trail_long;
      on_trail = trail_lines g.trail g.small few;
      in_list = list_lines g.list.1 wide g.small;
      short = rw (session_text_lem n lits ends values levels reasons trail opened next prev ts s) at
          (text_length n lits ends (trail_of values levels reasons trail opened s.trail) (vmtf_of next prev ts s.vmtf) (cs, g, wide));
    }

-- both of a session that is looked at
abbrev pub state_seen : ListView → ListState
state_seen v = record { trail = v.trail.at; vmtf = v.vmtf.at }

abbrev pub text_seen : ℕ → List ℕ → List ℕ → ListView → List ℕ
text_seen n lits ends v = session_text n lits ends v.trail.levels.now v.trail.reasons.now v.trail.codes.now v.vmtf.next.now v.vmtf.ts.now (state_seen v)

abbrev pub LinesSeen : ℕ → List ℕ → List ℕ → ListView → Type 0
LinesSeen n lits ends v = Lines n lits ends v.trail.levels.now v.trail.reasons.now v.trail.codes.now v.vmtf.next.now v.vmtf.ts.now (state_seen v)

-- Memory that was lent and not refused is a session that can be written, as its types say of its timestamp.
pub lent_savable : (n m : ℕ) (lits : List ℕ) (literals : ℕ) (ends : List ℕ) (s : Session n m (list_ops n lits))
    → 0 ≡ state_refusal n (lengths_ok n m (list_mode n m lits) lits literals ends s true) (clauses_ok n lits ends) (state_ok m s.trail s.chooser) → LongStamp s.chooser
    → Savable n (lits, ends, s.trail, s.chooser)
unfolding lent-sound
lent_savable n m lits literals ends s none wide =
    let g = (passed_good n m (list_mode n m lits) lits literals ends (lent-sound n m lits ends) true s tt none).0 in
    (g.founded.clauses, subst (λ (k : ℕ). GoodSession n k s.trail s.chooser) (sym g.founded.stated) g.session, wide)
