-- The end of a run that saves a session in list mode, and its fresh session. Assumes nothing.
use Rattle.std.specs.Prelude.{ℕ, ◌≤◌, ◌≡◌, List, length}
use Rattle.std.proofs.Common.{sym, ap, subst, ◌∙◌, arith}
use Rattle.lit.specs.Numbers.{max_vars}
use Rattle.formula.specs.Good.{GoodClauses}
use Rattle.trail.specs.Trail.{Trail, fresh_trail}
use Rattle.trail.specs.Memory.{trail_of}
use Rattle.vmtf.specs.Vmtf as vmtf-of
use Rattle.vmtf.specs.Vmtf.{Vmtf, max_stamp, vmtf_of}
use Rattle.vmtf.specs.Fresh.{new_is}
use Rattle.choosers.specs.List.{list_ops}
use Rattle.book.specs.Session.{Session, fresh}
use Rattle.list_session.specs.declared.ListState.{ListState}
use Rattle.list_session.specs.Good as list_good
use Rattle.list_session.specs.Memory as list-memory
use Rattle.list_session.specs.Kept.{fresh_good_session}
use Rattle.forms.specs.Written.{Wrote}
use Rattle.list_saved.specs.Reader.{Savable}
use Rattle.saved_text.specs.Puts.{farthest}
use Rattle.list_saved.specs.Pieces as list-pieces
use Rattle.forms.specs.Forms.{vmtf}
use Rattle.sheet.specs.declared.Place.{Place}
use Rattle.sheet.specs.Stages.{in_list, opened}
use Rattle.sheet.proofs.SessionLines.{along_over, along_last}
use Rattle.list_sheet.specs.Lines.{ListAlong}
use Rattle.saved_sheet.specs.Sheets.{text_room}
use Rattle.saved_run.specs.declared.Both.{Both}
use Rattle.saved_run.specs.Ends.{stage_text, Saves}

-- there is room for the text, and it is that of the session behind the lines
module _ {n : ℕ} {lits ends values levels reasons trail opened next prev ts : List ℕ} {u : ListState} where
  pub list_fits : (text : List ℕ) → GoodClauses n lits ends → list_good.GoodSession n (length ends) (trail_of values levels reasons trail opened u.trail) (vmtf_of next prev ts u.vmtf)
      → u.vmtf.timestamp ≤ max_stamp → text_room n (length ends) (length lits) ≤ length text
      → list-pieces.Lines n lits ends levels reasons trail next ts u × (length (list-pieces.session_text n lits ends levels reasons trail next ts u) ≤ length text)
      × (length (list-pieces.session_text n lits ends levels reasons trail next ts u) ≤ farthest)
  list_fits text cs g wide room =
      let l = list-pieces.session_lines {opened = opened} {prev = prev} (cs, g, wide) in
      (l, omega (arith, l.short, room), omega (arith, l.short, l.shape.few_clauses, l.shape.few_literals_lem, g.small))

  module _ {sheet : List ℕ} {p q : Place} {s : Session n (length ends) (list_ops n lits)} {out out' text text' : List ℕ} {k : ℕ} where
    pub list_saves : ListAlong n lits ends sheet p s out q (list-memory.session_of n (length ends) lits values levels reasons trail opened next prev ts u) out' → q.left ≡ 0
        → Wrote 0 (list-pieces.session_text n lits ends levels reasons trail next ts u) text text' k → Saves sheet p (in_list n lits ends s) out text (record { answers = q.at; text = k }) out' text'
    list_saves a over w = record {
      answers = along_over a over;
      saved = subst (λ (t : List ℕ). Wrote 0 t text text' k)
          (sym (list-pieces.session_text_lem n lits ends values levels reasons trail opened next prev ts u) ∙ ap stage_text (along_last a over)) w;
    }

-- a session made fresh over a good clause list has a text
pub list_fresh : {n : ℕ} (lits ends : List ℕ) {t : Trail} {l : Vmtf} → t ≡ fresh_trail n → l ≡ vmtf-of.new n lits → n ≤ max_vars → GoodClauses n lits ends → Savable n (lits, ends, t, l)
unfolding fresh
list_fresh {n} lits ends et el small clauses = rw (et, el) (clauses, fresh_good_session n (length ends) lits small, omega (arith, (new_is n lits (omega arith)).1))

-- and it is the stage that opens in list mode
pub list_started : {n : ℕ} (lits ends : List ℕ) {t : Trail} {l : Vmtf} {sheet out text out' text' : List ℕ} {p : Place} {b : Both} → t ≡ fresh_trail n → l ≡ vmtf-of.new n lits
    → Saves sheet p (in_list n lits ends (record { trail = t; chooser = l })) out text b out' text' → Saves sheet p (opened vmtf n lits ends) out text b out' text'
unfolding fresh
list_started lits ends et el s = rw (et, el) at s
