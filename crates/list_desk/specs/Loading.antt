-- A saved session in list mode, loaded into the fronts of slices: what it says, or that the text says none. Assumes nothing.
use Rattle.std.specs.Prelude.{ℕ, ◌≡◌, refl, true, List, take, Some, None, is_ok}
use Rattle.std.specs.Prelude as code
use Rattle.std.proofs.Math.Option.{Option, none, some}
use Rattle.std.proofs.Common.{arith}
use Rattle.lit.specs.Numbers.{bad_saved}
use Rattle.trail.specs.Memory.{trail_of}
use Rattle.vmtf.specs.Vmtf.{vmtf_of}
use Rattle.book.specs.Session.{refuse}
use Rattle.forms.specs.Forms.{vmtf}
use Rattle.saved_text.specs.Saved.{Saved}
use Rattle.saved_text.specs.Reading.{read_text}
use Rattle.saved_text.specs.Form.{OpensWith, opened}
use Rattle.list_session.specs.declared.ListState.{ListState}
use Rattle.saved_state.specs.declared.judging.Loaded.{Loaded}
use Rattle.saved_state.specs.Judging.{clauses_fit}
use Rattle.list_saved.specs.Reader.{list_reader}
use Rattle.list_saved.specs.Loading as reader
use Rattle.list_saved.specs.Reading.{loaded_some}
use Rattle.sheet.specs.Running.{Holds}
use Rattle.saved_sheet.specs.Sheets.{held_said, held_in}
use Rattle.saved_run.specs.Carried.{Loads, held_none, held_some, loads_some}

-- what the text says, where it says a session
abbrev pub ListLoaded : Saved → ℕ → Loaded ListState → (lits ends values levels reasons trail opened next prev ts : List ℕ) → Type 0
ListLoaded s n l lits ends values levels reasons trail levelled next prev ts =
    Loads list_reader s n l.literals l.clauses (clauses_fit l.state) (is_ok l.state) lits ends (trail_of (take n values) (take n levels) (take n reasons) (take n trail) (take n levelled) (reader.state_in l.state).trail)
    (vmtf_of (take n next) (take n prev) (take n ts) (reader.state_in l.state).vmtf)

-- What was loaded of the text `old`, which opens n variables, into slices that hold its clause list.
pub record Text (old : List ℕ) (at n : ℕ) (x : code.Option (Loaded ListState)) (lits ends values levels reasons trail levelled : List ℕ) (next prev ts : List ℕ) : Type 0 where
  pub opens : OpensWith old at (opened n true)
  pub holds : Holds old lits ends
  pub loads : reader.Loads (read_text old) x lits ends (take n values) (take n levels) (take n reasons) (take n trail) (take n levelled) (take n next) (take n prev) (take n ts)

module _ {old : List ℕ} {at n : ℕ} {x : code.Option (Loaded ListState)} {lits ends values levels reasons trail levelled : List ℕ} {next prev ts : List ℕ} (t : Text old at n x lits ends values levels reasons trail levelled next prev ts) where
  -- no session
  pub said_none : x ≡ None → held_in old ≡ refuse bad_saved
  said_none e = held_none old (go (read_text old) (rw e at t.loads))
    where
      go : (o : Option Saved) → reader.Loads o None lits ends (take n values) (take n levels) (take n reasons) (take n trail) (take n levelled) (take n next) (take n prev) (take n ts) → o ≡ none
      go none k = refl
      go (some s) (l, same, is) = let z : ◌≡◌ {A = ℕ} 0 1 = cc in absurd (omega arith)

  -- or one
  pub said_some : {l : Loaded ListState} → x ≡ Some l → (s : Saved) × (held_in old ≡ held_said vmtf s) × ListLoaded s n l lits ends values levels reasons trail levelled next prev ts
  said_some {l} e =
      let y = loaded_some t.opens l lits ends (take n values) (take n levels) (take n reasons) (take n trail) (take n levelled) (take n next) (take n prev) (take n ts) (rw e at t.loads) in
      (y.0, held_some old y.0 vmtf y.1 y.2, loads_some old n lits ends list_reader y.0 t.holds y.1 y.2 y.3 y.4)
