-- A session made fresh at the end of the clause lines, as code holds it: it is good, it passes its check, and it is the stage that the next line meets. Assumes nothing.
use Rattle.std.specs.Prelude.{ℕ, ◌≤◌, ◌≡◌, true, List, length, replicate}
use Rattle.std.proofs.Common.{arith}
use Rattle.std.proofs.lemmas.List.{length-replicate}
use Rattle.lit.specs.Numbers.{NONE, unassigned, max_vars}
use Rattle.formula.specs.Good.{GoodClauses}
use Rattle.trail.specs.Trail.{Trail, fresh_trail}
use Rattle.vmtf.specs.Vmtf.{Vmtf, Literals, new}
use Rattle.book.specs.Session.{fresh}
use Rattle.list_session.specs.Good.{GoodSession}
use Rattle.list_session.specs.Kept.{fresh_good_session}
use Rattle.list_session.specs.Check.{state_ok}
use Rattle.list_entry.specs.Checked.{good_sized, state_right}
use Rattle.forms.specs.Forms.{vmtf}
use Rattle.sheet.specs.declared.Place.{Place}
use Rattle.sheet.specs.Stages.{in_list, opened}
use Rattle.sheet.specs.Running.{Ended}

-- arrays with room for n variables
pub record RoomIn (n : ℕ) (values levels reasons trail opened next prev ts : List ℕ) : Type 0 where
  pub values_room : n ≤ length values
  pub levels_room : n ≤ length levels
  pub reasons_room : n ≤ length reasons
  pub trail_room : n ≤ length trail
  pub opened_room : n ≤ length opened
  pub next_room : n ≤ length next
  pub prev_room : n ≤ length prev
  pub ts_room : n ≤ length ts

pub room_in : {n : ℕ} (m : ℕ) → n ≤ m → RoomIn n (replicate m unassigned) (replicate m NONE) (replicate m NONE) (replicate m NONE) (replicate m NONE) (replicate m NONE) (replicate m NONE) (replicate m 0)
room_in m l = record {
  values_room = rw (length-replicate m unassigned) l;
  levels_room = rw (length-replicate m NONE) l;
  reasons_room = rw (length-replicate m NONE) l;
  trail_room = rw (length-replicate m NONE) l;
  opened_room = rw (length-replicate m NONE) l;
  next_room = rw (length-replicate m NONE) l;
  prev_room = rw (length-replicate m NONE) l;
  ts_room = rw (length-replicate {A = ℕ} m 0) l;
}

-- the literals of a good clause list are what creation needs
pub clause_literals : {n : ℕ} {lits ends : List ℕ} → GoodClauses n lits ends → Literals n lits
clause_literals g = record { few = omega (arith, g.list.few_literals_lem); vars = g.below }

module _ {n : ℕ} (lits : List ℕ) (small : n ≤ max_vars) {t : Trail} {l : Vmtf} (et : t ≡ fresh_trail n) (el : l ≡ new n lits) where
  pub started_good : (m : ℕ) → GoodSession n m t l
  unfolding fresh
  started_good m = rw (et, el) (fresh_good_session n m lits small)

  pub started_passes : (m : ℕ) → state_ok m t l ≡ true
  started_passes m =
      let g = started_good m in
      (state_right n m t l small g.trail.lengths (good_sized g)).1 g

  pub started_ended : (ends : List ℕ) {sheet out out' : List ℕ} {p : Place} {r : ℕ} → Ended sheet p (in_list n lits ends (record { trail = t; chooser = l })) out r out' → Ended sheet p (opened vmtf n lits ends) out r out'
  unfolding fresh
  started_ended ends e = rw (et, el) at e
