-- What reading a line gives, as code has it.
use Rattle.std.specs.Prelude.{◌≡◌, ℕ, ◌*◌, ◌≤◌, List, [], length, take, drop, Some, None}
use Rattle.std.specs.Prelude as code
use Rattle.std.proofs.Math.Option.{Option, none, some}
use Rattle.lit.specs.Numbers.{max_group}
use Rattle.session.specs.Calls.{call_of}
use Rattle.book.specs.Calls.{Call, bump, insert, switch_off, decide, learn_unit, go_back, bump_reason, group}
use Rattle.session.specs.declared.Call as calls
use Rattle.forms.specs.declared.Asked as asked
use Rattle.forms.specs.declared.Asked.TheVariants as an_asked
use Rattle.forms.specs.declared.Mode as mode
use Rattle.forms.specs.declared.Mode.TheVariants as a_mode
use Rattle.forms.specs.declared.Opening as opening
use Rattle.forms.specs.Forms.{Kind, bumps, decays, sets_decay, inserts, switches_off, decides, enqueues, learns_unit, goes_back, bumps_reason, moves_group, is_clause, is_first, is_other, Mode, vsids, vmtf, Opening, given, group_in, call_in}
use Rattle.forms.specs.Behind.{behind}

-- the group behind a line's letter
abbrev pub group_on : List ℕ → Option Call
group_on line = given (behind (drop 1 line)) group_in

-- the call that was read
abbrev pub call_read : code.Option calls.Call → Option Call
call_read None = none
call_read (Some c) = some (call_of c [])

-- the call that is asked for, where a group is this one: its variables are still to be read
abbrev pub asked_call : Option Call → code.Option asked.Asked → Option Call
asked_call g None = none
asked_call g (Some (an_asked.Is c)) = some (call_of c [])
asked_call g (Some an_asked.Group) = g

-- What was read is the call that the line is, if it is one.
pub record CallRead (line : List ℕ) (r : code.Option asked.Asked) : Type 0 where
  pub is : asked_call (group_on line) r ≡ call_in line

-- the group that was read, with its variables in front in vars
abbrev pub group_read : code.Option ℕ → List ℕ → Option Call
group_read None vars = none
group_read (Some k) vars = some (group (take k vars))

-- how many variables it has
abbrev pub group_count : code.Option ℕ → ℕ
group_count None = 0
group_count (Some k) = k

-- What was read is the group behind the line's letter, if one is there, and its variables stand in vars and are not too many.
pub record GroupRead (line : List ℕ) (r : code.Option ℕ) (vars : List ℕ) : Type 0 where
  pub is : group_read r vars ≡ group_on line
  pub within : group_count r ≤ length vars
  pub few : group_count r ≤ max_group

-- Any group that a line has room for fits in vars: a variable takes two bytes at least.
pub record Fits (line vars : List ℕ) : Type 0 where
  pub fits : (k : ℕ) → k ≤ max_group → 2 * k ≤ length line → k ≤ length vars

-- the call of a kind that takes one whole number
abbrev pub numbered : Kind → ℕ → Option Call
numbered bumps v = some (bump v)
numbered inserts v = some (insert v)
numbered switches_off v = some (switch_off v)
numbered decides v = some (decide v)
numbered learns_unit v = some (learn_unit v)
numbered goes_back v = some (go_back v)
numbered bumps_reason v = some (bump_reason v)
numbered decays v = none
numbered sets_decay v = none
numbered enqueues v = none
numbered moves_group v = none
numbered is_clause v = none
numbered is_first v = none
numbered is_other v = none

-- The numbers, if the line has their form, were counted; they stand in front in out if it has room for them all.
abbrev pub Counted : Option (List ℕ) → code.Option ℕ → List ℕ → Type 0
Counted none r out = r ≡ None
Counted (some ns) r out = (r ≡ Some (length ns)) × (length ns ≤ length out → take (length ns) out ≡ ns)

-- a mode, and what a first line opens, as code has them
abbrev pub mode_of : Mode → mode.Mode
mode_of vsids = a_mode.Heap
mode_of vmtf = a_mode.List

abbrev pub first_of : Option Opening → code.Option opening.Opening
first_of none = None
first_of (some o) = Some (record { mode = mode_of o.mode; vars = o.vars })
