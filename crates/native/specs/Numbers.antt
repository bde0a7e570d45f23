-- The small states in the numbers that a host lends.
use Rattle.std.specs.Prelude.{◌≡◌}
use Rattle.heap_session.specs.declared.HeapState.{HeapState}
use Rattle.list_session.specs.declared.ListState.{ListState}
use Rattle.native.specs.Small.{heap_state, list_state}
use Rattle.native.specs.declared.small.HeapNumbers.{HeapNumbers}
use Rattle.native.specs.declared.small.ListNumbers.{ListNumbers}

abbrev pub heap_in : HeapNumbers → HeapState
heap_in x = heap_state x.len.now x.level.now x.curr_i.now x.members.now x.inc.now x.decay.now

abbrev pub list_in : ListNumbers → ListState
list_in x = list_state x.len.now x.level.now x.curr_i.now x.start.now x.search.now x.timestamp.now

-- the same numbers are lent
abbrev pub SameHeap : HeapNumbers → HeapNumbers → Type 0
SameHeap a b =
    (a.len.ghost_name ≡ b.len.ghost_name) × (a.level.ghost_name ≡ b.level.ghost_name) × (a.curr_i.ghost_name ≡ b.curr_i.ghost_name)
    × (a.members.ghost_name ≡ b.members.ghost_name) × (a.inc.ghost_name ≡ b.inc.ghost_name) × (a.decay.ghost_name ≡ b.decay.ghost_name)

abbrev pub SameList : ListNumbers → ListNumbers → Type 0
SameList a b =
    (a.len.ghost_name ≡ b.len.ghost_name) × (a.level.ghost_name ≡ b.level.ghost_name) × (a.curr_i.ghost_name ≡ b.curr_i.ghost_name)
    × (a.start.ghost_name ≡ b.start.ghost_name) × (a.search.ghost_name ≡ b.search.ghost_name) × (a.timestamp.ghost_name ≡ b.timestamp.ghost_name)
