-- What the cases are computed with: a proof that says `unfolding definitions` sees every definition named here.
use Rattle.std.specs.Float.Ieee.{of_bits, add, mul, div, lt, le}
use Rattle.laws.specs.Every.{every}
use Rattle.laws.specs.InPlace.{up_to}
use Rattle.util.specs.SortReverse.{pick, greatest, sort_from, sort_reverse}
use Rattle.formula.specs.Clauses.{no_fall_at, ends_ok, list_ok, var_below, vars_below, clauses_ok, clauses_from}
use Rattle.formula.specs.Checks.{differ, new_at, no_duplicates, check_clause_invariant, check_each, check_formula_invariant, check_vars, check_counts, check_formula_invariant_call}
use Rattle.activity.specs.Step.{upright, within}
use Rattle.trail.specs.Trail.{fresh_trail, enq_assignment, enq_decision, backstep, backsteps, close_levels, rewind, backtrack_to, undone, backtrack_safe}
use Rattle.lit.specs.Unused.{unused_ok}
use Rattle.trail_check.specs.Check.{counts_ok, values_ok, reasons_ok, places_ok, held_ok, opened_ok, levels_ok, trail_ok}
use Rattle.heap.specs.Heap as heap
use Rattle.vsids.specs.Vsids as vsids
use Rattle.vsids.specs.Check.{member_ok, place_ok, position_ok, variable_ok, check_heap}
use Rattle.vmtf.specs.Vmtf as vmtf
use Rattle.book.specs.Chooser.{below}
use Rattle.book.specs.Session.{need, fresh, offer_all, went_back, enqueued, tuned, decided, call}
use Rattle.cases.specs.Claim.{play}
use Rattle.cases.specs.Machines.{codes, ends_from}
use Rattle.cases.specs.States.{put}

-- the clause list and the formula check
unfoldable pub formulas : Unit {0}
unfolding codes ends_from every no_fall_at ends_ok list_ok var_below vars_below clauses_ok clauses_from differ new_at no_duplicates check_clause_invariant check_each check_formula_invariant check_vars check_counts check_formula_invariant_call
formulas = tt

-- the calls of a session, and its trail with the check of it
unfoldable pub sessions : Unit {0}
unfolding call need below tuned decided enqueued went_back offer_all fresh
sessions = tt

unfoldable pub trails : Unit {0}
unfolding fresh_trail enq_assignment enq_decision backstep backsteps close_levels rewind backtrack_to backtrack_safe undone counts_ok values_ok reasons_ok unused_ok places_ok held_ok opened_ok levels_ok trail_ok
trails = tt

-- the doubles, the heap's moves, and its chooser with the check of it
unfoldable pub doubles : Unit {0}
unfolding of_bits add mul div lt le upright within
doubles = tt

unfoldable pub heaps : Unit {0}
unfolding up_to heap.comes_first heap.walk heap.rises heap.percolate_up heap.right_first heap.child heap.sinks heap.percolate_down heap.decrease heap.insert heap.drop_first heap.remove_min heap.heapify heap.build
heaps = tt

unfoldable pub heap_modes : Unit {0}
unfolding doubles heaps vsids.new vsids.is_open vsids.remove_first vsids.get_next_of vsids.get_next vsids.add_step vsids.scaled_all vsids.rescale vsids.move_up vsids.bump_variable vsids.turn_off vsids.insert member_ok place_ok position_ok variable_ok check_heap
heap_modes = tt

-- the sorted counts, and the move-to-front list with the check of it
unfoldable pub lists : Unit {0}
unfolding up_to pick greatest sort_from sort_reverse put vmtf.count_lits vmtf.lit_order vmtf.link_from vmtf.make_linked_list vmtf.new vmtf.renumber vmtf.rescore vmtf.relink vmtf.tick vmtf.move_to_front vmtf.move_all vmtf.insert_by_stamp vmtf.by_stamp vmtf.bump_vec_of_vars vmtf.is_open vmtf.from vmtf.first_open vmtf.any_open vmtf.get_next vmtf.stands vmtf.check_row vmtf.check_list
lists = tt

unfoldable pub definitions : Unit {0}
unfolding play formulas sessions trails heap_modes lists
definitions = tt
