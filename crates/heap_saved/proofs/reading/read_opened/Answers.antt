-- `heap_saved::reading::read_opened` meets its contract: by its tests.
use mathlib.Core.Path.{◌≡◌, sym, ap, ◌∙◌}
use mathlib.Core.Bool.{Bool, true, false, ◌&&◌}
use lib.ListN.{length}
use Rattle.vsids.specs.Vsids.{Vsids}
use Rattle.session.specs.Mode.{trail_lengths}
use Rattle.session.specs.Sizes.{trail_sized}
use Rattle.heap_entry.specs.Entry.{blank, heap_lengths}
use Rattle.heap_entry.specs.Checked.{heap_sized}
use Rattle.saved_state.specs.Entry.{Memory}
use Rattle.heap_saved.specs.Reader.{memory_of}
use Rattle.heap_saved.specs.Reading.{answers_many, answers_unlike}
use Rattle.heap_saved.proofs.reading.read_opened.Goals as goal
use Rattle.heap_saved.proofs.reading.read_opened.Goals.{Start}

-- the memory as lent
abbrev before : (c : Start) → Memory Vsids
before c = let a = c.args in memory_of a.lits.now a.ends.now a.values.now a.levels.now a.reasons.now a.trail.now a.opened.now a.activity.now a.heap.now a.indices.now a.decision.now blank

pub returns-then-n-gt-MAX_VARS : goal.returns-then-n-gt-MAX_VARS
returns-then-n-gt-MAX_VARS c = rw (c.refuse.ensures, c.blank_state.ensures) (answers_many c.requires (before (goal.at.returns-then-n-gt-MAX_VARS c).Start) c.if-n-gt-MAX_VARS.true (c.number.ensures ∙ c.form_or.ensures))

pub returns-then-not-trail_lengths : goal.returns-then-not-trail_lengths
returns-then-not-trail_lengths c = let e : trail_lengths c.args.n (before (goal.at.returns-then-not-trail_lengths c).Start).2 ≡ false = sym c.trail_lengths.ensures ∙ c.if-not-trail_lengths.true in rw (c.refuse-then-not-trail_lengths.ensures, c.blank_state-then-not-trail_lengths.ensures) (answers_unlike c.requires (before (goal.at.returns-then-not-trail_lengths c).Start) c.if-n-gt-MAX_VARS.false (λ b. ap (λ (x : Bool). x && (heap_lengths c.args.n (before (goal.at.returns-then-not-trail_lengths c).Start).3 && b)) e) (c.number-then-not-trail_lengths.ensures ∙ c.form_or-then-not-trail_lengths.ensures))

pub returns-then-not-heap_lengths : goal.returns-then-not-heap_lengths
returns-then-not-heap_lengths c = let d : trail_lengths c.args.n (before (goal.at.returns-then-not-heap_lengths c).Start).2 ≡ true = sym c.trail_lengths.ensures ∙ c.if-not-trail_lengths.false in let e : heap_lengths c.args.n (before (goal.at.returns-then-not-heap_lengths c).Start).3 ≡ false = sym c.heap_lengths.ensures ∙ c.if-not-heap_lengths.true in rw (c.refuse-then-not-heap_lengths.ensures, c.blank_state-then-not-heap_lengths.ensures) (answers_unlike c.requires (before (goal.at.returns-then-not-heap_lengths c).Start) c.if-n-gt-MAX_VARS.false (λ b. ap (λ (x : Bool). x && (heap_lengths c.args.n (before (goal.at.returns-then-not-heap_lengths c).Start).3 && b)) d ∙ ap (λ (x : Bool). x && b) e) (c.number-then-not-heap_lengths.ensures ∙ c.form_or-then-not-heap_lengths.ensures))

-- the heap's lists are as long as the text's
heap_as_long : (c : Start) → heap_lengths c.args.n (before c).3 ≡ true → (length c.args.activity.now ≡ c.args.n) × (length c.args.heap.now ≡ c.args.n) × (length c.args.indices.now ≡ c.args.n) × (length c.args.decision.now ≡ c.args.n)
heap_as_long c e = let h = heap_sized c.args.n (before c).3 e in (h.activity_long, h.heap_long, h.indices_long, h.decision_long)

pub read_in-requires-clause-lengths : goal.read_in-requires-clause-lengths
read_in-requires-clause-lengths c = trail_sized c.args.n (before (goal.at.read_in-requires-clause-lengths c).Start).2 (sym c.trail_lengths.ensures ∙ c.if-not-trail_lengths.false)

pub read_in-requires-clause-activity_len : goal.read_in-requires-clause-activity_len
read_in-requires-clause-activity_len c = heap_as_long (goal.at.read_in-requires-clause-activity_len c).Start (sym c.heap_lengths.ensures ∙ c.if-not-heap_lengths.false)

pub read_in-requires-then-ends-le-MORE_CLAUSES-clause-lengths : goal.read_in-requires-then-ends-le-MORE_CLAUSES-clause-lengths
read_in-requires-then-ends-le-MORE_CLAUSES-clause-lengths c = trail_sized c.args.n (before (goal.at.read_in-requires-then-ends-le-MORE_CLAUSES-clause-lengths c).Start).2 (sym c.trail_lengths.ensures ∙ c.if-not-trail_lengths.false)

pub read_in-requires-then-ends-le-MORE_CLAUSES-clause-activity_len : goal.read_in-requires-then-ends-le-MORE_CLAUSES-clause-activity_len
read_in-requires-then-ends-le-MORE_CLAUSES-clause-activity_len c = heap_as_long (goal.at.read_in-requires-then-ends-le-MORE_CLAUSES-clause-activity_len c).Start (sym c.heap_lengths.ensures ∙ c.if-not-heap_lengths.false)

pub read_in-requires-2-clause-lengths : goal.read_in-requires-2-clause-lengths
read_in-requires-2-clause-lengths c = trail_sized c.args.n (before (goal.at.read_in-requires-2-clause-lengths c).Start).2 (sym c.trail_lengths.ensures ∙ c.if-not-trail_lengths.false)

pub read_in-requires-2-clause-activity_len : goal.read_in-requires-2-clause-activity_len
read_in-requires-2-clause-activity_len c = heap_as_long (goal.at.read_in-requires-2-clause-activity_len c).Start (sym c.heap_lengths.ensures ∙ c.if-not-heap_lengths.false)
