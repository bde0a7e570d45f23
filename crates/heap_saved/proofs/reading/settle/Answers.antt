-- `heap_saved::reading::settle` meets its contract: a refusal is the answer; without one the counts are those of the slices, and what is copied is what the text says.
use Prim.Native.Nat.{ℕ, ◌≤◌}
use mathlib.Core.Path.{◌≡◌, sym, ap, ◌∙◌}
use native.Mathlib.Omega.{arith}
use lib.ListN.{length, take}
use Rattle.lit.specs.Numbers.{max_clauses, max_literals}
use Rattle.trail.specs.Memory.{trail_of}
use Rattle.vsids.specs.Vsids.{Vsids, vsids_of}
use Rattle.heap_entry.specs.Entry.{blank}
use Rattle.heap_entry.specs.Checked.{HeapSized}
use Rattle.saved_state.specs.Entry.{Memory}
use Rattle.lit.specs.Refusals.{refusal_above}
use Rattle.heap_saved.specs.Loading.{state_in}
use Rattle.heap_saved.specs.Reader.{memory_of}
use Rattle.heap_saved.specs.Reading.{answers_refused, counts_fit, answers_taken}
use Rattle.heap_saved.proofs.reading.settle.Goals as goal
use Rattle.heap_saved.proofs.reading.settle.Goals.{In-Ok, Start}

-- the memory as lent, with the sizes that it has
abbrev before : (c : Start) → Memory Vsids
before c = let a = c.args in memory_of a.lits.now a.ends.now a.values.now a.levels.now a.reasons.now a.trail.now a.opened.now a.activity.now a.heap.now a.indices.now a.decision.now blank

heap_sized : (c : Start) → HeapSized c.args.n (before c).3
heap_sized c = let m = c.requires.activity_len in record { activity_long = m.0; heap_long = m.1; indices_long = m.2; decision_long = m.3 }

-- unless it is refused, its counts are those of the text
fit : (c : In-Ok) → let a = c.args in (length a.lits.now ≡ a.l.literals) × (length a.ends.now ≡ a.l.clauses) × (a.l.literals ≤ max_literals) × (a.l.clauses ≤ max_clauses)
fit c =
    let a = c.args in
    let x = c.requires.by_index in
    let m = c.requires.activity_len in
    counts_fit x.2 a.l _ _ _ _ _ _ _ _ _ _ _ x.3 (memory_of a.lits.now a.ends.now a.values.now a.levels.now a.reasons.now a.trail.now a.opened.now a.activity.now a.heap.now a.indices.now a.decision.now blank)
    c.requires.lengths (record { activity_long = m.0; heap_long = m.1; indices_long = m.2; decision_long = m.3 }) (rw c.in-Ok.is at c.verdict.ensures.status)

pub returns-in-Err : goal.returns-in-Err
returns-in-Err c = λ text at w k. rw (c.refuse.ensures, c.blank_state.ensures, c.number.ensures) (answers_refused w c.args.l _ _ _ _ _ _ _ _ _ _ _ k (before (goal.at.returns-in-Err c).Start) c.requires.lengths (heap_sized (goal.at.returns-in-Err c).Start) (rw c.in-Err.is at c.verdict.ensures.status) (λ z. omega (arith, refusal_above c.in-Err.e, z)))

pub copy_clauses-requires : goal.copy_clauses-requires
copy_clauses-requires c = let f = fit (goal.at.copy_clauses-requires c).In-Ok in (c.requires.n_le_max_vars.1 (omega (arith, f.0, f.2)), c.requires.n_le_max_vars.2 (omega (arith, f.1, f.3)))

pub copy_trail-requires : goal.copy_trail-requires
copy_trail-requires c = let p = c.requires.n_in_bounds in let l = c.requires.lengths in (omega (arith, p.0, l.values_long), omega (arith, p.1, l.levels_long), omega (arith, p.2, l.reasons_long), omega (arith, p.3, l.trail_long), omega (arith, p.4, l.opened_long))

pub copy_heap-requires : goal.copy_heap-requires
copy_heap-requires c = let p = c.requires.n_in_bounds_2 in let l = c.requires.activity_len in (omega (arith, p.0, l.0), omega (arith, p.1, l.1), omega (arith, p.2, l.2), omega (arith, p.3, l.3))

pub returns : goal.returns
returns c = λ text at w k. (let a = c.args in
    let f = fit (goal.at.returns c).In-Ok in
    let t = c.copy_trail.ensures in
    let h = c.copy_heap.ensures in
    let l = c.requires.lengths in
    let m = c.requires.activity_len in
    let held : state_in a.l.state ≡ c.in-Ok.state = ap state_in (c.verdict.ensures.state_is c.in-Ok.state c.in-Ok.is) in
    rw (c.accept.ensures, sym held) (answers_taken w a.l _ _ _ _ _ _ _ _ _ _ _ k (before (goal.at.returns c).Start) l (heap_sized (goal.at.returns c).Start) (rw c.in-Ok.is at c.verdict.ensures.status)
    (omega (arith, f.0, c.requires.n_le_max_vars.1 (omega (arith, f.0, f.2)))) (omega (arith, f.1, c.requires.n_le_max_vars.2 (omega (arith, f.1, f.3)))) _
    (c.copy_clauses.ensures.0 ∙ ap (λ (m : ℕ). take m a.own_lits.now) f.0)
    (c.copy_clauses.ensures.1 ∙ ap (λ (m : ℕ). take m a.own_ends.now) f.1)
    (λ j. trail_of ((t.0 ∙ ap (λ (m : ℕ). take m a.own_values.now) l.values_long) j) ((t.1 ∙ ap (λ (m : ℕ). take m a.own_levels.now) l.levels_long) j) ((t.2 ∙ ap (λ (m : ℕ). take m a.own_reasons.now) l.reasons_long) j) ((t.3 ∙ ap (λ (m : ℕ). take m a.own_trail.now) l.trail_long) j) ((t.4 ∙ ap (λ (m : ℕ). take m a.own_opened.now) l.opened_long) j) (state_in a.l.state).trail)
    (λ j. vsids_of ((h.0 ∙ ap (λ (m : ℕ). take m a.own_activity.now) m.0) j) ((h.1 ∙ ap (λ (m : ℕ). take m a.own_heap.now) m.1) j) ((h.2 ∙ ap (λ (m : ℕ). take m a.own_indices.now) m.2) j) ((h.3 ∙ ap (λ (m : ℕ). take m a.own_decision.now) m.3) j) (state_in a.l.state).vsids)))
