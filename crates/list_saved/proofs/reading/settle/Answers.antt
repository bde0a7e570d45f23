-- `list_saved::reading::settle` meets its contract: a refusal is the answer, and without one the lent slices have the lengths that were loaded, and take them.
use Prim.Native.Nat.{ℕ, ◌≤◌}
use Rattle.lit.specs.Numbers.{NONE, max_literals, max_clauses}
use Rattle.list_entry.specs.Entry.{blank}
use Rattle.lit.specs.Refusals.{refusal_above}
use Rattle.list_saved.specs.Loading.{state_in}
use Rattle.list_saved.specs.Reader.{list_reader, memory_of}
use Rattle.list_saved.specs.Reading.{answers_refused, counts_fit, answers_taken}
use Rattle.list_session.specs.Memory.{answer}
use Rattle.list_session.specs.declared.ListAnswer.{ListAnswer}
use Rattle.list_session.specs.declared.ListState.{ListState}
use Rattle.saved_state.specs.Entry.{read}
use Rattle.session.specs.Entry.{Answered}
use Rattle.trail.specs.Memory.{trail_of}
use Rattle.vmtf.specs.Vmtf.{vmtf_of}
use lib.ListN.{length, take}
use mathlib.Core.Path.{◌≡◌, sym, ap, subst, ◌∙◌}
use native.Mathlib.Omega.{arith}
use Rattle.list_saved.proofs.reading.settle.Goals as goal
use Rattle.list_saved.proofs.reading.settle.Goals.{In-Ok}

-- without a refusal the counts are those of the slices
fits : (c : In-Ok) → let a = c.args in (length a.lits.now ≡ a.l.literals) × (length a.ends.now ≡ a.l.clauses) × (a.l.literals ≤ max_literals) × (a.l.clauses ≤ max_clauses)
fits c =
    let a = c.args in
    let x = c.requires.by_index in
    let before = memory_of a.lits.now a.ends.now a.values.now a.levels.now a.reasons.now a.trail.now a.opened.now a.next.now a.prev.now a.ts.now blank in
    counts_fit x.2 a.l a.own_lits.now a.own_ends.now (take a.n a.own_values.now) (take a.n a.own_levels.now) (take a.n a.own_reasons.now) (take a.n a.own_trail.now) (take a.n a.own_opened.now) (take a.n a.own_next.now) (take a.n a.own_prev.now) (take a.n a.own_ts.now) x.3 before c.requires.lengths (record { next_long = c.requires.next_len.0; prev_long = c.requires.next_len.1; ts_long = c.requires.next_len.2 }) (rw c.in-Ok.is at c.verdict.ensures.status)

pub verdict-requires : goal.verdict-requires
verdict-requires c = c.requires.n_le_max_vars.0

pub returns-in-Err : goal.returns-in-Err
returns-in-Err c text at w k =
    let a = c.args in
    let before = memory_of a.lits.now a.ends.now a.values.now a.levels.now a.reasons.now a.trail.now a.opened.now a.next.now a.prev.now a.ts.now blank in
    rw (c.refuse.ensures, c.blank_state.ensures, c.number.ensures) (answers_refused w a.l _ _ _ _ _ _ _ _ _ _ k before c.requires.lengths (record { next_long = c.requires.next_len.0; prev_long = c.requires.next_len.1; ts_long = c.requires.next_len.2 }) (rw c.in-Err.is at c.verdict.ensures.status) (λ z. omega (arith, refusal_above c.in-Err.e, z)))

pub copy_clauses-requires : goal.copy_clauses-requires
copy_clauses-requires c =
    let f = fits (goal.at.copy_clauses-requires c).In-Ok in
    (c.requires.n_le_max_vars.1 (omega (arith, f.0, f.2)), c.requires.n_le_max_vars.2 (omega (arith, f.1, f.3)))

pub copy_trail-requires : goal.copy_trail-requires
copy_trail-requires c =
    let p = c.requires.n_in_bounds in
    let l = c.requires.lengths in
    (omega (arith, p.0, l.values_long), omega (arith, p.1, l.levels_long), omega (arith, p.2, l.reasons_long), omega (arith, p.3, l.trail_long), omega (arith, p.4, l.opened_long))

pub copy_list-requires : goal.copy_list-requires
copy_list-requires c =
    let p = c.requires.n_in_bounds_2 in
    let l = c.requires.next_len in
    (omega (arith, p.0, l.0), omega (arith, p.1, l.1), omega (arith, p.2, l.2))

pub returns : goal.returns
returns c = λ text at w k.
    (let a = c.args in
    let before = memory_of a.lits.now a.ends.now a.values.now a.levels.now a.reasons.now a.trail.now a.opened.now a.next.now a.prev.now a.ts.now blank in
    let f = fits (goal.at.returns c).In-Ok in
    let l = c.requires.lengths in
    let m = c.requires.next_len in
    let q = c.copy_clauses.ensures in
    let t = c.copy_trail.ensures in
    let u = c.copy_list.ensures in
    let values_are : c.copy_trail.new.values ≡ take a.n a.own_values.now = t.0 ∙ ap (λ (j : ℕ). take j a.own_values.now) l.values_long in
    let levels_are : c.copy_trail.new.levels ≡ take a.n a.own_levels.now = t.1 ∙ ap (λ (j : ℕ). take j a.own_levels.now) l.levels_long in
    let reasons_are : c.copy_trail.new.reasons ≡ take a.n a.own_reasons.now = t.2 ∙ ap (λ (j : ℕ). take j a.own_reasons.now) l.reasons_long in
    let trail_is : c.copy_trail.new.trail ≡ take a.n a.own_trail.now = t.3 ∙ ap (λ (j : ℕ). take j a.own_trail.now) l.trail_long in
    let opened_are : c.copy_trail.new.opened ≡ take a.n a.own_opened.now = t.4 ∙ ap (λ (j : ℕ). take j a.own_opened.now) l.opened_long in
    let next_is : c.copy_list.new.next ≡ take a.n a.own_next.now = u.0 ∙ ap (λ (j : ℕ). take j a.own_next.now) m.0 in
    let prev_is : c.copy_list.new.prev ≡ take a.n a.own_prev.now = u.1 ∙ ap (λ (j : ℕ). take j a.own_prev.now) m.1 in
    let ts_are : c.copy_list.new.ts ≡ take a.n a.own_ts.now = u.2 ∙ ap (λ (j : ℕ). take j a.own_ts.now) m.2 in
    let held : state_in a.l.state ≡ c.in-Ok.state = ap state_in (c.verdict.ensures.state_is c.in-Ok.state c.in-Ok.is) in
    subst (λ (r : ListAnswer). Answered (read list_reader text before) before r.status r.reply (memory_of c.copy_clauses.new.lits c.copy_clauses.new.ends c.copy_trail.new.values c.copy_trail.new.levels c.copy_trail.new.reasons c.copy_trail.new.trail c.copy_trail.new.opened c.copy_list.new.next c.copy_list.new.prev c.copy_list.new.ts r.state))
    (sym (c.accept.ensures ∙ ap (λ (x : ListState). answer 0 NONE x) (sym held)))
    (answers_taken w a.l a.own_lits.now a.own_ends.now (take a.n a.own_values.now) (take a.n a.own_levels.now) (take a.n a.own_reasons.now) (take a.n a.own_trail.now) (take a.n a.own_opened.now) (take a.n a.own_next.now) (take a.n a.own_prev.now) (take a.n a.own_ts.now) k before c.requires.lengths (record { next_long = c.requires.next_len.0; prev_long = c.requires.next_len.1; ts_long = c.requires.next_len.2 }) (rw c.in-Ok.is at c.verdict.ensures.status)
    (omega (arith, f.0, c.requires.n_le_max_vars.1 (omega (arith, f.0, f.2)))) (omega (arith, f.1, c.requires.n_le_max_vars.2 (omega (arith, f.1, f.3))))
    (memory_of c.copy_clauses.new.lits c.copy_clauses.new.ends c.copy_trail.new.values c.copy_trail.new.levels c.copy_trail.new.reasons c.copy_trail.new.trail c.copy_trail.new.opened c.copy_list.new.next c.copy_list.new.prev c.copy_list.new.ts (state_in a.l.state))
    (q.0 ∙ ap (λ (j : ℕ). take j a.own_lits.now) f.0) (q.1 ∙ ap (λ (j : ℕ). take j a.own_ends.now) f.1)
    (λ i. trail_of (values_are i) (levels_are i) (reasons_are i) (trail_is i) (opened_are i) (state_in a.l.state).trail)
    (λ i. vmtf_of (next_is i) (prev_is i) (ts_are i) (state_in a.l.state).vmtf)))
