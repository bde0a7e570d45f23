-- `heap_saved::loading::restore` meets its contract: trail and heap are set from the rows that s says.
use Rattle.saved_state.specs.Loops.{Codes}
use Rattle.saved_state.specs.Said.{trail_from, heap_from}
use Rattle.vmtf.specs.Vmtf.{Vars}
use lib.ListN.{length}
use Rattle.std.proofs.Common.{rules}
use lib.Seq.{length-take-le}
use mathlib.Core.Path.{sym, subst, ◌∙◌}
use native.Mathlib.Omega.{arith}
use Rattle.heap_saved.proofs.loading.restore.Goals as goal

pub set_trail-requires : goal.set_trail-requires
set_trail-requires c =
    let a = c.requires in
    let r = a.ready.1 in
    record {
      lengths = (a.lengths, omega (arith, r.small));
      k_in_bounds = (r.few, subst (Codes (length c.args.session.now.values.now)) (sym r.codes_are) r.codes_in, length-take-le _ _ (omega (arith, r.few, a.level_row_len.0)), length-take-le _ _ (omega (arith, r.few, a.level_row_len.1)));
    }

pub set_heap-requires : goal.set_heap-requires
set_heap-requires c =
    let a = c.requires in
    let r = a.ready.1 in
    let h = a.heap_len in
    record {
      activity_len = (h.1 ∙ sym h.0, h.2 ∙ sym h.0, h.3 ∙ sym h.0, omega (arith, r.small, h.0));
      k_in_bounds = (omega (arith, r.few_members, h.0), subst (Vars (length c.args.session.now.heap.now)) (sym r.members_are) (λ i b. omega (arith, r.members_in i b, h.0)), a.level_row_len.3 ∙ sym h.0, a.level_row_len.2 ∙ sym h.0);
      by_index = r.switches_in;
    }

pub returns-clause-restored : goal.returns-clause-restored
returns-clause-restored c = λ s r.
    let long = c.requires.heap_len.0 in
    let t = c.set_trail.ensures.set ∙ (λ i. trail_from (sym r.vars i) (r.codes_are i) (r.levels_are i) (r.reasons_are i) (r.curr_is i)) in
    let h = c.set_heap.ensures.set ∙ (λ i. heap_from ((long ∙ sym r.vars) i) (r.members_are i) (r.bits_are i) (r.switches_are i) (r.inc_is i) (r.decay_is i)) in
    (search rules, search rules)
