-- `list_saved::loading::restore` meets its contract: trail and list are set from the rows that s says.
use Rattle.saved_state.specs.Loops.{Codes}
use Rattle.saved_state.specs.Said.{trail_from, list_from}
use Rattle.vmtf.specs.Vmtf.{Vars}
use lib.ListN.{length}
use Rattle.std.proofs.Common.{rules}
use lib.Seq.{length-take-le}
use mathlib.Core.Path.{sym, subst, ◌∙◌}
use native.Mathlib.Omega.{arith}
use Rattle.list_saved.proofs.loading.restore.Goals as goal

pub set_trail-requires : goal.set_trail-requires
set_trail-requires c =
    let a = c.requires in
    let r = a.ready.1 in
    record {
      lengths = (a.lengths, omega (arith, r.small));
      k_in_bounds = (r.few, subst (Codes (length c.args.session.now.values.now)) (sym r.codes_are) r.codes_in, length-take-le _ _ (omega (arith, r.few, a.level_row_len.0)), length-take-le _ _ (omega (arith, r.few, a.level_row_len.1)));
    }

pub set_list-requires : goal.set_list-requires
set_list-requires c =
    let a = c.requires in
    let r = a.ready.1 in
    let h = a.next_len in
    (h.1 ∙ sym h.0, h.2 ∙ sym h.0, subst (Vars (length c.args.session.now.next.now)) (sym r.order_is) (λ i b. omega (arith, r.order_in i b, h.0)), a.level_row_len.3 ∙ sym a.level_row_len.2)

pub returns-clause-restored : goal.returns-clause-restored
returns-clause-restored c = λ s r.
    let long = c.requires.next_len.0 in
    let t = c.set_trail.ensures.set ∙ (λ i. trail_from (sym r.vars i) (r.codes_are i) (r.levels_are i) (r.reasons_are i) (r.curr_is i)) in
    let h = c.set_list.ensures.set ∙ (λ i. list_from ((long ∙ sym r.vars) i) (r.order_is i) (r.stamps_are i) (r.timestamp_is i) (r.search_is i)) in
    (search rules, search rules)
