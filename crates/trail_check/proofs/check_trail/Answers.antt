-- `trail_check::check_trail` meets its contract: one test after the other, each safe by those before it.
use Rattle.std.proofs.Common.{length, sym, arith}
use Rattle.laws.specs.Tests.{and_left}
use Rattle.trail_check.specs.Checked.{Counts}
use Rattle.trail_check.proofs.Checked.{counts_right, places_right}
use Rattle.trail_check.proofs.check_trail.Goals as goal
use Rattle.trail_check.proofs.check_trail.Goals.{Then-counts_ok}

-- the counts lie within the slices
counts : (c : Then-counts_ok) → let t = c.args.t in Counts (length t.values.now) t.at.len t.at.level t.at.curr_i
counts c = (counts_right _ _ _ _).0 (sym c.if-counts_ok.ensures)

pub check_unused-requires : goal.check_unused-requires
check_unused-requires c = let n = counts (goal.at.check_unused-requires c).Then-counts_ok in (omega (arith, n, c.requires.lengths), omega (arith, n, c.requires.lengths))

pub check_places-requires : goal.check_places-requires
check_places-requires c = let n = counts (goal.at.check_places-requires c).Then-counts_ok in (c.requires.values_len_bound, omega (arith, n, c.requires.lengths))

pub check_levels-requires : goal.check_levels-requires
check_levels-requires c =
    let n = counts (goal.at.check_levels-requires c).Then-counts_ok in
    let p = (places_right _ _ _).0 (and_left _ _ (sym c.if-check_places.ensures)) in
    record { len_in_bounds = (omega (arith, n, c.requires.lengths), omega (arith, n, c.requires.lengths)); by_index = λ i h. omega (arith, c.requires.lengths, p.codes_in i h) }
