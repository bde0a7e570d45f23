-- `heap_desk::loaded::heap_slices` meets its contract: what was loaded is what the text says.
use native.Mathlib.Omega.{arith}
use Rattle.saved_run.specs.Holding.{still_holds}
use Rattle.heap_desk.proofs.loaded.heap_slices.Goals as goal

pub load_front-x-requires : goal.load_front-x-requires
load_front-x-requires c =
    record { opens_with = (c.requires.room.1, c.requires.room.2, c.requires.room.4); n_in_bounds = c.requires.n_in_bounds; n_in_bounds_2 = c.requires.n_in_bounds_2; n_in_bounds_3 = c.requires.n_in_bounds_3 }

pub heap_loaded-requires : goal.heap_loaded-requires
heap_loaded-requires c =
    let f = c.load_front-x in
    record { room = (c.requires.room.0, c.requires.room.2); n_in_bounds = (omega (arith, f.auto.values, c.requires.n_in_bounds.0), omega (arith, f.auto.levels, c.requires.n_in_bounds.1), omega (arith, f.auto.reasons, c.requires.n_in_bounds.2), omega (arith, f.auto.trail, c.requires.n_in_bounds.3), omega (arith, f.auto.opened, c.requires.n_in_bounds.4)); n_in_bounds_2 = (omega (arith, f.auto.activity, c.requires.n_in_bounds_2.0), omega (arith, f.auto.heap, c.requires.n_in_bounds_2.1), omega (arith, f.auto.indices, c.requires.n_in_bounds_2.2), omega (arith, f.auto.decision, c.requires.n_in_bounds_2.3)); by_index = (c.args.old.now, c.args.at, record { opens = c.requires.room.1; holds = still_holds f.auto.lits f.auto.ends c.requires.room.3; loads = f.ensures }) }

pub returns : goal.returns
returns c =
    let f = c.load_front-x in
    c.heap_loaded.ensures c.args.old.now c.args.at (record { opens = c.requires.room.1; holds = still_holds f.auto.lits f.auto.ends c.requires.room.3; loads = f.ensures })
