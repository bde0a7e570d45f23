-- Of each flat slice the first i places have been filled.
use Rattle.std.proofs.Common.{◌≡◌, take}
use Rattle.node_entry.specs.Nodes.{nexts, prevs, tss}
use Rattle.node_entry.proofs.nodes.gather.Given as goal

abbrev pub invariant-loop-i : goal.invariant-loop-i
invariant-loop-i l =
    record {
      next_so_far : take l.i l.next ≡ take l.i (nexts l.nodes);
      prev_so_far : take l.i l.prev ≡ take l.i (prevs l.nodes);
      ts_so_far : take l.i l.ts ≡ take l.i (tss l.nodes);
    }
