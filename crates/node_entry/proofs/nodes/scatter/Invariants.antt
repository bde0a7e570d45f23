-- The first i nodes have been written.
use Rattle.std.proofs.Common.{◌≡◌, ◌++◌, take, drop}
use Rattle.node_entry.specs.Nodes.{nexts, prevs, tss}
use Rattle.node_entry.proofs.nodes.scatter.Given as goal

abbrev pub invariant-loop-i : goal.invariant-loop-i
invariant-loop-i l =
    record {
      next_so_far : nexts l.nodes ≡ take l.i l.next ++ drop l.i (nexts l.initial.nodes);
      prev_so_far : prevs l.nodes ≡ take l.i l.prev ++ drop l.i (prevs l.initial.nodes);
      ts_so_far : tss l.nodes ≡ take l.i l.ts ++ drop l.i (tss l.initial.nodes);
    }
