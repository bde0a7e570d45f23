-- A turn of `gather` puts one more field at its place in each flat slice.
use Rattle.std.proofs.Common.{ℕ, ◌+◌, ◌<◌, ◌≡◌, List, map, length, get_or, set, take, arith, add-one}
use Rattle.std.proofs.Math.Seq.{take-suc, take-suc-set}
use Rattle.std.proofs.lemmas.List.{get_or-map, length-map}
use Rattle.node_entry.specs.declared.nodes.Node.{Node}
use Rattle.node_entry.specs.Nodes.{no_node}
use Rattle.node_entry.proofs.nodes.gather.Goals as goal

one_more : (f : Node → ℕ) (ns : List Node) (n : Node) (xs : List ℕ) (i : ℕ) → n ≡ get_or ns i no_node → i < length xs → i < length ns
    → take i xs ≡ take i (map f ns) → take (i + 1) (set xs i (f n)) ≡ take (i + 1) (map f ns)
one_more f ns n xs i is inside there so_far =
    let a = take-suc-set xs i (f n) inside in
    let b = take-suc (map f ns) i 0 (omega (arith, length-map ns f)) in
    let g = get_or-map f ns i no_node 0 there in
    rw add-one (cc)

pub loop-i-preserved : goal.loop-i-preserved
loop-i-preserved c =
    let h = c.loop-i.invariant in
    record {
      next_so_far = one_more (λ n. n.next) _ _ _ _ c.node_at-n.ensures (omega arith) (omega arith) h.next_so_far;
      prev_so_far = one_more (λ n. n.prev) _ _ _ _ c.node_at-n.ensures (omega arith) (omega arith) h.prev_so_far;
      ts_so_far = one_more (λ n. n.ts) _ _ _ _ c.node_at-n.ensures (omega arith) (omega arith) h.ts_so_far;
    }
