-- A turn of `scatter` writes one more node, with its fields from the flat slices.
use Rattle.std.proofs.Common.{ℕ, suc, ◌+◌, ◌<◌, ◌≡◌, refl, List, [], ◌∷◌, ◌++◌, map, length, get_or, set, take, drop, arith, add-one, append_assoc, drop-cons}
use Rattle.std.proofs.Math.Seq.{take-suc, length-take-le, set-append_seam}
use Rattle.std.proofs.lemmas.List.{length-map, map-set}
use Rattle.node_entry.specs.declared.nodes.Node.{Node}
use Rattle.node_entry.proofs.nodes.scatter.Goals as goal

-- a store behind the front
at_seam : (p : List ℕ) (i x y : ℕ) (r : List ℕ) → length p ≡ i → set (p ++ (x ∷ r)) i y ≡ p ++ (y ∷ r)
at_seam p i x y r e = rw (← e) (set-append_seam p x r y)

one_more : (f : Node → ℕ) (before ns after : List Node) (n : Node) (xs : List ℕ) (i : ℕ) → after ≡ set ns i n → f n ≡ get_or xs i 0 → i < length xs → i < length before
    → map f ns ≡ take i xs ++ drop i (map f before) → map f after ≡ take (i + 1) xs ++ drop (i + 1) (map f before)
one_more f before ns after n xs i written is inside there so_far =
    let ys = map f before in
    let a = map-set f ns i n in
    let b = take-suc xs i 0 inside in
    let c = drop-cons ys i 0 (omega (arith, length-map before f)) in
    let s = at_seam (take i xs) i (get_or ys i 0) (f n) (drop (suc i) ys) (length-take-le i xs (omega arith)) in
    let t = append_assoc (take i xs) (get_or xs i 0 ∷ []) (drop (suc i) ys) in
    rw add-one (cc)

pub loop-i-preserved : goal.loop-i-preserved
loop-i-preserved c =
    let h = c.loop-i.invariant in
    let w = c.set_node.ensures in
    record {
      next_so_far = one_more (λ n. n.next) _ _ _ _ _ _ w refl (omega arith) (omega arith) h.next_so_far;
      prev_so_far = one_more (λ n. n.prev) _ _ _ _ _ _ w refl (omega arith) (omega arith) h.prev_so_far;
      ts_so_far = one_more (λ n. n.ts) _ _ _ _ _ _ w refl (omega arith) (omega arith) h.ts_so_far;
    }
