-- The first k places of an array, which are lent, written and come back, and the fields of the first k nodes in them.
use Rattle.std.proofs.Common.{ℕ, ◌≤◌, ◌≡◌, sym, ap, ◌∙◌, List, ◌++◌, map, length, take, drop, replicate, arith, length-take-le, take_all}
use Rattle.std.proofs.lemmas.List.{length-map, length-replicate, take-append-le}
use Rattle.node_entry.specs.Nodes.{nexts, prevs, tss, FlatRoom, room, room_for, room_enough}
use Rattle.node_entry.specs.declared.nodes.Node.{Node}

-- what came back for the first k places stands in front
front : (k : ℕ) (w r : List ℕ) → length w ≡ k → take k (w ++ r) ≡ w
front k w r e = take-append-le k w r (omega (arith, e)) ∙ take_all k w (omega (arith, e))

-- an array of zeros
abbrev zeros : List ℕ
zeros = replicate room 0

module _ (ns : List Node) (k : ℕ) (fits : k ≡ room_for (length ns)) where
  few : (k ≤ length ns) × (k ≤ room)
  few = rw fits (room_enough (length ns))

  zeros_long : length (take k zeros) ≡ k
  zeros_long = length-take-le k zeros (omega (arith, few.1, length-replicate {A = ℕ} room 0))

  fields_long : (f : Node → ℕ) → length (take k (map f ns)) ≡ k
  fields_long f = length-take-le k (map f ns) (omega (arith, few.0, length-map ns f))

  gathered_one : (f : Node → ℕ) (g : List ℕ) → g ≡ take (length (take k zeros)) (map f ns) → take k (g ++ drop k zeros) ≡ take k (map f ns)
  gathered_one f g e =
      let a : g ≡ take k (map f ns) = rw zeros_long at e in
      front k g (drop k zeros) (ap length a ∙ fields_long f) ∙ a

  -- the first k places of three arrays, once the fields of the first k nodes are gathered in them
  pub gathered : (g₁ g₂ g₃ : List ℕ) → (let n = length (take k zeros) in (g₁ ≡ take n (nexts ns)) × (g₂ ≡ take n (prevs ns)) × (g₃ ≡ take n (tss ns)))
      → (take k (g₁ ++ drop k zeros) ≡ take k (nexts ns)) × (take k (g₂ ++ drop k zeros) ≡ take k (prevs ns)) × (take k (g₃ ++ drop k zeros) ≡ take k (tss ns))
  gathered g₁ g₂ g₃ (a, b, c) = (gathered_one (λ (d : Node). d.next) g₁ a, gathered_one (λ (d : Node). d.prev) g₂ b, gathered_one (λ (d : Node). d.ts) g₃ c)

  back_long : (f : Node → ℕ) (u w : List ℕ) → u ≡ take k (map f ns) → length w ≡ length u → length w ≡ k
  back_long f u w a l = l ∙ ap length a ∙ fields_long f

  -- those places were lent with u₁, u₂ and u₃ in them, and came back with w₁, w₂ and w₃
  module _ (u₁ u₂ u₃ w₁ w₂ w₃ r₁ r₂ r₃ : List ℕ) (firsts : (u₁ ≡ take k (nexts ns)) × (u₂ ≡ take k (prevs ns)) × (u₃ ≡ take k (tss ns)))
      (l₁ : length w₁ ≡ length u₁) (l₂ : length w₂ ≡ length u₂) (l₃ : length w₃ ≡ length u₃) where
    next_long : length w₁ ≡ k
    next_long = back_long (λ d. d.next) u₁ w₁ firsts.0 l₁

    prev_long : length w₂ ≡ k
    prev_long = back_long (λ d. d.prev) u₂ w₂ firsts.1 l₂

    ts_long : length w₃ ≡ k
    ts_long = back_long (λ d. d.ts) u₃ w₃ firsts.2 l₃

    -- there are nodes enough for them
    pub back_room : FlatRoom ns (take k (w₁ ++ r₁)) (take k (w₂ ++ r₂)) (take k (w₃ ++ r₃))
    back_room =
        rw (front k w₁ r₁ next_long, front k w₂ r₂ prev_long, front k w₃ r₃ ts_long)
        (record { enough = omega (arith, next_long, few.0); prev_long = prev_long ∙ sym next_long; ts_long = ts_long ∙ sym next_long })

    -- and they are scattered
    pub scattered : (ms : List Node)
        → (let n = length (take k (w₁ ++ r₁)) in
        (nexts ms ≡ take k (w₁ ++ r₁) ++ drop n (nexts ns)) × (prevs ms ≡ take k (w₂ ++ r₂) ++ drop n (prevs ns)) × (tss ms ≡ take k (w₃ ++ r₃) ++ drop n (tss ns)))
        → (nexts ms ≡ w₁ ++ drop k (nexts ns)) × (prevs ms ≡ w₂ ++ drop k (prevs ns)) × (tss ms ≡ w₃ ++ drop k (tss ns))
    scattered ms e = rw (front k w₁ r₁ next_long, front k w₂ r₂ prev_long, front k w₃ r₃ ts_long, next_long) at e
