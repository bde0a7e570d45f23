-- The nodes of the list (decision.rs, `Node`) and the three lists of their fields.
use Rattle.std.specs.Prelude.{ℕ, ◌+◌, ◌≤◌, ◌≡◌, refl, Bool, true, false, cond, length, ltb}
use Rattle.std.proofs.Common.{le_refl, arith, ltb-true, ltb-false}
use mathlib.Core.List.{List, [], ◌∷◌, map, nil≢cons, cons≢nil, head-eq_of_cons-eq, tail-eq_of_cons-eq}
use Rattle.lit.specs.Numbers.{max_vars}
use Rattle.node_entry.specs.declared.nodes.Node.{Node}

abbrev pub nexts : List Node → List ℕ
nexts ns = map (λ (n : Node). n.next) ns

abbrev pub prevs : List Node → List ℕ
prevs ns = map (λ (n : Node). n.prev) ns

abbrev pub tss : List Node → List ℕ
tss ns = map (λ (n : Node). n.ts) ns

-- what is read where there is no node
abbrev pub no_node : Node
no_node = record { next = 0; prev = 0; ts = 0 }

-- three flat lists of one length, and there are nodes enough
pub record FlatRoom (ns : List Node) (next prev ts : List ℕ) : Type 0 where
  pub enough : length next ≤ length ns
  pub prev_long : length prev ≡ length next
  pub ts_long : length ts ≡ length next

-- one more than the limit of variables
abbrev pub room : ℕ
room = max_vars + 1

abbrev pub room_for : ℕ → ℕ
room_for len = cond (ltb len room) len room

pub room_enough : (len : ℕ) → (room_for len ≤ len) × (room_for len ≤ room)
room_enough len = go (ltb len room) refl
  where
    go : (b : Bool) → ltb len room ≡ b → (cond b len room ≤ len) × (cond b len room ≤ room)
    go true e = (le_refl len, omega (arith, ltb-true len room e))
    go false e = (ltb-false len room e, le_refl room)

-- equal fields are equal nodes
pub same_nodes : (ns ms : List Node) → nexts ns ≡ nexts ms → prevs ns ≡ prevs ms → tss ns ≡ tss ms → ns ≡ ms
same_nodes [] [] e f g = refl
same_nodes [] (m ∷ ms) e f g = absurd (nil≢cons e)
same_nodes (n ∷ ns) [] e f g = absurd (cons≢nil e)
same_nodes (n ∷ ns) (m ∷ ms) e f g =
    let one : n ≡ m = λ i. record { next = head-eq_of_cons-eq e i; prev = head-eq_of_cons-eq f i; ts = head-eq_of_cons-eq g i } in
    λ i. one i ∷ same_nodes ns ms (tail-eq_of_cons-eq e) (tail-eq_of_cons-eq f) (tail-eq_of_cons-eq g) i
