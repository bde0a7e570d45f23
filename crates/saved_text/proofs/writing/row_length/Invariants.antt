use Prim.Native.Nat.{ℕ, ◌+◌, ◌*◌, ◌≤◌}
use mathlib.Core.Path.{◌≡◌}
use lib.ListN.{length, take}
use Rattle.saved_text.specs.Saved.{any_of, row_line}
use Rattle.saved_text.proofs.writing.row_length.Given as goal

abbrev pub invariant-loop-v : goal.invariant-loop-v
invariant-loop-v g l =
    let n = g.N.Number in
    record {
      short : l.k ≤ 2 + l.v-index * 21;
      counted : (letter : ℕ) → l.k ≡ length (row_line (any_of letter (n.kind_of l.kind)) (take l.v-index (n.values l.numbers))) + 1;
    }
