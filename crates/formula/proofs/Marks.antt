-- Marks, a number for each variable, by which the variables of a clause are told apart in one pass. Assumes nothing.
use Rattle.std.specs.Prelude.{ℕ, zero, suc, ◌≤◌, ◌<◌, get_or, replicate}
use Rattle.std.proofs.Common.{arith}
use Rattle.std.proofs.lemmas.List.{length-replicate}
use Rattle.formula.specs.Marks.{Unmarked}

zeros : (k v : ℕ) → get_or (replicate k 0) v 0 < 1
zeros zero v = omega arith
zeros (suc k) zero = omega arith
zeros (suc k) (suc v) = zeros k v

pub fresh_marks : {n : ℕ} (k : ℕ) → n ≤ k → Unmarked n 1 (replicate k 0)
fresh_marks k h = record { room = simp length-replicate h; below = zeros k }
