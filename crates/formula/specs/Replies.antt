-- What the three calls reply, in numbers: a status, and the reply or NONE. Assumes nothing.
use Rattle.std.specs.Prelude.{ℕ, cond, ltb, eqb}
use Rattle.lit.specs.Numbers.{NONE, max_vars, many_vars}

-- the reply r, or the refusal k where there is one
abbrev pub unless : ℕ → ℕ → ℕ × ℕ
unless k r = cond (eqb k 0) (0, r) (k, NONE)

-- refusal 4 comes first
abbrev pub behind_four : ℕ → ℕ × ℕ → ℕ × ℕ
behind_four n x = cond (ltb max_vars n) (many_vars, NONE) x
