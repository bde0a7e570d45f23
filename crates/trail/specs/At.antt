-- Short names for the laws: the value, level and reason of a variable; the code at a place of the trail; an opened level.
use Rattle.std.specs.Prelude.{ℕ, get_or}
use Rattle.trail.specs.Trail.{Trail}

abbrev pub value_at : Trail → ℕ → ℕ
value_at t v = get_or t.values v 0

abbrev pub level_at : Trail → ℕ → ℕ
level_at t v = get_or t.levels v 0

abbrev pub reason_at : Trail → ℕ → ℕ
reason_at t v = get_or t.reasons v 0

abbrev pub code_at : Trail → ℕ → ℕ
code_at t i = get_or t.trail i 0

abbrev pub opened_at : Trail → ℕ → ℕ
opened_at t k = get_or t.opened k 0
