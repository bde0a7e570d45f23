-- `saved_state::saving::put_trail` meets its contract: each line goes behind the one before.
use mathlib.Core.List.{List, [], ◌∷◌, ◌++◌}
use Prim.Native.Nat.{ℕ}
use native.Mathlib.Omega.{arith}
use Rattle.saved_text.specs.Saved.{whole, reason}
use Rattle.saved_text.specs.Puts.{row_text}
use Rattle.saved_state.specs.Written.{along}
use Rattle.saved_state.specs.Pieces.{trail_text}
use Rattle.saved_state.proofs.saving.put_trail.Given as given
use Rattle.saved_state.proofs.saving.put_trail.Goals as goal
use Rattle.saved_state.proofs.saving.put_trail.Goals.{After-put_along, After-put_along-2, After-row, Start}

-- the lines of codes, levels, reasons and curr_i
abbrev codes_line : List ℕ → List ℕ
codes_line codes = row_text 116 whole codes

abbrev levels_line : List ℕ → List ℕ → List ℕ
levels_line codes levels = row_text 108 whole (along codes levels)

abbrev reasons_line : List ℕ → List ℕ → List ℕ
reasons_line codes reasons = row_text 114 reason (along codes reasons)

abbrev curr_line : ℕ → List ℕ
curr_line curr = row_text 113 whole (curr ∷ [])

-- what stands behind the first and the second
abbrev behind_two : List ℕ → List ℕ → ℕ → List ℕ
behind_two codes reasons curr = reasons_line codes reasons ++ curr_line curr

abbrev behind_one : List ℕ → List ℕ → List ℕ → ℕ → List ℕ
behind_one codes levels reasons curr = levels_line codes levels ++ behind_two codes reasons curr

-- the room before the first line, and behind the first, the second and the third
before_codes : (g : given.Over) (c : Start g) → let a = c.args in g.S.Sink.room a.sink.now (codes_line a.codes.now ++ behind_one a.codes.now a.levels.now a.reasons.now a.curr)
unfolding trail_text
before_codes g c = c.requires.2

behind_codes : (g : given.Over) (c : After-row g) → let a = c.args in g.S.Sink.room c.row.new.self (behind_one a.codes.now a.levels.now a.reasons.now a.curr)
unfolding trail_text
behind_codes g c = let a = c.args in g.met.S.Sink.laws.room_next (codes_line a.codes.now) (behind_one a.codes.now a.levels.now a.reasons.now a.curr) c.requires.2 c.row.ensures

behind_levels : (g : given.Over) (c : After-put_along g) → let a = c.args in g.S.Sink.room c.put_along.new.sink (behind_two a.codes.now a.reasons.now a.curr)
unfolding trail_text
behind_levels g c =
    let a = c.args in
    let l = g.met.S.Sink.laws in
    let one = l.room_next (codes_line a.codes.now) (behind_one a.codes.now a.levels.now a.reasons.now a.curr) c.requires.2 c.row.ensures in
    l.room_next (levels_line a.codes.now a.levels.now) (behind_two a.codes.now a.reasons.now a.curr) one c.put_along.ensures

behind_reasons : (g : given.Over) (c : After-put_along-2 g) → let a = c.args in g.S.Sink.room c.put_along-2.new.sink (curr_line a.curr)
unfolding trail_text
behind_reasons g c =
    let a = c.args in
    let l = g.met.S.Sink.laws in
    let one = l.room_next (codes_line a.codes.now) (behind_one a.codes.now a.levels.now a.reasons.now a.curr) c.requires.2 c.row.ensures in
    let two = l.room_next (levels_line a.codes.now a.levels.now) (behind_two a.codes.now a.reasons.now a.curr) one c.put_along.ensures in
    l.room_next (reasons_line a.codes.now a.reasons.now) (curr_line a.curr) two c.put_along-2.ensures

pub row-requires : goal.row-requires
row-requires g c =
    let a = c.args in
    (c.requires.1.codes_fit, omega (arith, c.requires.1.few), g.met.S.Sink.laws.room_first (codes_line a.codes.now) (behind_one a.codes.now a.levels.now a.reasons.now a.curr) (before_codes g (goal.at.row-requires g c).Start))

pub put_along-requires-clause-each : goal.put_along-requires-clause-each
put_along-requires-clause-each g c =
    let a = c.args in
    (c.requires.1.levels_fit, g.met.S.Sink.laws.room_first (levels_line a.codes.now a.levels.now) (behind_two a.codes.now a.reasons.now a.curr) (behind_codes g (goal.at.put_along-requires-clause-each g c).After-row))

pub put_along-requires-2-clause-each : goal.put_along-requires-2-clause-each
put_along-requires-2-clause-each g c =
    let a = c.args in
    (c.requires.1.reasons_fit, g.met.S.Sink.laws.room_first (reasons_line a.codes.now a.reasons.now) (curr_line a.curr) (behind_levels g (goal.at.put_along-requires-2-clause-each g c).After-put_along))

pub row-requires-2 : goal.row-requires-2
row-requires-2 g c = ((omega arith, tt), omega arith, behind_reasons g (goal.at.row-requires-2 g c).After-put_along-2)

pub returns : goal.returns
unfolding trail_text
returns g c = let l = g.met.S.Sink.laws in l.puts_more c.row.ensures (l.puts_more c.put_along.ensures (l.puts_more c.put_along-2.ensures c.row-2.ensures))
