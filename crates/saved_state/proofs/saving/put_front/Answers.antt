-- `saved_state::saving::put_front` meets its contract: the clauses go behind the first line, the trail behind them.
use mathlib.Core.List.{◌++◌}
use mathlib.Core.Path.{sym, ◌∙◌}
use lib.ListN.{take}
use lib.Seq.{length-take-le}
use Rattle.saved_text.specs.Puts.{first_text}
use Rattle.saved_state.specs.Pieces.{clauses_text, trail_text, front_text}
use Rattle.saved_state.proofs.saving.put_front.Given as given
use Rattle.saved_state.proofs.saving.put_front.Goals as goal
use Rattle.saved_state.proofs.saving.put_front.Goals.{After-first}

-- the room that is left behind the first line
behind_first : (g : given.Over) (c : After-first g) → let a = c.args in g.S.Sink.room c.first.new.self (clauses_text a.list.lits.now a.list.ends.now ++ trail_text (take a.t.at.len a.t.codes.now) a.t.levels.now a.t.reasons.now a.t.at.curr_i)
unfolding front_text
behind_first g c =
    let a = c.args in
    g.met.S.Sink.laws.room_next (first_text a.n a.word.now) (clauses_text a.list.lits.now a.list.ends.now ++ trail_text (take a.t.at.len a.t.codes.now) a.t.levels.now a.t.reasons.now a.t.at.curr_i) c.requires.room c.first.ensures

pub first-requires : goal.first-requires
unfolding front_text
first-requires g c =
    let a = c.args in
    g.met.S.Sink.laws.room_first (first_text a.n a.word.now) (clauses_text a.list.lits.now a.list.ends.now ++ trail_text (take a.t.at.len a.t.codes.now) a.t.levels.now a.t.reasons.now a.t.at.curr_i) c.requires.room

pub put_clauses-requires : goal.put_clauses-requires
put_clauses-requires g c =
    let a = c.args in
    (c.requires.good_shape.0, c.requires.good_shape.1, g.met.S.Sink.laws.room_first (clauses_text a.list.lits.now a.list.ends.now) (trail_text (take a.t.at.len a.t.codes.now) a.t.levels.now a.t.reasons.now a.t.at.curr_i) (behind_first g (goal.at.put_clauses-requires g c).After-first))

pub put_trail-requires : goal.put_trail-requires
put_trail-requires g c =
    let a = c.args in
    (c.requires.lines.1 ∙ sym (length-take-le a.t.at.len a.t.codes.now c.requires.lines.0), c.requires.lines.2, g.met.S.Sink.laws.room_next (clauses_text a.list.lits.now a.list.ends.now) (trail_text (take a.t.at.len a.t.codes.now) a.t.levels.now a.t.reasons.now a.t.at.curr_i) (behind_first g (goal.at.put_trail-requires g c).After-first) c.put_clauses.ensures)

pub returns : goal.returns
unfolding front_text
returns g c = let l = g.met.S.Sink.laws in l.puts_more c.first.ensures (l.puts_more c.put_clauses.ensures c.put_trail.ensures)
