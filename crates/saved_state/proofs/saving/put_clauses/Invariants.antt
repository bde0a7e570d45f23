use Rattle.saved_state.specs.Pieces.{ClausesPut}
use Rattle.saved_state.proofs.saving.put_clauses.Given as goal

abbrev pub invariant-loop-i : goal.invariant-loop-i
invariant-loop-i g l = ClausesPut g.S.Sink.puts g.S.Sink.room l.list.lits.now l.list.ends.now l.initial.sink l.sink l.i
