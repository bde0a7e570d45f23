-- `saved_state::saving::put_clauses` meets its contract: what is left of the clauses ends the text.
use native.Mathlib.Omega.{arith}
use Rattle.saved_state.specs.Pieces.{clauses_start, clause_room, clauses_next, clauses_end, clause_fits_lem}
use Rattle.saved_state.proofs.saving.put_clauses.Goals as goal

pub loop-i-init : goal.loop-i-init
loop-i-init g c = clauses_start g.met.S.Sink.laws _ _ _ c.requires.2

pub row-requires : goal.row-requires
row-requires g c =
    let f = clause_fits_lem {i = c.loop-i.i} c.requires.0 c.requires.1 (omega arith) in
    rw c.clause.ensures (f.0, f.1, clause_room g.met.S.Sink.laws _ _ c.loop-i.invariant (omega arith))

pub loop-i-preserved : goal.loop-i-preserved
loop-i-preserved g c = clauses_next g.met.S.Sink.laws _ _ c.loop-i.invariant _ (omega arith) (rw c.clause.ensures at c.row.ensures)

pub returns : goal.returns
returns g c = clauses_end g.met.S.Sink.laws _ _ c.loop-i.invariant (omega arith)
