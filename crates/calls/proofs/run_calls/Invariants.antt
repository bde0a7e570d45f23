use Rattle.words.specs.Going.{Part}
use Rattle.calls.proofs.run_calls.Given as goal

abbrev pub invariant-loop-i : goal.invariant-loop-i
invariant-loop-i g l =
    let lits = l.list.lits.now in
    let ends = l.list.ends.now in
    let S = g.S.Session in
    let held = S.held l.n l.m lits ends in
    Part l.n l.m (S.mode l.n l.m lits ends).ops (S.sound l.n l.m lits ends).Good l.vars l.calls l.count (held l.initial.session) l.i (held l.session) l.answers × S.same_slices l.initial.session l.session
