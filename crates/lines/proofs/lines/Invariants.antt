use Rattle.std.specs.Prelude.{◌≡◌, ◌+◌, length}
use Rattle.lines.specs.Lines.{Went}
use Rattle.lines.proofs.lines.Given as goal

abbrev pub invariant-loop : goal.invariant-loop
invariant-loop g l =
    let lits = l.list.lits.now in
    let ends = l.list.ends.now in
    let S = g.S.Session in
    let held = S.held l.n (length ends) lits ends in
    record {
      went : Went (S.sound l.n (length ends) lits ends).Good l.sheet l.fn.p (held l.initial.session) l.initial.out l.q (held l.session) l.out;
      left : l.q.left + l.counter ≡ l.fn.p.left;
      same_slices : S.same_slices l.initial.session l.session;
    }
