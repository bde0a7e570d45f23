-- `trail::back::close_levels` meets its contract: the places of the levels closed are filled.
use Rattle.std.proofs.Common.{◌≡◌, ◌-◌, length, take, drop, sym, arith, length-drop, length-take-le}
use Rattle.trail.proofs.Going.{closed}
use Rattle.trail.proofs.back.close_levels.Goals as goal

pub returns : goal.returns
returns c values levels reasons trail =
    let opened = c.args.opened.now in
    let s = c.args.s in
    let n : length (take (s.level - c.args.l) (drop c.args.l opened)) ≡ s.level - c.args.l = length-take-le _ _ (omega (arith, length-drop c.args.l opened)) in
    rw (c.fill.ensures.after (λ y e. e), n) (sym (closed _ _ _ (omega arith) c.requires.0))
