-- `scale_all` meets its contract: each turn scales one more activity.
use Rattle.std.proofs.Common.{◌≡◌, ◌<◌, ◌∙◌, length, arith}
use Rattle.std.specs.Float.{nan}
use Rattle.laws.specs.InPlace.{mapped_at, mapped_next, mapped_end}
use Rattle.activity.specs.Step.{scale}
use Rattle.activity.proofs.scale_all.Goals as goal

pub loop-x-preserved : goal.loop-x-preserved
loop-x-preserved c =
    let l = c.args.activity.now in
    let i = c.loop-x.x-index in
    let h : i < length l = omega arith in
    rw (c.loop-x.invariant, mapped_at scale l i nan h) (mapped_next scale l i nan h)

pub returns : goal.returns
returns c =
    let l = c.args.activity.now in
    let e : c.loop-x.x-index ≡ length l = omega arith in
    c.loop-x.invariant ∙ rw e (mapped_end scale l)
