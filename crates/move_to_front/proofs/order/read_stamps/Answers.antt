-- The loop's invariant: the first i places hold the stamps and the variables of the group, the others what they held.
use Prim.Native.Nat.{◌≤◌, ◌<◌}
use mathlib.Core.Path.{◌≡◌, refl, sym, ◌∙◌}
use native.Mathlib.Omega.{arith}
use lib.ListN.{length, length-set, length-map}
use Rattle.vmtf.specs.Vmtf.{stamps_of}
use Rattle.vmtf.specs.Laws.{copied_next, copied_end, stamp_at}
use Rattle.move_to_front.proofs.order.read_stamps.Goals as goal

pub loop-i-init : goal.loop-i-init
loop-i-init c = let s = c.requires in record { stamps_are = refl; order-are = refl; stamps_long = s.stamps_len.0; order_long = s.stamps_len.1 }

pub loop-i-preserved : goal.loop-i-preserved
loop-i-preserved c =
    let i = c.loop-i.i in
    let v = c.loop-i.invariant in
    let h : i < length c.args.vars.now = omega arith in
    let long : length c.args.stamps.now ≡ length (stamps_of c.args.list.now.ts.now c.args.vars.now) = c.requires.stamps_len.0 ∙ sym (length-map c.args.vars.now _) in
    record {
      stamps_are = rw v.stamps_are (copied_next (stamps_of c.args.list.now.ts.now c.args.vars.now) c.args.stamps.now i _ (simp length-map h) long (stamp_at c.args.list.now.ts.now c.args.vars.now i h));
      order-are = rw v.order-are (copied_next c.args.vars.now c.args.order.now i _ h c.requires.stamps_len.1 refl);
      stamps_long = simp length-set v.stamps_long;
      order_long = simp length-set v.order_long;
    }

pub returns : goal.returns
returns c =
    let i = c.loop-i.i in
    let v = c.loop-i.invariant in
    let h : length c.args.vars.now ≤ i = omega arith in (
      v.stamps_are ∙ copied_end (stamps_of c.args.list.now.ts.now c.args.vars.now) c.args.stamps.now i (simp length-map h) (c.requires.stamps_len.0 ∙ sym (length-map c.args.vars.now _)),
      v.order-are ∙ copied_end c.args.vars.now c.args.order.now i h c.requires.stamps_len.1,
    )
