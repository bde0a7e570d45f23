-- `sheet::put_ending` meets its contract: the newline stands behind the reply.
use native.Mathlib.Omega.{arith}
use lib.ListN.{length, length-append, length-set}
use mathlib.Core.Path.{refl, ap}
use mathlib.Core.List.{[], ◌∷◌}
use borrow.Author.Tests.{eq-eqb, ne_eqb}
use Rattle.lit.specs.Numbers.{NONE}
use Rattle.forms.specs.Letters.{dash}
use Rattle.forms.specs.Text.{newline, digits, written}
use Rattle.forms.specs.TextLaws.{whole_digits}
use Rattle.forms.specs.Written.{put_one, same_room}
use Rattle.sheet.specs.Writing.{ending}
use Rattle.sheet.proofs.put_ending.Goals as goal

pub bounds-out-at : goal.bounds-out-at
unfolding ending
bounds-out-at c = omega (arith, rw (eq-eqb c.args.reply NONE c.if-reply-eq-NONE.true) at c.requires)

pub bounds-out-at-then-reply-eq-NONE : goal.bounds-out-at-then-reply-eq-NONE
unfolding ending
bounds-out-at-then-reply-eq-NONE c =
    omega (arith, rw (eq-eqb c.args.reply NONE c.if-reply-eq-NONE.true) at c.requires, length-set c.args.out.now c.args.at dash)

pub returns-then-reply-eq-NONE : goal.returns-then-reply-eq-NONE
unfolding ending written
returns-then-reply-eq-NONE c = rw (eq-eqb c.args.reply NONE c.if-reply-eq-NONE.true) (record { buffer = refl; place = refl })

pub put_number-k-requires : goal.put_number-k-requires
unfolding ending
put_number-k-requires c =
    omega (arith, ap length (whole_digits c.args.reply (omega arith)), rw (ne_eqb c.args.reply NONE c.if-reply-eq-NONE.false) at c.requires, length-append (digits c.args.reply) (newline ∷ []))

pub bounds-out-k : goal.bounds-out-k
unfolding ending
bounds-out-k c =
    let w = rw (whole_digits c.args.reply (omega arith)) at c.put_number-k.ensures in
    omega (arith, rw (ne_eqb c.args.reply NONE c.if-reply-eq-NONE.false) at c.requires, length-append (digits c.args.reply) (newline ∷ []), w.place, same_room w)

pub overflow_add-result-2 : goal.overflow_add-result-2
unfolding ending
overflow_add-result-2 c =
    let w = rw (whole_digits c.args.reply (omega arith)) at c.put_number-k.ensures in
    omega (arith, rw (ne_eqb c.args.reply NONE c.if-reply-eq-NONE.false) at c.requires, length-append (digits c.args.reply) (newline ∷ []), w.place)

pub returns : goal.returns
unfolding ending
returns c =
    let w = rw (whole_digits c.args.reply (omega arith)) at c.put_number-k.ensures in
    rw (ne_eqb c.args.reply NONE c.if-reply-eq-NONE.false) (put_one newline w)
