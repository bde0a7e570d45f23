-- `sheet::put_field` meets its contract: the tab stands behind the digits.
use native.Mathlib.Omega.{arith}
use lib.ListN.{length, length-append}
use mathlib.Core.Path.{ap}
use mathlib.Core.List.{[], ◌∷◌}
use Rattle.forms.specs.Text.{tab, digits}
use Rattle.forms.specs.TextLaws.{whole_digits}
use Rattle.forms.specs.Written.{put_one, same_room}
use Rattle.sheet.specs.Writing.{field}
use Rattle.sheet.proofs.put_field.Goals as goal

pub put_number-k-requires : goal.put_number-k-requires
unfolding field
put_number-k-requires c = let a = c.args in omega (arith, ap length (whole_digits a.v (omega arith)), c.requires, length-append (digits a.v) (tab ∷ []))

pub bounds-out-k : goal.bounds-out-k
unfolding field
bounds-out-k c =
    let w = rw (whole_digits c.args.v (omega arith)) at c.put_number-k.ensures in
    omega (arith, c.requires, length-append (digits c.args.v) (tab ∷ []), w.place, same_room w)

pub overflow_add-result : goal.overflow_add-result
unfolding field
overflow_add-result c =
    let w = rw (whole_digits c.args.v (omega arith)) at c.put_number-k.ensures in
    omega (arith, c.requires, length-append (digits c.args.v) (tab ∷ []), w.place)

pub returns : goal.returns
unfolding field
returns c =
    let w = rw (whole_digits c.args.v (omega arith)) at c.put_number-k.ensures in
    put_one tab w
