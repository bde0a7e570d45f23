-- `saved_text::writing::row_length` meets its contract: what was counted is the length of the line with the numbers passed.
use mathlib.Core.Path.{◌≡◌, ap}
use mathlib.Core.List.{[], ◌∷◌}
use native.Mathlib.Omega.{arith}
use lib.ListN.{length, length-append, get_or}
use lib.Seq.{take_all}
use Rattle.forms.specs.Text.{newline}
use Rattle.saved_text.specs.Saved.{any_of, row_line}
use Rattle.saved_text.specs.Writing.{row_none}
use Rattle.saved_text.specs.Length.{field_room, row_counted}
use Rattle.saved_text.proofs.Values.{value_at, values_length, values_within}
use Rattle.saved_text.proofs.writing.row_length.Goals as goal

pub loop-v-init : goal.loop-v-init
loop-v-init g c =
    let n = g.N.Number in
    record { short = omega arith; counted = λ letter. omega (arith, ap length (row_none (any_of letter (n.kind_of c.args.kind)) (n.values c.args.numbers.now))) }

pub overflow_add-k : goal.overflow_add-k
overflow_add-k g c = let n = g.N.Number in omega (arith, c.length.ensures, field_room (n.kind_of c.args.kind) (n.value c.v-item.result))

pub overflow_add-k-in-loop-v : goal.overflow_add-k-in-loop-v
overflow_add-k-in-loop-v g c = let n = g.N.Number in omega (arith, c.length.ensures, field_room (n.kind_of c.args.kind) (n.value c.v-item.result), c.loop-v.invariant.short, c.requires)

pub loop-v-preserved : goal.loop-v-preserved
loop-v-preserved g c =
    let n = g.N.Number in
    let each = g.met.N.Number.each in
    let l = c.args.numbers.now in
    let i = c.loop-v.v-index in
    let kind = n.kind_of c.args.kind in
    let v = n.value c.v-item.result in
    let here : get_or (n.values l) i 0 ≡ v = value_at each l i c.v-item.result c.loop-v-test.true c.v-item.is in
    let within = values_within each l i c.loop-v-test.true in
    record {
      short = omega (arith, c.length.ensures, field_room kind v, c.loop-v.invariant.short);
      counted = λ letter. omega (arith, c.length.ensures, c.loop-v.invariant.counted letter, rw here at (row_counted (any_of letter kind) (n.values l) i within));
    }

pub returns : goal.returns
returns g c =
    let n = g.N.Number in
    let each = g.met.N.Number.each in
    let l = c.args.numbers.now in
    let all = take_all c.loop-v.v-index (n.values l) (omega (arith, values_length each l, c.loop-v-test.false)) in
    λ letter. (let m = rw all at (c.loop-v.invariant.counted letter) in omega (arith, length-append (row_line (any_of letter (n.kind_of c.args.kind)) (n.values l)) (newline ∷ [])))
