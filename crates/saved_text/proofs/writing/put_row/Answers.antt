-- `saved_text::writing::put_row` meets its contract: what was written is the line with the numbers passed.
use Prim.Native.Nat.{ℕ, ◌+◌, ◌≤◌, ◌<◌}
use mathlib.Core.Path.{◌≡◌, refl}
use mathlib.Core.List.{List}
use native.Mathlib.Omega.{arith}
use lib.ListN.{length, length-set, get_or, take}
use lib.Seq.{take_all}
use Rattle.forms.specs.Text.{tab, newline, written}
use Rattle.forms.specs.Spelling.{behind}
use Rattle.forms.specs.Written.{Wrote, put_one}
use Rattle.saved_text.specs.Saved.{any_of, field_text, row_line}
use Rattle.saved_text.specs.Puts.{row_text}
use Rattle.saved_text.specs.Written.{row_put, row_fits}
use Rattle.saved_text.proofs.Values.{value_at, values_length, values_within}
use Rattle.saved_text.proofs.writing.put_row.Given as given
use Rattle.saved_text.proofs.writing.put_row.Goals as goal

-- the number of a turn has room, and the newline behind it
module _ (g : given.Over) (out : List ℕ) (at letter : ℕ) (kind : g.row.N-Kind.Denot) (numbers : List g.row.N.Denot) (i : ℕ) (x : g.row.N.Denot) {r : List ℕ} {k : ℕ} where
  turn : i < length numbers → x ≡ get_or numbers i x → let n = g.N.Number in let f = any_of letter (n.kind_of kind) in at + length (row_text letter f.kind (n.values numbers)) ≤ length out → Wrote at (row_line f (take i (n.values numbers))) out r k → k + 1 + length (field_text f.kind (n.value x)) + 1 ≤ length r
  turn h e room w =
      let n = g.N.Number in
      let each = g.met.N.Number.each in
      row_fits (any_of letter (n.kind_of kind)) (n.values numbers) i (n.value x) (values_within each numbers i h) (value_at each numbers i x h e) room w

pub loop-v-init : goal.loop-v-init
unfolding behind written
loop-v-init g c = record { buffer = refl; place = refl }

pub bounds-out-end : goal.bounds-out-end
bounds-out-end g c = omega (arith, turn g c.args.out.now c.args.at c.args.letter c.args.kind c.args.numbers.now c.loop-v.v-index c.v-item.result c.loop-v-test.true c.v-item.is c.requires c.loop-v.invariant)

pub overflow_add-end-in-loop-v : goal.overflow_add-end-in-loop-v
overflow_add-end-in-loop-v g c = omega (arith, turn g c.args.out.now c.args.at c.args.letter c.args.kind c.args.numbers.now c.loop-v.v-index c.v-item.result c.loop-v-test.true c.v-item.is c.requires c.loop-v.invariant, c.loop-v.auto.out, length-set c.args.out.now c.args.at c.args.letter, c.well_formed)

pub put-end-requires : goal.put-end-requires
put-end-requires g c = omega (arith, turn g c.args.out.now c.args.at c.args.letter c.args.kind c.args.numbers.now c.loop-v.v-index c.v-item.result c.loop-v-test.true c.v-item.is c.requires c.loop-v.invariant, length-set c.loop-v.out c.loop-v.end tab)

pub loop-v-preserved : goal.loop-v-preserved
loop-v-preserved g c =
    let n = g.N.Number in
    let each = g.met.N.Number.each in
    let a = c.args in
    let i = c.loop-v.v-index in
    let here = value_at each a.numbers.now i c.v-item.result c.loop-v-test.true c.v-item.is in
    row_put (any_of a.letter (n.kind_of a.kind)) (n.values a.numbers.now) i (values_within each a.numbers.now i c.loop-v-test.true) c.loop-v.invariant (rw here c.put-end.ensures)

pub returns : goal.returns
returns g c =
    let n = g.N.Number in
    let a = c.args in
    let all = take_all c.loop-v.v-index (n.values a.numbers.now) (omega (arith, values_length g.met.N.Number.each a.numbers.now, c.loop-v-test.false)) in
    put_one newline (rw all at c.loop-v.invariant)
