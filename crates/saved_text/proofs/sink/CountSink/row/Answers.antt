-- `saved_text::sink::CountSink::row` meets its contract: the line's bytes are counted.
use mathlib.Core.Path.{ap}
use Prim.Native.Nat.{ℕ, ◌+◌}
use native.Mathlib.Omega.{arith}
use Rattle.saved_text.proofs.sink.CountSink.row.Goals as goal

pub overflow_add-self : goal.overflow_add-self
overflow_add-self g c = omega (arith, c.row_length.ensures c.args.letter, c.requires.2.near)

pub returns : goal.returns
returns g c = record { bytes = ap (λ (k : ℕ). c.args.self.now.bytes + k) (c.row_length.ensures c.args.letter) }
