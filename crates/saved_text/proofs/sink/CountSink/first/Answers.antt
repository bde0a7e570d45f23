-- `saved_text::sink::CountSink::first` meets its contract: letter, tabs and newline are four bytes, beside N's digits and the word.
use mathlib.Core.Path.{◌≡◌, ap}
use Prim.Native.Nat.{ℕ, ◌+◌}
use native.Mathlib.Omega.{arith}
use lib.ListN.{length}
use Rattle.saved_text.specs.Writing.{whole_text}
use Rattle.saved_text.specs.Written.{first_length}
use Rattle.saved_text.specs.Puts.{first_text}
use Rattle.saved_text.proofs.sink.CountSink.first.Goals as goal
use Rattle.saved_text.proofs.sink.CountSink.first.Goals.{After-digit_count}

bytes : (c : After-digit_count) → 4 + c.digit_count.result + length c.args.word.now ≡ length (first_text c.args.n c.args.word.now)
bytes c = omega (arith, c.digit_count.ensures, first_length c.args.n c.args.word.now, ap length (whole_text c.args.n (omega arith)))

pub overflow_add-self : goal.overflow_add-self
overflow_add-self c = omega (arith, bytes c, c.requires.near)

pub overflow_add-self-2 : goal.overflow_add-self-2
overflow_add-self-2 c = omega (arith, bytes c, c.requires.near)

pub overflow_add-self-3 : goal.overflow_add-self-3
overflow_add-self-3 c = omega (arith, bytes c, c.requires.near)

pub returns : goal.returns
returns c = record { bytes = ap (λ (k : ℕ). c.args.self.now.bytes + k) (bytes (goal.at.returns c).After-digit_count) }
