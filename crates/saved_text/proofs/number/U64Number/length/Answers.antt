-- `saved_text::number::U64Number::length` meets its contract: bits have sixteen digits.
use mathlib.Core.Path.{sym}
use Rattle.saved_text.specs.Length.{bits_length}
use Rattle.saved_text.proofs.number.U64Number.length.Goals as goal

pub returns-in-Bits : goal.returns-in-Bits
returns-in-Bits c = rw c.in-Bits.is (sym (bits_length 16 c.args.self))
