-- `saved_text::number::U64Number::put` meets its contract: bits have sixteen digits.
use native.Mathlib.Omega.{arith}
use Rattle.saved_text.specs.Length.{bits_length}
use Rattle.saved_text.proofs.number.U64Number.put.Goals as goal

pub put_bits-requires : goal.put_bits-requires
put_bits-requires c = let room = rw c.in-Bits.is at c.requires in omega (arith, bits_length 16 c.args.self)
