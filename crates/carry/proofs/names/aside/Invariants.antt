use Rattle.std.proofs.Common.{string_bytes, ◌≡◌, ◌≤◌, ◌∷◌, ◌++◌, take}
use Rattle.carry.specs.Names.{AreLetters}
use Rattle.carry.proofs.names.aside.Given as goal

abbrev pub invariant-loop-letter : goal.invariant-loop-letter
invariant-loop-letter l = AreLetters 8 l.letter-items × (l.letter-index ≤ 8) × (string_bytes l.name ≡ l.fn.file ++ 46 ∷ take l.letter-index l.letter-items)
