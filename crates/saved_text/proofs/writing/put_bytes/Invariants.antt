use Prim.Native.Nat.{◌+◌, ◌≤◌}
use lib.ListN.{length, take}
use Rattle.forms.specs.Written.{Wrote}
use Rattle.saved_text.proofs.writing.put_bytes.Given as goal

abbrev pub invariant-loop-i : goal.invariant-loop-i
invariant-loop-i l = (l.i ≤ length l.word) × Wrote l.at (take l.i l.word) l.initial.out l.out (l.at + l.i)
