-- A good session meets what the loops that write it ask: its codes are literals of its variables, its list leads through all of them, and no activity is a NaN.
-- Assumes nothing.
use Rattle.std.specs.Prelude.{ℕ, ◌<◌, ◌≡◌, not, List, T, length, get_or}
use Rattle.std.proofs.Common.{ap, ◌∙◌, arith}
use Rattle.std.specs.Float.{nan}
use Rattle.std.specs.Float.Ieee.{is_nan}
use Rattle.trail.specs.Trail.{Trail}
use Rattle.trail.specs.Good.{GoodTrail}
use Rattle.vsids.specs.Vsids.{Vsids}
use Rattle.vsids.specs.Good.{GoodHeap}
use Rattle.vmtf.specs.Vmtf.{Vmtf, from, Ends}
use Rattle.vmtf.specs.Good.{Linked, few, chain, order_is, order_length}
use Rattle.saved_state.specs.Written.{codes_of}
use Rattle.saved_state.specs.OfTrail.{codes_length, code_is}
use Rattle.saved_state.specs.OfHeap.{upright_no}
use Rattle.saved_state.specs.Loops.{Codes}

pub good_codes : {n m : ℕ} {t : Trail} → GoodTrail n m t → Codes n (codes_of t)
good_codes {t = t} g i h = let b : i < t.len = omega (arith, codes_length g) in rw (code_is g i b) (g.codes_in i b)

pub good_walk : {n : ℕ} {order : List ℕ} {l : Vmtf} → Linked n order l → Ends l.next l.start × (length (from l.next (length l.next) l.start) ≡ n)
good_walk {order = order} k = (record { rest = order; chain = chain k; short = omega (arith, order_length k, k.next_long); small = few k }, ap length (order_is k) ∙ order_length k)

pub good_doubles : {n : ℕ} {values : List ℕ} {h : Vsids} → GoodHeap n values h → (v : ℕ) → v < length h.activity → T (not (is_nan (get_or h.activity v nan)))
good_doubles g v b = upright_no (g.scores.bounded v (omega (arith, g.scores.long))).sound
