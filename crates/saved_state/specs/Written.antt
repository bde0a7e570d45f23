-- What is written of a session, in either mode: the numbers of its text's lines.
use Rattle.std.specs.Prelude.{ℕ, List, [], ◌∷◌, ◌++◌, map, length, get_or, take}
use Rattle.std.specs.Float.{binary64}
use Rattle.std.specs.Float.Ieee.{to_bits}
use Rattle.lit.specs.Lits.{index}
use Rattle.formula.specs.Clauses.{clauses}
use Rattle.trail.specs.Trail.{Trail}
use Rattle.vsids.specs.Vsids.{Vsids}
use Rattle.vmtf.specs.Vmtf.{Vmtf, from}
use Rattle.forms.specs.Forms.{Mode, vsids, vmtf}
use Rattle.saved_text.specs.Saved.{Saved}

-- the codes on the trail, and what a list holds for their variables
abbrev pub codes_of : Trail → List ℕ
codes_of t = take t.len t.trail

abbrev pub along : List ℕ → List ℕ → List ℕ
along codes l = map (λ c. get_or l (index c) 0) codes

abbrev pub trail_rows : Trail → List (List ℕ)
trail_rows t = along (codes_of t) t.levels ∷ along (codes_of t) t.reasons ∷ (t.curr ∷ []) ∷ []

abbrev pub heap_rows : Vsids → List (List ℕ)
heap_rows h = take h.len h.heap ∷ map (to_bits binary64) h.activity ∷ h.decision ∷ (to_bits binary64 h.step.inc ∷ to_bits binary64 h.step.decay ∷ []) ∷ []

-- the variables from the front
abbrev pub order_of : Vmtf → List ℕ
order_of l = from l.next (length l.next) l.start

abbrev pub list_rows : Vmtf → List (List ℕ)
list_rows l = order_of l ∷ map (λ v. get_or l.ts v 0) (order_of l) ∷ (l.timestamp ∷ []) ∷ (l.search ∷ []) ∷ []

unfoldable pub saved_of : Mode → ℕ → List ℕ → List ℕ → Trail → List (List ℕ) → Saved
saved_of mode n lits ends t rows = record { opening = record { vars = n; mode = mode }; clauses = clauses lits ends; codes = codes_of t; rows = trail_rows t ++ rows }

abbrev pub saved_heap : ℕ → List ℕ → List ℕ → Trail → Vsids → Saved
saved_heap n lits ends t h = saved_of vsids n lits ends t (heap_rows h)

abbrev pub saved_list : ℕ → List ℕ → List ℕ → Trail → Vmtf → Saved
saved_list n lits ends t l = saved_of vmtf n lits ends t (list_rows l)
