-- Term 2 in heap mode, on the entry points' own definition: 'members and positions are inverse, and the variable chosen has an activity no
-- lower than any other member that is switched on and unassigned'.
use Rattle.std.specs.Prelude.{ℕ, ◌<◌, ◌≡◌, Bool, List, T, ltb, get_or}
use Rattle.std.proofs.Math.Path.{refl}
use Rattle.std.proofs.Common.{sym}
use Rattle.std.proofs.Math.Bool.{true, false}
use Rattle.std.proofs.Math.Option.{some, some-ne-none}
use Rattle.std.specs.Float.{nan}
use Rattle.std.specs.Float.Ieee.{le}
use Rattle.lit.specs.Numbers.{bad_polarity}
use Rattle.heap.specs.Order.{Inverse}
use Rattle.vsids.specs.Vsids.{Vsids, places, is_open, Found, chose, nothing, get_next}
use Rattle.vsids.proofs.Choice.{chose_right, chosen_highest}
use Rattle.choosers.specs.Heap.{heap_ops, next_of}
use Rattle.book.specs.Calls.{decide}
use Rattle.book.specs.Session.{status, reply, leaves, need, decided, Session, call}
use Rattle.session.specs.Asked.{Asked, asked}
use Rattle.heap_entry.specs.Entry.{entered, made}
use Rattle.heap_entry.specs.Checked.{Doubles, heap_sound}
use Rattle.heap_entry.specs.Entered.{unchecked, bad_refused, entered_good, made_good}

-- v is switched on and unassigned, and of all these it has the highest activity, or one of the highest
pub record Highest (n : ℕ) (values : List ℕ) (h : Vsids) (v : ℕ) : Type 0 where
  pub var : v < n
  pub chosen_open : is_open values h.decision v ≡ true
  pub no_lower : (u : ℕ) → u < n → is_open values h.decision u ≡ true → T (le (get_or h.activity u nan) (get_or h.activity v nan))

module _ (n m : ℕ) (lits : List ℕ) (literals : ℕ) (ends : List ℕ) where
  module _ (a : Asked) (s : Session n m (heap_ops n lits ends)) (doubles : Doubles s.chooser) (accepted : status (entered n m lits literals ends a s) ≡ 0) where
    abbrev pub after : Session n m (heap_ops n lits ends)
    after = leaves s (entered n m lits literals ends a s)

    -- after an accepted call members and positions are inverse
    pub entered_inverse : Inverse n after.chooser.len (places after.chooser)
    entered_inverse = (entered_good n m lits literals ends a s doubles accepted).heap.inverse

    -- the answer v of `get_next`, where the reply is v
    chosen : (p v : ℕ) → reply (call n m (heap_ops n lits ends) s (decide p)) ≡ some v → (h' : Vsids) × (get_next s.trail.values s.chooser ≡ chose v h')
    unfolding call need decided
    chosen p v = go (ltb p 2) (get_next s.trail.values s.chooser) refl
      where
        go : (b : Bool) (x : Found) → get_next s.trail.values s.chooser ≡ x → reply (need b bad_polarity (decided n m (heap_ops n lits ends) p s (next_of x))) ≡ some v
            → (h' : Vsids) × (get_next s.trail.values s.chooser ≡ chose v h')
        go false x q e = absurd (some-ne-none v (sym e))
        go true (chose w h') q e = (h', cc)
        go true (nothing h') q e = absurd (some-ne-none v (sym e))

    -- and the variable that an accepted decide chose had the highest activity
    pub decided_highest : (p v : ℕ) → asked a ≡ decide p → reply (entered n m lits literals ends a s) ≡ some v → Highest n s.trail.values s.chooser v
    unfolding heap_sound
    decided_highest p v e r =
        let g = bad_refused n m lits literals ends a s doubles accepted in
        let k = chosen p v (rw (unchecked n m lits literals ends a s g.0 g.1, e) at r) in
        let c = chose_right s.chooser g.0.session.heap k.1 in
        record { var = c.var; chosen_open = c.chosen_open; no_lower = chosen_highest g.0.session.heap c }

  -- and so they are in a fresh session
  pub made_inverse : (s : Session n m (heap_ops n lits ends)) → status (made n m lits literals ends s) ≡ 0 → let u = leaves s (made n m lits literals ends s) in
      Inverse n u.chooser.len (places u.chooser)
  made_inverse s e = (made_good n m lits literals ends s e).heap.inverse
