-- A good heap is what its text says, and what is written of a good heap that a text says is the text. Assumes nothing.
use Rattle.std.specs.Prelude.{ℕ, ◌<◌, ◌≤◌, ◌^◌, ◌≡◌, refl, not, List, [], ◌∷◌, map, T, Float, length, get_or, take, replicate}
use Rattle.std.proofs.Common.{sym, ap, ◌∙◌, arith, length-take-le, get_or-take}
use Rattle.std.proofs.Math.Logic.{by_cases}
use Rattle.std.proofs.Math.Decide.{ℕ_discrete}
use Rattle.std.specs.Float.Ieee.{nan, binary64, fits, is_nan, le, of_bits, to_bits}
use Rattle.std.specs.Float.{inf, fin}
use Rattle.std.specs.Float.Ieee.Bits.{of_bits-fits, of_bits-to_bits, to_bits-lt, to_bits-of_bits}
use Rattle.std.proofs.lemmas.List.{length-map}
use Rattle.laws.specs.Each.{Each}
use Rattle.laws.specs.InPlace.{up_to, length_up_to, get_or_up_to}
use Rattle.lit.specs.Numbers.{NONE}
use Rattle.activity.specs.Upright.{Upright, finite, infinite, number}
use Rattle.trail.specs.Trail.{Trail}
use Rattle.vsids.specs.Vsids.{Vsids}
use Rattle.vsids.specs.Good.{GoodHeap}
use Rattle.forms.specs.Forms.{vsids}
use Rattle.forms.specs.Spelling.{Whole}
use Rattle.saved_text.specs.Saved.{bits, switch, Fits, chooser_forms, Rows, Saved, WellFormed}
use Rattle.saved_state.specs.Written.{heap_rows, saved_of, saved_heap}
use Rattle.saved_state.specs.Said.{stores, padded, row, heap_said}
use Rattle.saved_state.specs.Judged.{DoubleStep}
use Rattle.saved_state.specs.Eachs.{get_or_mapped, each_of, each_at, each_mapped, mapped_back}
use Rattle.saved_state.specs.Stores.{padded_length, in_use, whole_again, Apart, stored_length, stores_are}
use Rattle.saved_state.specs.Rows.{two_numbers, line}

-- ---- doubles that are no NaN
pub upright_no : {x : Float} → Upright x → T (not (is_nan x))
unfolding is_nan
upright_no (finite (number m e)) = tt
upright_no infinite = tt

pub above_no : (x y : Float) → T (le x y) → T (not (is_nan y))
unfolding is_nan le
above_no nan nan h = h
above_no (inf s) nan h = h
above_no (fin s m e) nan h = h
above_no x (inf t) h = tt
above_no x (fin t n d) h = tt

module _ {n : ℕ} {values : List ℕ} {h : Vsids} (g : GoodHeap n values h) where
  abbrev members : List ℕ
  members = take h.len h.heap

  pub members_length : length members ≡ h.len
  members_length = length-take-le h.len h.heap (omega (arith, g.inverse.room.heap_long, g.inverse.room.fits))

  member_is : (i : ℕ) → i < h.len → get_or members i 0 ≡ get_or h.heap i 0
  member_is i b = get_or-take h.len h.heap i 0 b

  apart : Apart n members
  apart = record {
    below = λ i b. (let k : i < h.len = omega (arith, members_length) in rw (member_is i k) (g.inverse.room.members i k));
    once = λ i j b c e. (let k : j < h.len = omega (arith, members_length) in
        let same : get_or h.heap i 0 ≡ get_or h.heap j 0 = sym (member_is i (omega arith)) ∙ e ∙ member_is j k in
        omega (arith, g.inverse.back i (omega arith), g.inverse.back j k, ap (λ (v : ℕ). get_or h.indices v 0) same));
  }

  -- what holds of each variable holds of each member
  pub each_member : (P : ℕ → Type 0) → ((v : ℕ) → v < n → P v) → Each P members
  each_member P f = each_of P members 0 (λ i b. f (get_or members i 0) (apart.below i b))

  indices_again : stores (replicate n NONE) members (up_to (length members)) ≡ h.indices
  indices_again =
      stores_are NONE members (up_to (length members)) 0 apart (omega (arith, length_up_to (length members))) h.indices g.inverse.room.indices_long
      (λ i b. let k : i < h.len = omega (arith, members_length) in ap (λ (v : ℕ). get_or h.indices v 0) (member_is i k) ∙ g.inverse.back i k ∙ sym (get_or_up_to (length members) i b))
      (λ w b k.
      by_cases (ℕ_discrete (get_or h.indices w 0) NONE)
      (λ e. e)
      (λ d. let p = g.inverse.placed w b d in absurd (k (get_or h.indices w 0) (omega (arith, members_length, p.0)) (member_is (get_or h.indices w 0) p.0 ∙ p.1))))

  activity_again : map (of_bits binary64) (map (to_bits binary64) h.activity) ≡ h.activity
  activity_again = mapped_back (to_bits binary64) (of_bits binary64) h.activity nan (λ v b. of_bits-to_bits binary64 (get_or h.activity v nan) (g.scores.doubles v (omega (arith, g.scores.long))))

  module _ (double : DoubleStep h) where
    -- written and read
    pub heap_again : (lits ends : List ℕ) (t : Trail) → heap_said (saved_heap n lits ends t h) ≡ h
    unfolding saved_of
    heap_again lits ends t =
        let heap : padded n members ≡ h.heap = whole_again n h.len h.heap g.inverse.room.heap_long g.inverse.room.fits g.inverse.unused in
        let inc = of_bits-to_bits binary64 h.step.inc double.0 in
        let decay = of_bits-to_bits binary64 h.step.decay double.1 in
        λ i. record {
          activity = activity_again i;
          heap = heap i;
          indices = indices_again i;
          decision = h.decision;
          len = members_length i;
          step = record { inc = inc i; decay = decay i };
        }

    -- what is written has the form
    pub heap_formed : Rows (chooser_forms vsids n) (heap_rows h)
    unfolding Rows
    heap_formed =
        let in_heap_lem = each_member Whole (λ v b. omega (arith, g.inverse.room.small)) in
        let activity = each_mapped (Fits bits) (to_bits binary64) h.activity nan (λ v b. to_bits-lt binary64 (get_or h.activity v nan) (g.scores.doubles v (omega (arith, g.scores.long)))) in
        let switches = each_of (Fits switch) h.decision 0 (λ v b. omega (arith, g.on_or_off v (omega (arith, g.switches)))) in
        let inc = to_bits-lt binary64 h.step.inc double.0 in
        let decay = to_bits-lt binary64 h.step.decay double.1 in
        ((tt, in_heap_lem), ((length-map h.activity (to_bits binary64) ∙ g.scores.long, activity), ((g.switches, switches), ((refl, (inc, (decay, tt))), tt))))

-- ---- what a text says
module _ (s : Saved) (w : WellFormed s) (mode : s.opening.mode ≡ vsids) where
  abbrev n : ℕ
  n = s.opening.vars

  -- has the lengths, where there is room; the doubles of its memory are doubles
  pub activity_long : length (heap_said s).activity ≡ n
  activity_long = length-map (row s 4) (of_bits binary64) ∙ (line s w vsids mode 4 (omega arith)).0

  pub heap_long : length (row s 3) ≤ n → length (heap_said s).heap ≡ n
  heap_long h = padded_length n (row s 3) h

  pub indices_long : length (heap_said s).indices ≡ n
  indices_long = stored_length n NONE (row s 3) (up_to (length (row s 3)))

  pub decision_long : length (heap_said s).decision ≡ n
  decision_long = (line s w vsids mode 5 (omega arith)).0

  pub doubles : (v : ℕ) → v < length (heap_said s).activity → T (fits binary64 (get_or (heap_said s).activity v nan))
  doubles v b = rw (get_or_mapped (of_bits binary64) (row s 4) v 0 nan (omega (arith, length-map (row s 4) (of_bits binary64)))) (of_bits-fits binary64 (get_or (row s 4) v 0))

  pub double_step : DoubleStep (heap_said s)
  double_step = (of_bits-fits binary64 (get_or (row s 6) 0 0), of_bits-fits binary64 (get_or (row s 6) 1 0))

  -- read and written
  pub heap_back : {values : List ℕ} → GoodHeap n values (heap_said s) → heap_rows (heap_said s) ≡ row s 3 ∷ row s 4 ∷ row s 5 ∷ row s 6 ∷ []
  heap_back g =
      let pair = line s w vsids mode 6 (omega arith) in
      let bit : (j : ℕ) → j < 2 → get_or (row s 6) j 0 < 2 ^ 64 = λ j b. each_at (Fits bits) (row s 6) j 0 pair.1 (omega (arith, pair.0)) in
      let inc = to_bits-of_bits binary64 (get_or (row s 6) 0 0) (bit 0 (omega arith)) (upright_no g.scores.step.inc.sound) in
      let decay = to_bits-of_bits binary64 (get_or (row s 6) 1 0) (bit 1 (omega arith)) (above_no _ (of_bits binary64 (get_or (row s 6) 1 0)) g.scores.step.decay.low) in
      let step : to_bits binary64 (of_bits binary64 (get_or (row s 6) 0 0)) ∷ to_bits binary64 (of_bits binary64 (get_or (row s 6) 1 0)) ∷ [] ≡ row s 6 = rw (inc, decay) (sym (two_numbers (row s 6) pair.0)) in
      let in_heap_lem = in_use n (row s 3) in
      let patterns = line s w vsids mode 4 (omega arith) in
      let activity = mapped_back (of_bits binary64) (to_bits binary64) (row s 4) 0 (λ v b.
      to_bits-of_bits binary64 (get_or (row s 4) v 0) (each_at (Fits bits) (row s 4) v 0 patterns.1 b)
      (rw (get_or_mapped (of_bits binary64) (row s 4) v 0 nan b) at (upright_no (g.scores.bounded v (omega (arith, patterns.0))).sound))) in
      λ i. in_heap_lem i ∷ activity i ∷ row s 5 ∷ step i ∷ []
