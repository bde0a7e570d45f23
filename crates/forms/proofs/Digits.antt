-- Digits that are read one by one: what is left of them still decides, read behind the number that the others gave.
use Rattle.std.proofs.Common.{◌≡◌, ℕ, ◌+◌, ◌-◌, ◌*◌, ◌<◌, ◌≤◌, leb, List, [], ◌∷◌, length, get_or, take, drop, sym, refl, ap, ◌∙◌, arith, length-take-le, get_or-drop, get_or-take, leb-true, Option, Some, None}
use mathlib.Core.Option.{some}
use Rattle.laws.specs.Tests.{and_left, and_right}
use Rattle.forms.specs.Letters.{digit_zero, digit_nine}
use Rattle.forms.specs.Text.{number_up_to}
use Rattle.forms.specs.Reading.{number_from, digit_of, digit_run, run, digit_told, digit_untold, run_next, run_digit, run_here, run_none, run_length, digits_none, number_next, number_over, number_end, number_starts, number_empty, number_zero}
use Rattle.forms.specs.TextRead.{field_of}
use Rattle.forms.specs.declared.text.Field.{Field}

-- what stands from a place on begins with the byte there
pub in_front : (bytes : List ℕ) (at n : ℕ) → 0 < n → get_or (take n (drop at bytes)) 0 0 ≡ get_or bytes at 0
in_front bytes at n h = let same : at + 0 ≡ at = omega arith in get_or-take n (drop at bytes) 0 0 h ∙ get_or-drop at bytes 0 0 ∙ ap (λ (k : ℕ). get_or bytes k 0) same

-- from place i on, behind the number v
pub record Left (bytes : List ℕ) (at top v i : ℕ) : Type 0 where
  pub from : at ≤ i
  pub within : i ≤ length bytes
  pub ends : at + digit_run (drop at bytes) ≡ i + digit_run (drop i bytes)
  pub value : number_from top 0 (run (drop at bytes)) ≡ number_from top v (run (drop i bytes))

-- what is read at a place
abbrev pub read_at : List ℕ → ℕ → ℕ → Option Field
read_at bytes at top = field_of (at + digit_run (drop at bytes)) (number_up_to top (run (drop at bytes)))

module _ (bytes : List ℕ) (at top : ℕ) where
  pub start : at ≤ length bytes → Left bytes at top 0 at
  start h = record { from = omega arith; within = h; ends = refl; value = refl }

  -- a digit more
  pub more : (v i d : ℕ) → Left bytes at top v i → i < length bytes → Some d ≡ digit_of (get_or bytes i 0) → Left bytes at top (v * 10 + d) (i + 1)
  more v i d l h q =
      let b = get_or bytes i 0 in
      let e = digit_told b q in
      let low = leb-true digit_zero b (and_left (leb digit_zero b) (leb b digit_nine) e.0) in
      let high = leb-true b digit_nine (and_right (leb digit_zero b) (leb b digit_nine) e.0) in
      record {
        from = omega (arith, l.from);
        within = omega (arith, h);
        ends = omega (arith, l.ends, run_next bytes i h e.0);
        value = rw e.1 (l.value ∙ ap (number_from top v) (run_digit bytes i h e.0) ∙ number_next top v (b ∷ run (drop (i + 1) bytes)) 0 (omega arith) low high);
      }

  -- .. the first one
  pub begun : (d : ℕ) → at < length bytes → Some d ≡ digit_of (get_or bytes at 0) → Left bytes at top d (at + 1)
  begun d h q = let e : 0 * 10 + d ≡ d = omega arith in rw e at (more 0 at d (start (omega (arith, h))) h q)

  -- how many digits there are up to their end, and the first of them
  long : (v i : ℕ) → Left bytes at top v i → digit_run (drop i bytes) ≡ 0 → length (run (drop at bytes)) ≡ i - at
  long v i l e = length-take-le (digit_run (drop at bytes)) (drop at bytes) (run_length (drop at bytes)) ∙ omega (arith, l.ends)

  first : 0 < digit_run (drop at bytes) → get_or (run (drop at bytes)) 0 0 ≡ get_or bytes at 0
  first = in_front bytes at (digit_run (drop at bytes))

  -- no digit at all
  pub nothing : digit_run (drop at bytes) ≡ 0 → None ≡ read_at bytes at top
  nothing e = sym (ap (field_of _) (number_empty top _ (length-take-le (digit_run (drop at bytes)) (drop at bytes) (run_length (drop at bytes)) ∙ e)))

  -- a zero that leads
  pub leading : get_or bytes at 0 ≡ digit_zero → 1 < digit_run (drop at bytes) → None ≡ read_at bytes at top
  leading z h = sym (ap (field_of _) (number_zero top _ (first (omega (arith, h)) ∙ z) (omega (arith, h, length-take-le (digit_run (drop at bytes)) (drop at bytes) (run_length (drop at bytes))))))

  -- a number that is too great, as far as it is read
  pub too_great : (v i : ℕ) → Left bytes at top v i → top < v → None ≡ read_at bytes at top
  too_great v i l h = sym (ap (field_of _) (digits_none top _ (l.value ∙ number_over top v _ h)))

  -- the number, where the digits end
  pub the_number : (v i : ℕ) → Left bytes at top v i → digit_run (drop i bytes) ≡ 0 → at < i → v ≤ top → (get_or bytes at 0 ≡ digit_zero → i ≡ at + 1) → Some (record { value = v; end = i }) ≡ read_at bytes at top
  the_number v i l e h s z =
      let some-digits : 0 < digit_run (drop at bytes) = omega (arith, l.ends, h) in
      let is_number : number_up_to top (run (drop at bytes)) ≡ some v = number_starts top _ (omega (arith, long v i l e)) (λ w k. omega (arith, z (sym (first some-digits) ∙ w), long v i l e)) ∙ l.value ∙ rw e (number_end top v [] 0 (omega arith) s) in
      let at-end : i ≡ at + digit_run (drop at bytes) = omega (arith, l.ends, e) in
      rw (is_number) (ap (λ (k : ℕ). Some (record { value = v; end = k })) at-end)

-- the digits end where there is no byte more, or one that is no digit
module _ (bytes : List ℕ) (i : ℕ) where
  pub no_digit : i < length bytes → None ≡ digit_of (get_or bytes i 0) → digit_run (drop i bytes) ≡ 0
  no_digit h n = run_here bytes i h (digit_untold (get_or bytes i 0) n)

  pub no_byte : length bytes ≤ i → digit_run (drop i bytes) ≡ 0
  no_byte h = run_none bytes i h

-- a digit is below 10
pub digit_small : (b d : ℕ) → Some d ≡ digit_of b → d < 10
digit_small b d q =
    let e = digit_told b q in
    omega (arith, leb-true b digit_nine (and_right (leb digit_zero b) (leb b digit_nine) e.0), e.1)
