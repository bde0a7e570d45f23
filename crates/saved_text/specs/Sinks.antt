-- Where a text goes piece by piece, and what holds of each such place. Assumes nothing.
use Rattle.std.specs.Prelude.{ℕ, ◌+◌, ◌≤◌, ◌≡◌, List, [], ◌++◌, length}
use Rattle.std.proofs.Math.Path.{refl}
use Rattle.std.proofs.Common.{◌∙◌, arith, length-append}
use Rattle.forms.specs.Text.{written}
use Rattle.forms.specs.Written.{Wrote, put_more, same_room}
use Rattle.saved_text.specs.Puts.{farthest}
use Rattle.saved_text.specs.declared.sink.Count.{Count}
use Rattle.saved_text.specs.declared.sink.Buffer.{Buffer}

-- Pieces go one behind the other; where there is room for a piece and what comes behind it, there is room for the piece, and then for the rest.
pub record SinkLaws {S : Type 0} (puts : S → List ℕ → S → Type 0) (room : S → List ℕ → Type 0) : Type 0 where
  pub puts_none : (s : S) → puts s [] s
  pub puts_more : {s t u : S} {a b : List ℕ} → puts s a t → puts t b u → puts s (a ++ b) u
  pub room_first : {s : S} (a b : List ℕ) → room s (a ++ b) → room s a
  pub room_next : {s t : S} (a b : List ℕ) → room s (a ++ b) → puts s a t → room t b

-- The bytes are counted.
pub record Counted (s : Count) (a : List ℕ) (t : Count) : Type 0 where
  pub bytes : t.bytes ≡ s.bytes + length a

pub record Countable (s : Count) (a : List ℕ) : Type 0 where
  pub near : s.bytes + length a ≤ farthest

pub count_laws : SinkLaws Counted Countable
count_laws = record {
  puts_none = λ s. record { bytes = omega arith };
  puts_more = λ {s} {t} {u} {a} {b} p q. record { bytes = omega (arith, p.bytes, q.bytes, length-append a b) };
  room_first = λ {s} a b r. record { near = omega (arith, r.near, length-append a b) };
  room_next = λ {s} {t} a b r p. record { near = omega (arith, r.near, p.bytes, length-append a b) };
}

-- The bytes are written into the buffer from its place on.
pub record Written (s : Buffer) (a : List ℕ) (t : Buffer) : Type 0 where
  pub wrote : Wrote s.at a s.out.now t.out.now t.at
  pub same : s.out.ghost_name ≡ t.out.ghost_name

pub record Writable (s : Buffer) (a : List ℕ) : Type 0 where
  pub near : s.at + length a ≤ farthest
  pub fits : s.at + length a ≤ length s.out.now

nothing_wrote : (at : ℕ) (l : List ℕ) → Wrote at [] l l at
unfolding written
nothing_wrote at l = record { buffer = refl; place = omega arith }

pub buffer_laws : SinkLaws Written Writable
buffer_laws = record {
  puts_none = λ s. record { wrote = nothing_wrote s.at s.out.now; same = refl };
  puts_more = λ {s} {t} {u} {a} {b} p q. record { wrote = put_more p.wrote q.wrote; same = p.same ∙ q.same };
  room_first = λ {s} a b r. record { near = omega (arith, r.near, length-append a b); fits = omega (arith, r.fits, length-append a b) };
  room_next = λ {s} {t} a b r p. record { near = omega (arith, r.near, p.wrote.place, length-append a b); fits = omega (arith, r.fits, p.wrote.place, same_room p.wrote, length-append a b) };
}
