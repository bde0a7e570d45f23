-- Writing piece by piece: what is written behind a piece is written with it. Assumes nothing.
use Rattle.std.specs.Prelude.{◌≡◌, ℕ, ◌+◌, List, [], ◌∷◌, ◌++◌, length, slice_set, refl}
use Rattle.std.proofs.Common.{ap, ◌∙◌, arith, length-append}
use Rattle.forms.specs.Text.{written}
use Rattle.forms.specs.TextLaws.{written_append, written_length}

-- the buffer r and the place k are what the bytes a leave, written into the buffer l from a place on
pub record Wrote (at : ℕ) (a l r : List ℕ) (k : ℕ) : Type 0 where
  pub buffer : r ≡ written at a l
  pub place : k ≡ at + length a

pub put_more : {at : ℕ} {a l r : List ℕ} {k : ℕ} {b r' : List ℕ} {k' : ℕ} → Wrote at a l r k → Wrote k b r r' k' → Wrote at (a ++ b) l r' k'
put_more {at} {a} {l} {b = b} w v = record {
  buffer = rw (v.buffer, w.buffer, w.place, written_append at a b l);
  place = omega (arith, v.place, w.place, length-append a b);
}

pub put_one : {at : ℕ} {a l r : List ℕ} {k : ℕ} (b : ℕ) → Wrote at a l r k → Wrote at (a ++ (b ∷ [])) l (slice_set r k b) (k + 1)
unfolding written
put_one {r = r} {k} b w = put_more w (record { buffer = refl; place = refl })

-- the buffer keeps its length
pub same_room : {at : ℕ} {a l r : List ℕ} {k : ℕ} → Wrote at a l r k → length r ≡ length l
same_room {at} {a} {l} w = ap length w.buffer ∙ written_length at a l
