-- The claims on saved sessions in heap mode: what is read is what was written, and nothing else is taken. Assumes nothing.
use Rattle.std.specs.Prelude.{ℕ, ◌+◌, ◌*◌, ◌≤◌, ◌≡◌, refl, ◌↔◌, true, List, length, take}
use Rattle.std.proofs.Common.{sym, ap, subst, ◌∙◌, arith}
use Rattle.std.proofs.Math.Option.{none, some}
use Rattle.lit.specs.Numbers.{bad_saved}
use Rattle.trail.specs.Trail.{Trail}
use Rattle.vsids.specs.Vsids.{Vsids}
use Rattle.book.specs.Session.{Result, done, status, reply, leaves, Session}
use Rattle.book.specs.Saved.{forgot}
use Rattle.session.specs.Entry.{reply_number}
use Rattle.session.specs.Entered.{GoodMemory}
use Rattle.choosers.specs.Heap.{heap_ops}
use Rattle.heap_session.specs.Good.{GoodSession}
use Rattle.heap_entry.specs.Entry.{heap_mode}
use Rattle.heap_entry.specs.Kept.{IsGood}
use Rattle.heap_entry.specs.Checked.{Doubles, heap_sound as lent-sound}
use Rattle.forms.specs.Forms.{vsids}
use Rattle.forms.specs.Text.{written}
use Rattle.saved_text.specs.Saved.{Saved, text_of}
use Rattle.saved_state.specs.Written.{heap_rows, saved_heap}
use Rattle.saved_state.specs.Entry.{Memory, wrote, read}
use Rattle.saved_state.specs.Judged.{DoubleStep, Says, same_lengths, Judged}
use Rattle.saved_state.specs.Length.{text_room, heap_room}
use Rattle.saved_state.specs.Wrote.{wrote_good, wrote_exactly, wrote_text}
use Rattle.saved_state.specs.Claims as either
use Rattle.heap_saved.specs.Reader.{heap_reader, Savable}
use Rattle.heap_saved.specs.Sound.{heap_sound}

-- the bytes are the text of this memory, a good session over n variables
abbrev pub IsText : List ℕ → ℕ → Memory Vsids → Type 0
IsText bytes n (lits, ends, t, h) = Savable n (lits, ends, t, h) × (bytes ≡ text_of (saved_heap n lits ends t h))

-- The text of a good session, read into memory of its lengths, is taken, and leaves the session with the levels of unassigned variables forgotten.
pub read_wrote : (n : ℕ) (lits ends : List ℕ) (t : Trail) (h : Vsids) (lent : Memory Vsids) → Savable n (lits, ends, t, h) → same_lengths heap_reader n (lits, ends, t, h) lent ≡ true
    → read heap_reader (text_of (saved_heap n lits ends t h)) lent ≡ done none (lits, ends, forgot t, h)
unfolding heap_sound
read_wrote n lits ends t h lent = either.read_wrote heap_reader heap_sound n (lits, ends, t, h) lent

-- What is taken is the text of the session that it leaves, which is good; and the memory had its lengths.
pub wrote_read : (bytes : List ℕ) (lent : Memory Vsids) → status (read heap_reader bytes lent) ≡ 0
    → let left = leaves lent (read heap_reader bytes lent) in (n : ℕ) × IsText bytes n left × (same_lengths heap_reader n left lent ≡ true)
unfolding heap_sound
wrote_read = either.wrote_read heap_reader heap_sound

-- And the writer puts these bytes again, on the session that is left: with its counts, and a buffer that has room.
abbrev pub written_from : ℕ → Memory Vsids → List ℕ → Result (List ℕ)
written_from n (lits, ends, t, h) buffer =
    let m = length ends in
    wrote n m (heap_mode n m lits ends) lits (length lits) ends (λ s. saved_heap n lits ends s.trail s.chooser) (record { trail = t; chooser = h }) buffer

pub read_written : (bytes : List ℕ) (lent : Memory Vsids) → status (read heap_reader bytes lent) ≡ 0 → (buffer : List ℕ) → length bytes ≤ length buffer
    → let left = leaves lent (read heap_reader bytes lent) in
    (n : ℕ) × (same_lengths heap_reader n left lent ≡ true) × (written_from n left buffer ≡ done (some (length bytes)) (written 0 bytes buffer))
unfolding lent-sound
read_written bytes lent e buffer room =
    let w = wrote_read bytes lent e in
    let n = w.0 in
    let g = w.1.0 in
    let is = w.1.1 in
    let left = leaves lent (read heap_reader bytes lent) in
    let lits = left.0 in
    let ends = left.1 in
    let m = length ends in
    let good : GoodMemory (IsGood n m lits ends) lits (length lits) ends (record { trail = left.2; chooser = left.3 }) = record {
      founded = record { small = g.0.small; stated = refl; clauses = g.0.clauses };
      stated = refl;
      session = g.0;
    } in
    let again = wrote_good n m (heap_mode n m lits ends) lits (length lits) ends (λ s. saved_heap n lits ends s.trail s.chooser) (lent-sound n m lits ends) _ buffer good (omega (arith, ap length is, room)) in
    (n, w.2, again ∙ ap (λ (l : List ℕ). done (some (length l)) (written 0 l buffer)) (sym is))

-- Reading replies 0 exactly where the bytes are the text of a good session, and the memory has its lengths.
pub accepted_exactly : (bytes : List ℕ) (lent : Memory Vsids) → (status (read heap_reader bytes lent) ≡ 0) ↔ ((n : ℕ) × (x : Memory Vsids) × IsText bytes n x × (same_lengths heap_reader n x lent ≡ true))
unfolding heap_sound
accepted_exactly = either.accepted_exactly heap_reader heap_sound

-- It replies 15 exactly where they are no text of heap mode.
pub no_form : (bytes : List ℕ) (lent : Memory Vsids) → (status (read heap_reader bytes lent) ≡ bad_saved) ↔ ((s : Saved) → ¬ Says vsids bytes s)
no_form = either.no_form heap_reader heap_sound

-- And for the text s it replies 4, 5, 6 or 7, or takes what s says, each with what tells it from the others.
pub refusals : (bytes : List ℕ) (s : Saved) (lent : Memory Vsids) → Says vsids bytes s → Judged heap_reader Savable s lent (read heap_reader bytes lent)
unfolding heap_sound
refusals bytes s lent t = either.text_judged heap_reader heap_sound t lent

-- Two good sessions have one text exactly where they are equal but for levels of unassigned variables.
pub one_text : (n n' : ℕ) (lits lits' ends ends' : List ℕ) (t t' : Trail) (h h' : Vsids) → Savable n (lits, ends, t, h) → Savable n' (lits', ends', t', h')
    → (text_of (saved_heap n lits ends t h) ≡ text_of (saved_heap n' lits' ends' t' h')) ↔ ((n ≡ n') × (lits ≡ lits') × (ends ≡ ends') × (forgot t ≡ forgot t') × (h ≡ h'))
unfolding heap_sound
one_text n n' lits lits' ends ends' t t' h h' g k =
    let same = either.one_text heap_reader heap_sound n n' (lits, ends, t, h) (lits', ends', t', h') g k in (
      λ e. (let r = same.0 e in (r.0, ap (λ (m : Memory Vsids). m.0) r.1, ap (λ (m : Memory Vsids). m.1) r.1, ap (λ (m : Memory Vsids). m.2) r.1, ap (λ (m : Memory Vsids). m.3) r.1)),
      λ (vars, a, b, c, d). same.1 (vars, λ i. (a i, b i, c i, d i)),
    )

-- How long the text of a good session is.
pub text_length : (n : ℕ) (lits ends : List ℕ) (t : Trail) (h : Vsids) → Savable n (lits, ends, t, h) → length (text_of (saved_heap n lits ends t h)) ≤ 80 + 41 * n + 2 * length ends + 5 * length lits
text_length n lits ends t h g = omega (arith, text_room g.0.small g.0.clauses g.0.trail vsids (heap_rows h), heap_room g.0.heap)

-- Writing replies 0 exactly where the memory that was lent is good and the buffer as long as the text; and what it wrote is read as the session, with the levels of
-- unassigned variables forgotten.
module _ (n m : ℕ) (lits : List ℕ) (literals : ℕ) (ends : List ℕ) (s : Session n m (heap_ops n lits ends)) (buffer : List ℕ) (doubles : Doubles s.chooser) where
  abbrev saved : Session n m (heap_ops n lits ends) → Saved
  saved s = saved_heap n lits ends s.trail s.chooser

  abbrev result : Result (List ℕ)
  result = wrote n m (heap_mode n m lits ends) lits literals ends saved s buffer

  pub written_exactly : (status result ≡ 0) ↔ (GoodMemory (IsGood n m lits ends) lits literals ends s × (length (text_of (saved s)) ≤ length buffer))
  unfolding lent-sound
  written_exactly = wrote_exactly n m (heap_mode n m lits ends) lits literals ends saved (lent-sound n m lits ends) s buffer doubles

  pub written_read : status result ≡ 0 → DoubleStep s.chooser → (lent : Memory Vsids) → same_lengths heap_reader n (lits, ends, s.trail, s.chooser) lent ≡ true
      → read heap_reader (take (reply_number (reply result)) (leaves buffer result)) lent ≡ done none (lits, ends, forgot s.trail, s.chooser)
  unfolding lent-sound
  written_read e wide lent fit =
      let g = (written_exactly.0 e).0 in
      let good : Savable n (lits, ends, s.trail, s.chooser) = (subst (λ (k : ℕ). GoodSession n k lits ends s.trail s.chooser) (sym g.founded.stated) g.session, wide) in
      rw (wrote_text n m (heap_mode n m lits ends) lits literals ends saved (lent-sound n m lits ends) s buffer doubles e) (read_wrote n lits ends s.trail s.chooser lent good fit)
