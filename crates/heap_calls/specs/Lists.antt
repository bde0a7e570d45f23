-- Lists of calls in heap mode: what they come to, and that they are the same as each call alone. Term 3 is of rows in which they are turns, by `handed`.
use Rattle.std.specs.Prelude.{ℕ, ◌+◌, ◌<◌, ◌≡◌, ◌≢◌, true, List, [], ◌∷◌, length}
use Rattle.std.proofs.Math.Option.{none, some}
use Rattle.choosers.specs.Heap.{heap_ops}
use Rattle.book.specs.Session.{Result, done, status, reply, leaves, Session}
use Rattle.book.specs.Read.{called_kept}
use Rattle.session.specs.Asked.{Asked, asked}
use Rattle.session.specs.Entry.{reply_number}
use Rattle.session.specs.Entered.{RightScratch}
use Rattle.words.specs.Words as words
use Rattle.words.specs.Words.{word_call, words_fit, each_alone}
use Rattle.words.specs.Going.{call_at, Told, Part}
use Rattle.words.proofs.Going.{part_more}
use Rattle.words.proofs.Alone as either-laws
use Rattle.heap_entry.specs.Entry.{heap_mode, entered}
use Rattle.heap_entry.specs.Kept.{IsGood, kept}
use Rattle.heap_entry.specs.Checked.{Doubles, heap_sound}

module _ (n m : ℕ) (lits : List ℕ) (literals : ℕ) (ends vars : List ℕ) where
  -- the calls in words, on the session as lent, with answers of so many words
  abbrev pub entered_words : List ℕ → ℕ → Session n m (heap_ops n lits ends) → Result (Session n m (heap_ops n lits ends) × List ℕ)
  entered_words = words.entered_words n m (heap_mode n m lits ends) lits literals ends vars

  -- an accepted list comes to what its calls come to, each in a list of its own and checked every time
  pub alone : (ws : List ℕ) (answers : ℕ) (s : Session n m (heap_ops n lits ends)) → Doubles s.chooser → status (entered_words ws answers s) ≡ 0
      → entered_words ws answers s ≡ done none (each_alone n m (heap_mode n m lits ends) lits literals ends vars ws s)
  unfolding heap_sound
  alone ws answers s t = either-laws.alone n m (heap_mode n m lits ends) lits literals ends vars (heap_sound n m lits ends) ws answers s t

  -- of a refused one that fits, each call alone changes nothing and tells nothing
  pub refused_alone : (ws : List ℕ) (answers : ℕ) (s : Session n m (heap_ops n lits ends)) → words_fit (length ws) answers ≡ true → status (entered_words ws answers s) ≢ 0
      → each_alone n m (heap_mode n m lits ends) lits literals ends vars ws s ≡ (s, [])
  refused_alone = either-laws.refused_alone n m (heap_mode n m lits ends) lits literals ends vars

  -- a call alone in a list is the call on its entry point
  pub one_entered : (l a b : ℕ) (q : Asked) (s : Session n m (heap_ops n lits ends)) → Doubles s.chooser → word_call vars l a b ≡ some (asked q) → RightScratch q → status (entered_words (l ∷ (a ∷ (b ∷ []))) 2 s) ≡ 0
      → let x = entered n m lits literals ends q s in
      entered_words (l ∷ (a ∷ (b ∷ []))) 2 s ≡ done none (leaves s x, status x ∷ (reply_number (reply x) ∷ []))
  unfolding heap_sound
  one_entered l a b q s t = either-laws.one_entered n m (heap_mode n m lits ends) lits literals ends vars (heap_sound n m lits ends) l a b q s t

  -- an accepted list leaves a good session
  pub list_good : (ws : List ℕ) (answers : ℕ) (s : Session n m (heap_ops n lits ends)) → Doubles s.chooser → status (entered_words ws answers s) ≡ 0 → (out : List ℕ)
      → IsGood n m lits ends (leaves (s, out) (entered_words ws answers s)).0
  unfolding heap_sound
  list_good ws answers s t = either-laws.list_good n m (heap_mode n m lits ends) lits literals ends vars (heap_sound n m lits ends) ws answers s t

-- one call more of a list on a good session
pub heap_more : (n m : ℕ) (lits ends : List ℕ) {vars ws : List ℕ} {k i : ℕ} {s u v : Session n m (heap_ops n lits ends)} {out out' : List ℕ}
    → Part n m (heap_ops n lits ends) (IsGood n m lits ends) vars ws k s i u out → i < k → Told n m (heap_ops n lits ends) (call_at vars ws i) i u out v out'
    → Part n m (heap_ops n lits ends) (IsGood n m lits ends) vars ws k s (i + 1) v out'
heap_more n m lits ends {u = u} p more t = part_more n m (heap_ops n lits ends) p more (called_kept (IsGood n m lits ends) u p.good (kept n m lits ends u p.good)) t
