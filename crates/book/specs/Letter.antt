-- The book as document 01 has it, the oldest entry first: `back`, `codes`, `openings` and `on` are what it says. proofs/Letter.antt proves it.
use Rattle.std.specs.Prelude.{ℕ, zero, suc, ◌+◌, ◌≡◌, ◌↔◌, ◌≢◌, true, false}
use mathlib.Core.List.{List, [], ◌∷◌, map, reverse, Memᴰ}
use Rattle.book.specs.Calls.{Line, accepted, switch_off}
use Rattle.book.specs.Book.{Entry, entry, Book, back, codes, openings, on}

-- 'drops all from the (L+1)th opening entry on'
unfoldable pub keep : ℕ → List Entry → List Entry
keep l [] = []
keep zero (entry c r true ∷ es) = []
keep (suc l) (entry c r true ∷ es) = entry c r true ∷ keep l es
keep l (entry c r false ∷ es) = entry c r false ∷ keep l es

-- 'the places of opening entries', the first entry's place being i
unfoldable pub places : ℕ → List Entry → List ℕ
places i [] = []
places i (entry c r true ∷ es) = i ∷ places (i + 1) es
places i (entry c r false ∷ es) = places (i + 1) es

abbrev pub code : Entry → ℕ
code (entry c r o) = c

abbrev pub BackByTheLetter : Type 0
BackByTheLetter = (l : ℕ) (b : Book) → reverse (back l b) ≡ keep l (reverse b)

abbrev pub CodesByTheLetter : Type 0
CodesByTheLetter = (b : Book) → codes b ≡ map code (reverse b)

abbrev pub OpeningsByTheLetter : Type 0
OpeningsByTheLetter = (b : Book) → openings b ≡ places 0 (reverse b)

-- 'on until an accepted switch off names it': v is on exactly where no accepted line of the log is its switch off
abbrev pub OnByTheLetter : Type 0
OnByTheLetter = (ls : List Line) (v : ℕ) → (on ls v ≡ true) ↔ ((l : Line) → Memᴰ l ls → accepted l ≡ true → l.call ≢ switch_off v)
