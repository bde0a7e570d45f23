-- The names of carry's files.
use Rattle.std.specs.Prelude.{◌≡◌, ◌≢◌, ◌⊎◌, ℕ, ◌+◌, ◌<◌, ◌≤◌, List, [], ◌∷◌, ◌++◌, length, take, slice_index_or, All}

-- so many letters from a to z
abbrev pub AreLetters : ℕ → List ℕ → Type 0
AreLetters n xs = (length xs ≡ n) × All (λ x. (97 ≤ x) × (x ≤ 122)) xs

-- a file's name, a dot, eight letters and `.part`
abbrev pub IsAside : List ℕ → List ℕ → Type 0
IsAside file name = (drawn : List ℕ) × AreLetters 8 drawn × (name ≡ file ++ 46 ∷ (drawn ++ 46 ∷ 112 ∷ 97 ∷ 114 ∷ 116 ∷ []))

-- no slash stands at the places from k on
abbrev pub NoSlashFrom : ℕ → List ℕ → Type 0
NoSlashFrom k xs = (i : ℕ) → k ≤ i → i < length xs → slice_index_or xs i 0 ≢ 47

-- the front of a name up to its last slash, or a dot where it has none
abbrev pub IsFolder : List ℕ → List ℕ → Type 0
IsFolder file folder = ((at : ℕ) × (at < length file) × (slice_index_or file at 0 ≡ 47) × NoSlashFrom (at + 1) file × (folder ≡ take (at + 1) file)) ⊎ (NoSlashFrom 0 file × (folder ≡ 46 ∷ []))
