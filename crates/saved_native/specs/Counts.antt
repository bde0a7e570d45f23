-- What a host is told of the counts of a saved text.
use Rattle.std.specs.Prelude.{ℕ, ◌≡◌, refl, length, Some, None}
use Rattle.std.proofs.Common.{ap, ◌∙◌, arith}
use Rattle.std.proofs.Math.Option.{Option, none, some}
use mathlib.Core.List.{flatten}
use Rattle.lit.specs.Numbers.{bad_saved}
use Rattle.forms.specs.Forms.{Mode, vsids, vmtf}
use Rattle.forms.specs.Read.{mode_of}
use Rattle.forms.specs.declared.Mode as code-mode
use Rattle.forms.specs.declared.Mode.TheVariants as the-modes
use Rattle.saved_text.specs.declared.form.Counts.{Counts}
use Rattle.saved_text.specs.Saved.{Saved}
use Rattle.saved_text.specs.Form.{counts_of, formed_of}

abbrev pub mode_number : Mode → ℕ
mode_number vsids = 0
mode_number vmtf = 1

-- 15 and the numbers as they were, or 0 and those of the text
abbrev pub CountsTold : Option Saved → ℕ → (list n literals clauses list' n' literals' clauses' : ℕ) → Type 0
CountsTold none r list n literals clauses list' n' literals' clauses' = (r ≡ bad_saved) × (list' ≡ list) × (n' ≡ n) × (literals' ≡ literals) × (clauses' ≡ clauses)
CountsTold (some s) r list n literals clauses list' n' literals' clauses' = (r ≡ 0) × (list' ≡ mode_number s.opening.mode) × (n' ≡ s.opening.vars) × (literals' ≡ length (flatten s.clauses)) × (clauses' ≡ length s.clauses)

-- ---- what the reader's form tells
abbrev pub mode_byte : code-mode.Mode → ℕ
mode_byte the-modes.Heap = 0
mode_byte the-modes.List = 1

same_number : (mode : Mode) → mode_byte (mode_of mode) ≡ mode_number mode
same_number vsids = refl
same_number vmtf = refl

pub counts_none : (o : Option Saved) (list n literals clauses : ℕ) → None ≡ formed_of o → CountsTold o bad_saved list n literals clauses list n literals clauses
counts_none none list n literals clauses e = (refl, refl, refl, refl, refl)
counts_none (some s) list n literals clauses e = let no : ◌≡◌ {A = ℕ} 0 1 = cc in absurd (omega arith)

pub counts_some : (o : Option Saved) (list n literals clauses : ℕ) (c : Counts) → Some c ≡ formed_of o → CountsTold o 0 list n literals clauses (mode_byte c.mode) c.n c.clauses.literals c.clauses.count
counts_some none list n literals clauses c e = let no : ◌≡◌ {A = ℕ} 0 1 = cc in absurd (omega arith)
counts_some (some s) list n literals clauses c e = let q : c ≡ counts_of s = cc in (refl, ap (λ (c : Counts). mode_byte c.mode) q ∙ same_number s.opening.mode, ap (λ (c : Counts). c.n) q, ap (λ (c : Counts). c.clauses.literals) q, ap (λ (c : Counts). c.clauses.count) q)
