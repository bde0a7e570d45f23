-- The field that code reads, as code has it.
use Rattle.std.specs.Prelude.{ℕ, Some, None}
use Rattle.std.specs.Prelude as code
use Rattle.std.proofs.Math.Option.{Option, none, some}
use Rattle.forms.specs.declared.text.Field.{Field}

abbrev pub field_of : ℕ → Option ℕ → code.Option Field
field_of end none = None
field_of end (some n) = Some (record { value = n; end = end })
