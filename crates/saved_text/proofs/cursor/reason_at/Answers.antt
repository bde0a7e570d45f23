-- `saved_text::cursor::reason_at` meets its contract: no digits begin with the dash.
use Prim.Native.Nat.{◌-◌}
use native.Mathlib.Omega.{arith}
use Rattle.lit.specs.Numbers.{NONE}
use Rattle.saved_text.specs.CursorLaws.{digits_field, dash_field, reason_field}
use Rattle.saved_text.proofs.cursor.reason_at.Goals as goal
use Rattle.saved_text.proofs.cursor.reason_at.Goals.{else-at-text-via-else-at-text, else-at-text-via-then-at-text+else-text-at-eq-DASH}

pub returns-then-text-at-eq-DASH : goal.returns-then-text-at-eq-DASH
returns-then-text-at-eq-DASH c = dash_field _ _ c.if-at-text.true c.if-text-at-eq-DASH.true

pub returns : goal.returns
returns c = reason_field c.args.text.now c.args.at (λ h e. elim c.else-at-text.branch [ else-at-text-via-then-at-text+else-text-at-eq-DASH w ↦ w.if-text-at-eq-DASH.false e | else-at-text-via-else-at-text w ↦ omega (arith, w.if-at-text.false) ]) (rw c.digits_at.ensures (digits_field _ _ (NONE - 1) (omega arith)))
