-- `saved_state::loading::set_values` meets its contract. The loop's invariant: storing on from the literal at place i gives the whole.
use mathlib.Core.Path.{sym}
use native.Mathlib.Omega.{arith}
use lib.ListN.{get_or, length-map}
use Rattle.lit.specs.Lits.{polarity}
use Rattle.saved_state.specs.Eachs.{get_or_mapped}
use Rattle.saved_state.specs.Loops.{along_end, codes_start, codes_next}
use Rattle.saved_state.proofs.loading.set_values.Goals as goal

pub loop-code-init : goal.loop-code-init
loop-code-init c =
    let codes = c.args.codes.now in
    codes_start codes c.fill.ensures.len (omega (arith, length-map codes polarity)) c.requires

pub loop-code-preserved : goal.loop-code-preserved
loop-code-preserved c =
    let codes = c.args.codes.now in
    let at = c.loop-code in
    rw (c.index.ensures, c.polarity.ensures) (codes_next codes at.invariant (omega arith) (polarity (get_or codes at.code-index 0)) 0 (sym (get_or_mapped polarity codes at.code-index 0 0 (omega arith))))

pub returns : goal.returns
returns c = along_end c.loop-code.invariant (c.fill.ensures.after (λ y e. e)) (omega arith)
