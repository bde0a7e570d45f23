-- `forms::read_call` meets its contract: the kind of the first byte says how the fields behind it are read.
use Rattle.std.proofs.Common.{◌∙◌, eq-eqb, ne_eqb}
use mathlib.Core.Logic.{by_cases}
use native.Mathlib.Decide.{ℕ_discrete}
use Rattle.std.proofs.Common.{length}
use Rattle.forms.specs.Told.{asked_told}
use Rattle.forms.specs.Lines.{call_none, call_kind, call_one, decay_alone, decay_not_alone}
use Rattle.forms.proofs.read_call.Goals as goal

pub returns-then-line-eq0 : goal.returns-then-line-eq0
returns-then-line-eq0 c = record { is = rw (call_none c.args.line.now c.if-line-eq0.true) }

pub returns-in-Decays : goal.returns-in-Decays
returns-in-Decays c =
    let line = c.args.line.now in
    by_cases (ℕ_discrete (length line) 1)
    (λ e. record { is = rw (call_kind line c.if-line-eq0.false c.of-k.ensures, c.in-Decays.is, decay_alone line e, c.then_some.ensures, eq-eqb (length line) 1 e) })
    (λ n. record { is = rw (call_kind line c.if-line-eq0.false c.of-k.ensures, c.in-Decays.is, decay_not_alone line c.if-line-eq0.false n, c.then_some.ensures, ne_eqb (length line) 1 n) })

pub returns-in-SetsDecay : goal.returns-in-SetsDecay
returns-in-SetsDecay c = record { is = asked_told _ _ c.map.result c.map.ensures.cases ∙ rw (call_kind c.args.line.now c.if-line-eq0.false c.of-k.ensures, c.in-SetsDecay.is) c.read_decay.ensures }

pub returns-in-Enqueues : goal.returns-in-Enqueues
returns-in-Enqueues c = record { is = asked_told _ _ c.map-in-Enqueues.result c.map-in-Enqueues.ensures.cases ∙ rw (call_kind c.args.line.now c.if-line-eq0.false c.of-k.ensures, c.in-Enqueues.is) c.read_enqueue.ensures }

pub returns-in-MovesGroup : goal.returns-in-MovesGroup
returns-in-MovesGroup c = record { is = rw (call_kind c.args.line.now c.if-line-eq0.false c.of-k.ensures, c.in-MovesGroup.is) }

pub returns-in_default : goal.returns-in_default
returns-in_default c =
    let is = call_one c.args.line.now c.if-line-eq0.false c.of-k.ensures c.in_default.not-Decays c.in_default.not-SetsDecay c.in_default.not-Enqueues c.in_default.not-MovesGroup in
    record { is = asked_told _ _ c.map-in_default.result c.map-in_default.ensures.cases ∙ rw is c.read_one.ensures }
