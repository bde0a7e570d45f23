-- `list_saved::reading::read_opened` meets its contract: by its tests.
use Rattle.list_entry.specs.Checked.{list_sized}
use Rattle.list_entry.specs.Entry.{blank, list_lengths}
use Rattle.list_saved.specs.Reader.{memory_of}
use Rattle.list_saved.specs.Reading.{answers_many, answers_unlike}
use Rattle.saved_state.specs.Entry.{Memory}
use Rattle.session.specs.Mode.{trail_lengths}
use Rattle.session.specs.Sizes.{trail_sized}
use Rattle.vmtf.specs.Vmtf.{Vmtf}
use lib.ListN.{length}
use mathlib.Core.Bool.{Bool, true, false, ◌&&◌}
use mathlib.Core.Path.{◌≡◌, sym, ap, ◌∙◌}
use Rattle.list_saved.proofs.reading.read_opened.Goals as goal
use Rattle.list_saved.proofs.reading.read_opened.Goals.{Start}

-- the memory as lent
abbrev before : (c : Start) → Memory Vmtf
before c = let a = c.args in memory_of a.lits.now a.ends.now a.values.now a.levels.now a.reasons.now a.trail.now a.opened.now a.next.now a.prev.now a.ts.now blank

pub returns-then-n-gt-MAX_VARS : goal.returns-then-n-gt-MAX_VARS
returns-then-n-gt-MAX_VARS c =
    let lent = before (goal.at.returns-then-n-gt-MAX_VARS c).Start in
    rw (c.refuse.ensures, c.blank_state.ensures) (answers_many c.requires lent c.if-n-gt-MAX_VARS.true (c.number.ensures ∙ c.form_or.ensures))

pub returns-then-not-trail_lengths : goal.returns-then-not-trail_lengths
returns-then-not-trail_lengths c =
    let lent = before (goal.at.returns-then-not-trail_lengths c).Start in
    let e : trail_lengths c.args.n lent.2 ≡ false = sym c.trail_lengths.ensures ∙ c.if-not-trail_lengths.true in
    rw (c.refuse-then-not-trail_lengths.ensures, c.blank_state-then-not-trail_lengths.ensures) (answers_unlike c.requires lent c.if-n-gt-MAX_VARS.false (λ b. ap (λ (x : Bool). x && (list_lengths c.args.n lent.3 && b)) e) (c.number-then-not-trail_lengths.ensures ∙ c.form_or-then-not-trail_lengths.ensures))

pub returns-then-not-list_lengths : goal.returns-then-not-list_lengths
returns-then-not-list_lengths c =
    let lent = before (goal.at.returns-then-not-list_lengths c).Start in
    let d : trail_lengths c.args.n lent.2 ≡ true = sym c.trail_lengths.ensures ∙ c.if-not-trail_lengths.false in
    let e : list_lengths c.args.n lent.3 ≡ false = sym c.list_lengths.ensures ∙ c.if-not-list_lengths.true in
    rw (c.refuse-then-not-list_lengths.ensures, c.blank_state-then-not-list_lengths.ensures) (answers_unlike c.requires lent c.if-n-gt-MAX_VARS.false (λ b. ap (λ (x : Bool). x && (list_lengths c.args.n lent.3 && b)) d ∙ ap (λ (x : Bool). x && b) e) (c.number-then-not-list_lengths.ensures ∙ c.form_or-then-not-list_lengths.ensures))

-- the links and the stamps are as long as the text's
list_as_long : (c : Start) → list_lengths c.args.n (before c).3 ≡ true → (length c.args.next.now ≡ c.args.n) × (length c.args.prev.now ≡ c.args.n) × (length c.args.ts.now ≡ c.args.n)
list_as_long c e = let l = list_sized c.args.n (before c).3 e in (l.next_long, l.prev_long, l.ts_long)

pub read_in-requires-clause-lengths : goal.read_in-requires-clause-lengths
read_in-requires-clause-lengths c = trail_sized c.args.n (before (goal.at.read_in-requires-clause-lengths c).Start).2 (sym c.trail_lengths.ensures ∙ c.if-not-trail_lengths.false)

pub read_in-requires-clause-next_len : goal.read_in-requires-clause-next_len
read_in-requires-clause-next_len c = list_as_long (goal.at.read_in-requires-clause-next_len c).Start (sym c.list_lengths.ensures ∙ c.if-not-list_lengths.false)

pub read_in-requires-then-ends-le-MORE_CLAUSES-clause-lengths : goal.read_in-requires-then-ends-le-MORE_CLAUSES-clause-lengths
read_in-requires-then-ends-le-MORE_CLAUSES-clause-lengths c = trail_sized c.args.n (before (goal.at.read_in-requires-then-ends-le-MORE_CLAUSES-clause-lengths c).Start).2 (sym c.trail_lengths.ensures ∙ c.if-not-trail_lengths.false)

pub read_in-requires-then-ends-le-MORE_CLAUSES-clause-next_len : goal.read_in-requires-then-ends-le-MORE_CLAUSES-clause-next_len
read_in-requires-then-ends-le-MORE_CLAUSES-clause-next_len c = list_as_long (goal.at.read_in-requires-then-ends-le-MORE_CLAUSES-clause-next_len c).Start (sym c.list_lengths.ensures ∙ c.if-not-list_lengths.false)

pub read_in-requires-2-clause-lengths : goal.read_in-requires-2-clause-lengths
read_in-requires-2-clause-lengths c = trail_sized c.args.n (before (goal.at.read_in-requires-2-clause-lengths c).Start).2 (sym c.trail_lengths.ensures ∙ c.if-not-trail_lengths.false)

pub read_in-requires-2-clause-next_len : goal.read_in-requires-2-clause-next_len
read_in-requires-2-clause-next_len c = list_as_long (goal.at.read_in-requires-2-clause-next_len c).Start (sym c.list_lengths.ensures ∙ c.if-not-list_lengths.false)
