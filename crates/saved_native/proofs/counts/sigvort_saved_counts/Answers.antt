-- `sigvort_saved_counts` meets its contract: the counts of what the text says, or 15.
use Rattle.std.proofs.Common.{◌≡◌, refl, sym, ◌∙◌}
use denote.Enum.Declared.{tag_of}
use Rattle.forms.specs.declared.Mode.{Mode}
use Rattle.forms.specs.declared.Mode.TheVariants.{Heap, List}
use Rattle.forms.specs.contracts.Mode.{the_type}
use Rattle.saved_text.specs.Reading.{read_text}
use Rattle.saved_native.specs.Counts.{mode_byte, counts_none, counts_some}
use Rattle.saved_native.proofs.counts.sigvort_saved_counts.Goals as goal

same_tag : (m : Mode) → tag_of the_type m ≡ mode_byte m
same_tag Heap = refl
same_tag List = refl

pub returns-in_default : goal.returns-in_default
returns-in_default c =
    let a = c.args in
    rw c.number.ensures
    (counts_none (read_text a.text.now) a.list.now a.n.now a.literals.now a.clauses.now (sym c.in_default.is ∙ c.read_form.ensures))

pub returns : goal.returns
returns c =
    let a = c.args in
    rw (same_tag c.in-Some.c.mode)
    (counts_some (read_text a.text.now) a.list.now a.n.now a.literals.now a.clauses.now c.in-Some.c (sym c.in-Some.is ∙ c.read_form.ensures))
