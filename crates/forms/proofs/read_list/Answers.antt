-- `forms::read_list` meets its contract, by the places behind the letter.
use Rattle.std.proofs.Common.{refl}
use Rattle.forms.specs.Forms.{numbers}
use Rattle.forms.specs.Behind.{behind_end, behind_other, behind_tab}
use Rattle.laws.specs.Parts.{to_end}
use Rattle.forms.proofs.read_list.Goals as goal

pub returns-then-line-lt2 : goal.returns-then-line-lt2
unfolding numbers
returns-then-line-lt2 c = rw (behind_end c.args.line.now c.if-line-lt2.true) (refl, (λ h. refl))

pub returns-then-line-ne-TAB : goal.returns-then-line-ne-TAB
returns-then-line-ne-TAB c = rw (behind_other c.args.line.now c.if-line-lt2.false c.if-line-ne-TAB.true)

pub returns : goal.returns
returns c = let line = c.args.line.now in rw (behind_tab line c.if-line-lt2.false c.if-line-ne-TAB.false, ← to_end 2 line) c.read_numbers.ensures
