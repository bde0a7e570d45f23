-- `forms::read_mode` meets its contract: the word of each mode, or none.
use Rattle.forms.specs.Letters.{vsids_text, vmtf_text}
use Rattle.forms.specs.Forms.{mode_in}
use Rattle.forms.specs.Laws.{is_told}
use Rattle.forms.proofs.read_mode.Goals as goal

pub returns-then-eq : goal.returns-then-eq
unfolding mode_in
returns-then-eq c = rw (is_told c.args.word.now vsids_text c.as_slice.ensures c.eq.ensures c.if-eq.true)

pub returns-then-eq-2 : goal.returns-then-eq-2
unfolding mode_in
returns-then-eq-2 c = rw (is_told c.args.word.now vsids_text c.as_slice.ensures c.eq.ensures c.if-eq.false, is_told c.args.word.now vmtf_text c.as_slice-2.ensures c.eq-2.ensures c.if-eq-2.true)

pub returns : goal.returns
unfolding mode_in
returns c = rw (is_told c.args.word.now vsids_text c.as_slice.ensures c.eq.ensures c.if-eq.false, is_told c.args.word.now vmtf_text c.as_slice-2.ensures c.eq-2.ensures c.if-eq-2.false)
