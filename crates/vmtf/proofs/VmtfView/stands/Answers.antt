-- `VmtfView::stands`: each test that fails decides the definition's.
use borrow.Author.Tests.{eq-eqb, ne_eqb, lt-ltb, le-ltb}
use Rattle.vmtf.specs.Vmtf.{stands}
use Rattle.vmtf.proofs.VmtfView.stands.Goals as goal

pub returns-then-curr-self : goal.returns-then-curr-self
unfolding stands
returns-then-curr-self c = rw (le-ltb _ _ c.if-curr-self.true)

pub returns-then-self-curr : goal.returns-then-self-curr
unfolding stands
returns-then-self-curr c = rw (lt-ltb _ _ c.if-curr-self.false, ne_eqb _ _ c.if-self-curr.true)

pub returns : goal.returns
unfolding stands
returns c = rw (lt-ltb _ _ c.if-curr-self.false, eq-eqb _ _ c.if-self-curr.false)
