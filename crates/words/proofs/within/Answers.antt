-- `words::within` meets its contract: the two tests are the rule's.
use borrow.Author.Tests.{le-leb, lt-leb}
use Rattle.words.proofs.within.Goals as goal

pub returns-then-count-le-MAX_GROUP : goal.returns-then-count-le-MAX_GROUP
returns-then-count-le-MAX_GROUP c = rw (le-leb _ _ c.if-count-le-MAX_GROUP.true)

pub returns-else-count-le-MAX_GROUP : goal.returns-else-count-le-MAX_GROUP
returns-else-count-le-MAX_GROUP c = rw (lt-leb _ _ c.if-count-le-MAX_GROUP.false)
