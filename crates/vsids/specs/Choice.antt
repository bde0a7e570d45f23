-- What `get_next` answers: an open variable before which no open variable comes, and none exactly when nothing is open. Assumes nothing.
use Rattle.std.specs.Prelude.{Bool, true, false}
use Rattle.vsids.specs.Vsids.{Found, chose, nothing}

-- the answer is none exactly when nothing is open
abbrev pub says_none : Found → Bool
says_none (chose v h) = false
says_none (nothing h) = true
