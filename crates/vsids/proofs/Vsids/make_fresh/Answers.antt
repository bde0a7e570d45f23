-- `vsids::Vsids::make_fresh` meets its contract: every variable at its own place, with fresh activities and switches.
use Rattle.vsids.proofs.Vsids.make_fresh.Goals as goal

pub returns-clause-fresh : goal.returns-clause-fresh
returns-clause-fresh c =
    let n = c.requires.heap_len in
    let h = rw n.0 at c.all_members-self.ensures in
    rw (c.fill.ensures.after (λ y e. e), c.fill-2.ensures.after (λ y e. e), n.1.1) h
