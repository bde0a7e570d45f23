-- `saved_run::admit` meets its contract: the first refusal that fits.
use mathlib.Core.Path.{refl}
use native.Mathlib.Omega.{arith}
use borrow.Author.Tests.{le-leb, lt-leb}
use Rattle.saved_sheet.specs.Sheets.{text_room}
use Rattle.saved_run.specs.Carried.{unfit_refusal}
use Rattle.saved_run.proofs.admit.Goals as goal

pub returns-in-Err-clause-refusal : goal.returns-in-Err-clause-refusal
returns-in-Err-clause-refusal g c = rw (c.refusal.ensures, c.in-Err.is) (unfit_refusal c.in-Err.unfit c.args.n c.args.l.clauses c.args.l.literals c.args.space)

pub longest-requires : goal.longest-requires
longest-requires g c = let e = c.requires.1 (rw c.in-Ok.is refl) in (c.requires.0, e.0, e.1)

pub returns-then-space-longest-clause-refusal : goal.returns-then-space-longest-clause-refusal
returns-then-space-longest-clause-refusal g c =
    rw (c.in-Ok.is, lt-leb (text_room c.args.n c.args.l.clauses c.args.l.literals) c.args.space (omega (arith, c.longest.ensures, c.if-space-longest.true)))

pub returns-clause-refusal : goal.returns-clause-refusal
returns-clause-refusal g c =
    rw (c.in-Ok.is, le-leb (text_room c.args.n c.args.l.clauses c.args.l.literals) c.args.space (omega (arith, c.longest.ensures, c.if-space-longest.false)))
