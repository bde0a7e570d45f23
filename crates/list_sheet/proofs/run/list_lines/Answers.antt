-- `list_sheet::run::list_lines` meets its contract: its lines are answered over no literals, and so over any.
use mathlib.Core.List.{[]}
use Rattle.std.proofs.Common.{arith}
use Rattle.std.proofs.lemmas.Grind.{common_steps}
use Rattle.list_entry.specs.Checked.{list_sound}
use Rattle.list_sheet.proofs.AnyLiterals.{along_over_any}
use Rattle.list_sheet.proofs.run.list_lines.Goals as goal

pub lines-place-requires : goal.lines-place-requires
unfolding list_sound
lines-place-requires c = record { room = c.requires.room; good = c.requires.good_session }

pub returns-clause-by_index : goal.returns-clause-by_index
returns-clause-by_index c lits = let w = along_over_any c.args.n c.args.ends.now [] lits c.lines-place.ensures.went in grind (arith, common_steps, w)
