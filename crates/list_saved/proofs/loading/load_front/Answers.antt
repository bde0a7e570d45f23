-- `list_saved::loading::load_front` meets its contract: the fronts that are lent have n places.
use Rattle.list_saved.specs.Loading.{loads_front}
use Rattle.saved_text.specs.Reading.{read_text}
use lib.Seq.{length-take-le}
use mathlib.Core.Path.{◌∙◌}
use Rattle.list_saved.proofs.loading.load_front.Goals as goal

pub load-requires : goal.load-requires
load-requires c = record { opens_with = c.requires.opens_with; lengths = record { values_long = length-take-le c.args.n _ c.requires.n_in_bounds.0; levels_long = length-take-le c.args.n _ c.requires.n_in_bounds.1; reasons_long = length-take-le c.args.n _ c.requires.n_in_bounds.2; trail_long = length-take-le c.args.n _ c.requires.n_in_bounds.3; opened_long = length-take-le c.args.n _ c.requires.n_in_bounds.4 }; next_len = (length-take-le c.args.n _ c.requires.n_in_bounds_2.0, length-take-le c.args.n _ c.requires.n_in_bounds_2.1, length-take-le c.args.n _ c.requires.n_in_bounds_2.2); level_row_len = (length-take-le c.args.n _ c.requires.n_in_bounds_3.0, length-take-le c.args.n _ c.requires.n_in_bounds_3.1, length-take-le c.args.n _ c.requires.n_in_bounds_3.2, length-take-le c.args.n _ c.requires.n_in_bounds_3.3) }

pub returns : goal.returns
returns c = loads_front (read_text c.args.text.now) c.load.result c.args.n c.load.new.lits c.load.new.ends c.load.new.values c.load.new.levels c.load.new.reasons c.load.new.trail c.load.new.opened c.load.new.next c.load.new.prev c.load.new.ts (record { values_long = c.load.auto.values ∙ length-take-le c.args.n _ c.requires.n_in_bounds.0; levels_long = c.load.auto.levels ∙ length-take-le c.args.n _ c.requires.n_in_bounds.1; reasons_long = c.load.auto.reasons ∙ length-take-le c.args.n _ c.requires.n_in_bounds.2; trail_long = c.load.auto.trail ∙ length-take-le c.args.n _ c.requires.n_in_bounds.3; opened_long = c.load.auto.opened ∙ length-take-le c.args.n _ c.requires.n_in_bounds.4 }) (c.load.auto.next ∙ length-take-le c.args.n _ c.requires.n_in_bounds_2.0, c.load.auto.prev ∙ length-take-le c.args.n _ c.requires.n_in_bounds_2.1, c.load.auto.ts ∙ length-take-le c.args.n _ c.requires.n_in_bounds_2.2) _ _ _ _ _ _ _ _ c.load.ensures
