-- `list_desk::loaded::list_loaded` meets its contract: the first refusal that fits, or the session that the text says stands in the fronts of the slices, and its calls and its text follow.
use mathlib.Core.Path.{◌≡◌, refl, sym, ap}
use mathlib.Core.List.{map}
use lib.ListN.{length, take}
use lib.Seq.{length-take-le}
use Rattle.std.specs.Prelude.{Err, is_ok}
use borrow.Author.Rules.{rules}
use Rattle.lit.specs.declared.Refusal.TheVariants.{BadSaved}
use Rattle.forms.specs.Text.{lines}
use Rattle.forms.specs.Forms.{call_in}
use Rattle.saved_state.specs.Judging.{clauses_fit}
use Rattle.list_saved.specs.Loading.{state_in}
use Rattle.list_saved.specs.Reader.{list_reader}
use Rattle.list_saved.specs.Sound.{list_sound}
use Rattle.saved_sheet.specs.Sheets.{list_held}
use Rattle.saved_run.specs.Carried.{refusal_of, came_refused, loaded_few, loaded_fits, loaded_refused, loaded_good, loaded_room, loaded_said, list_carried}
use Rattle.list_desk.specs.Loading.{said_none, said_some}
use Rattle.list_desk.proofs.loaded.list_loaded.Goals as goal

pub returns-in_default : goal.returns-in_default
returns-in_default c old at t =
    came_refused (length c.args.text.now) (map call_in (lines c.args.sheet.now)) c.args.out.now c.args.text.now BadSaved (said_none t c.in_default.is)

pub admit-requires : goal.admit-requires
admit-requires c =
    let y = said_some c.requires.by_index.2 c.in-Some.is in
    (c.requires.room.1, (λ good. loaded_few y.2 good))

pub returns-in_err-state : goal.returns-in_err-state
returns-in_err-state c old at t =
    let r : c.from_residual.result ≡ Err c.in_err-state.field-0.0 = search rules in
    let y = said_some t c.in-Some.is in
    rw (y.1, r) (loaded_refused list_reader list_sound list_held (λ s. refl) (λ n x. refl) c.requires.room.1 y.2 (length c.args.text.now) (map call_in (lines c.args.sheet.now)) c.in_err-state.field-0.0 c.args.out.now c.args.text.now (rw c.in_err-state.was at c.admit.ensures.refusal))

pub slice_bounds-list-end : goal.slice_bounds-list-end
slice_bounds-list-end c =
    let l = c.in-Some.l in
    let e : 0 ≡ refusal_of c.args.n l.clauses l.literals (clauses_fit l.state) (is_ok l.state) (length c.args.text.now) = rw c.in_ok-state.was at c.admit.ensures.refusal in
    let y = said_some c.requires.by_index.2 c.in-Some.is in
    sym (length-take-le l.literals c.args.lits.now (loaded_fits (length c.args.text.now) y.2 e).0)

pub slice_bounds-list-end-2 : goal.slice_bounds-list-end-2
slice_bounds-list-end-2 c =
    let l = c.in-Some.l in
    let e : 0 ≡ refusal_of c.args.n l.clauses l.literals (clauses_fit l.state) (is_ok l.state) (length c.args.text.now) = rw c.in_ok-state.was at c.admit.ensures.refusal in
    let y = said_some c.requires.by_index.2 c.in-Some.is in
    sym (length-take-le l.clauses c.args.ends.now (loaded_fits (length c.args.text.now) y.2 e).1)

pub list_done-requires : goal.list_done-requires
unfolding list_sound
list_done-requires c =
    let l = c.in-Some.l in
    let e : 0 ≡ refusal_of c.args.n l.clauses l.literals (clauses_fit l.state) (is_ok l.state) (length c.args.text.now) = rw c.in_ok-state.was at c.admit.ensures.refusal in
    let y = said_some c.requires.by_index.2 c.in-Some.is in
    let held : state_in l.state ≡ c.in_ok-state.state = ap state_in (c.admit.ensures.state c.in_ok-state.state c.in_ok-state.was) in
    record {
      room = (c.requires.room.0, loaded_room list_reader list_sound list_held (λ s. refl) (λ n x. refl) c.requires.room.1 y.2 (length c.args.text.now) e);
      savable = rw (sym held) (loaded_good list_reader list_sound list_held (λ s. refl) (λ n x. refl) c.requires.room.1 y.2 (length c.args.text.now) e);
    }

pub returns : goal.returns
returns c old at t =
    let l = c.in-Some.l in
    let e : 0 ≡ refusal_of c.args.n l.clauses l.literals (clauses_fit l.state) (is_ok l.state) (length c.args.text.now) = rw c.in_ok-state.was at c.admit.ensures.refusal in
    let y = said_some t c.in-Some.is in
    let held : state_in l.state ≡ c.in_ok-state.state = ap state_in (c.admit.ensures.state c.in_ok-state.state c.in_ok-state.was) in
    rw (y.1, loaded_said list_reader list_sound list_held (λ s. refl) (λ n x. refl) c.requires.room.1 y.2 (length c.args.text.now) e)
    (list_carried c.args.n (take l.literals c.args.lits.now) (take l.clauses c.args.ends.now) (loaded_room list_reader list_sound list_held (λ s. refl) (λ n x. refl) c.requires.room.1 y.2 (length c.args.text.now) e) _ _
    (rw (sym held) at c.list_done.ensures))
