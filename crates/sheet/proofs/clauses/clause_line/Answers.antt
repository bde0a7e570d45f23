-- `sheet::clauses::clause_line` meets its contract: reading writes only behind the literals, and what it finds there is added.
use Prim.Native.Nat.{◌-◌}
use mathlib.Core.Path.{◌≡◌, ◌∙◌}
use native.Mathlib.Omega.{arith}
use borrow.Rule.Slice.PartMut.{put_mid, mid_len, same_len_mid, take_put}
use lib.ListN.{length}
use Rattle.forms.specs.Forms.{codes_in}
use Rattle.forms.specs.Told.{counted_none, counted_some}
use Rattle.sheet.proofs.ClauseLines.{codes_held, still_takes, bad_form, same_front, put_behind}
use Rattle.sheet.proofs.clauses.clause_line.Goals as goal

pub returns-in_default : goal.returns-in_default
returns-in_default c mode =
    let r = c.read_codes in
    let inside = c.requires.0.few_literals_lem in
    rw (counted_none r.new.out (codes_in c.args.line.now) r.ensures c.in_default.is)
    (let room = length c.args.lits.now - c.args.s.literals in
    bad_form mode c.args.n c.args.s c.requires.0 (put_mid c.args.s.literals room c.args.lits.now r.new.out) (take_put c.args.s.literals room c.args.lits.now r.new.out inside))

pub returns : goal.returns
returns c mode =
    let r = c.read_codes in
    let inside = c.requires.0.few_literals_lem in
    let room = length c.args.lits.now - c.args.s.literals in
    let h = counted_some r.new.out (codes_in c.args.line.now) r.ensures c.in-Some.is in
    let long : length r.new.out ≡ room = r.auto.out ∙ mid_len c.args.s.literals (length c.args.lits.now) c.args.lits.now (omega arith) in
    rw h.is
    (same_front (take_put c.args.s.literals room c.args.lits.now r.new.out inside) (same_len_mid c.args.s.literals room c.args.lits.now r.new.out r.auto.out)
    (c.add_clause.ensures mode h.numbers h.count
    (λ few. put_behind c.args.s.literals room c.in-Some.k c.args.lits.now r.new.out h.numbers inside (omega (arith, long, few)) (h.held (omega (arith, long, few))))))

pub add_clause-requires : goal.add_clause-requires
add_clause-requires c =
    let r = c.read_codes in
    let h = counted_some r.new.out (codes_in c.args.line.now) r.ensures c.in-Some.is in
    let room = length c.args.lits.now - c.args.s.literals in
    still_takes (same_len_mid c.args.s.literals room c.args.lits.now r.new.out r.auto.out) c.requires (omega (arith, codes_held c.args.line.now h.is, h.count))
