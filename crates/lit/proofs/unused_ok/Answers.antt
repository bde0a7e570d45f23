-- `unused_ok` meets its contract: what is known of the places passed so far is that they pass the test, or not.
use Rattle.std.proofs.Common.{◌≡◌, ◌+◌, ◌-◌, ◌<◌, ℕ, List, sym, ◌∙◌, arith, length, get_or, take, drop, length-take, length-drop, lt-ltb, le-ltb, eq-eqb, ne_eqb, get_or-take, get_or-drop}
use Rattle.laws.specs.Every.{every_all, flag_stays, flag_falls}
use Rattle.lit.specs.Unused.{none_at, unused_ok}
use Rattle.lit.proofs.unused_ok.Goals as goal
use Rattle.lit.proofs.unused_ok.Goals.{else-x, then-x}

-- the places from u on
long : (a : List ℕ) (u : ℕ) → length (take (length a - u) (drop u a)) ≡ length a - u
long a u = omega (arith, length-take (length a - u) (drop u a), length-drop u a)

pub loop-x-init : goal.loop-x-init
loop-x-init c = sym (every_all _ _ (λ j h. rw (lt-ltb j c.args.used (omega arith))))

pub loop-x-preserved : goal.loop-x-preserved
loop-x-preserved c =
    let a = c.args.a.now in
    let u = c.args.used in
    let j = c.loop-x.x-index in
    let p = none_at a u in
    let low = le-ltb (u + j) u (omega arith) in
    let at : get_or (take (length a - u) (drop u a)) j 0 ≡ get_or a (u + j) 0 = get_or-take (length a - u) (drop u a) j 0 (omega (arith, long a u)) ∙ get_or-drop u a j 0 in
    let next : u + (j + 1) ≡ u + j + 1 = omega arith in
    rw next (elim c.if-x.branch [ then-x w ↦ flag_falls p (u + j) w.ok-is (rw (low, ne_eqb _ _ (rw at at w.if-x.true))) | else-x w ↦ flag_stays p (u + j) c.loop-x.invariant w.ok-is (rw (low, eq-eqb _ _ (rw at at w.if-x.false))) ])

pub returns : goal.returns
unfolding unused_ok
returns c =
    let e : c.args.used + c.loop-x.x-index ≡ length c.args.a.now = omega (arith, long c.args.a.now c.args.used) in
    rw e at c.loop-x.invariant
