-- What a read puts behind the bytes that came before it stands behind them.
use Rattle.std.proofs.Common.{◌≡◌, ℕ, ◌+◌, ◌-◌, ◌≤◌, List, ◌++◌, rules, length, take, sym, ap, ◌∙◌, subst, length-take-le}
use Rattle.std.proofs.Math.Seq.{take-append-add}
use Rattle.std.proofs.lemmas.List.{take-append-le}
use Rattle.std.specs.Io.KnownBytes.{Consumes}
use Rattle.std.proofs.KnownBytes.{Consumes-trans}
use borrow.Rule.Slice.PartMut.{put_mid, post_of}
use Rattle.input.proofs.read_all.Goals as goal

came : (a k m : ℕ) (xs ys : List ℕ) → a ≤ length xs → m ≤ length ys → take a xs ++ take m ys ≡ take (a + m) (put_mid a k xs ys)
came a k m xs ys within fits =
    let behind = post_of a k xs in
    let parted = rw (length-take-le a xs within) at (take-append-add (take a xs) (ys ++ behind) m) in
    sym (parted ∙ ap (λ l. take a xs ++ l) (take-append-le m ys behind fits))

pub loop-len-preserved : goal.loop-len-preserved
loop-len-preserved g c =
    let i = c.loop-len.invariant in
    let at = c.loop-len.len in
    let joined = came at (length c.loop-len.buf - at) c.in-Ok.more c.loop-len.buf c.read.new.buf i.0 c.in-Ok.ensures.bound.0 in
    (search rules, subst (Consumes _ _) joined (Consumes-trans _ _ _ _ _ i.1 c.in-Ok.ensures.bytes.0))
