-- `Vmtf::get_next`: the function over slices says it, whatever the other slices hold.
use Rattle.std.proofs.Common.{◌≡◌, ap}
use Rattle.std.proofs.lemmas.Result.{on_err_weaker}
use Rattle.vmtf.specs.Vmtf.{Vmtf, vmtf_of}
use Rattle.vmtf.proofs.Vmtf.get_next.Goals as goal

pub returns-clause-found : goal.returns-clause-found
returns-clause-found c = let l = c.args.self.now in rw (ap (λ (l : Vmtf). l.next) c.view.ensures) at (c.get_next-answer.ensures.found l.prev.now l.ts.now)

pub returns-clause-kept : goal.returns-clause-kept
returns-clause-kept c =
    let l = c.args.self.now in
    let r = c.get_next-answer.result in
    on_err_weaker r.0 (λ (h : r.1 ≡ l.at). ap (vmtf_of l.next.now l.prev.now l.ts.now) h) c.get_next-answer.ensures.kept
