use Rattle.std.proofs.Common.{◌≡◌, length, ◌-◌}
use Rattle.lit.specs.Numbers.{NONE}
use Rattle.vmtf.specs.Vmtf.{vmtf_seen, check_row}
use Rattle.vmtf.proofs.VmtfView.check_row.Given as goal

abbrev pub invariant-loop : goal.invariant-loop
invariant-loop l = let s = vmtf_seen l.self in check_row s (length s.next - l.counter) l.before l.stamp l.curr ≡ check_row s (length s.next) NONE s.timestamp s.start
