use Rattle.std.proofs.Common.{sym, subst}
use Rattle.sap_cpu.specs.Views.{CpuSeen, IsAfter}
use Rattle.sap_cpu.proofs.Sliced.{slice_of_a, slice_of_b}
use Rattle.sap_cpu.proofs.cpu.Cpu.slice.Goals as goal

pub returns-in-A : goal.returns-in-A
returns-in-A c a b n is =
    let s : CpuSeen = record { a = c.self.inside.a; b = c.self.inside.b; holder = c.self.inside.holder } in
    slice_of_a a b n s c.slice.new.self c.in-A.is c.slice.ensures (subst (λ (s : CpuSeen). IsAfter a b n s) (sym c.self.view_is) is)

pub returns-in-B : goal.returns-in-B
returns-in-B c a b n is =
    let s : CpuSeen = record { a = c.self.inside.a; b = c.self.inside.b; holder = c.self.inside.holder } in
    slice_of_b a b n s c.slice-in-B.new.self c.in-B.is c.slice-in-B.ensures (subst (λ (s : CpuSeen). IsAfter a b n s) (sym c.self.view_is) is)
