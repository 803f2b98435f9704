use Rattle.std.proofs.Common.{◌↔◌, ◌≤◌, length, drop}
use Rattle.sap_sem.proofs.Inputs.{Left}
use Rattle.sap_sem.proofs.machine.Machine.fits.Given as goal
use Rattle.sap_sem.specs.Sound.{meant}

abbrev pub invariant-loop-x : goal.invariant-loop-x
invariant-loop-x l =
    let es = (meant l.self-inside.lattice l.self-inside.program).world.entities in
    record {
      left : Left l.levels es l.values ↔ Left l.levels (drop l.x es) (drop l.k l.values);
      few : l.k ≤ length l.values;
    }
