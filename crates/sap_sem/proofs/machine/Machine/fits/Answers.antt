use Rattle.std.proofs.Common.{◌≤◌, arith, length, subst, sym}
use Rattle.sap_lattice.specs.Levels.{order_of}
use Rattle.sap_meaning.specs.State.{InputsFit}
use Rattle.sap_store.proofs.Worlds.{root_is}
use Rattle.sap_sem.specs.Machine.{program_of}
use Rattle.sap_sem.specs.Seen.{MachineSeen}
use Rattle.sap_sem.specs.Sound.{meant}
use Rattle.sap_sem.proofs.Inputs.{all_left}
use Rattle.sap_sem.proofs.machine.Machine.fits.Goals as goal

pub returns : goal.returns
returns c =
    let s = c.self.inside in
    let i = c.args.inputs.now in
    let es = (meant s.lattice s.program).world.entities in
    let h : length es ≤ c.loop-x.x =
    (let r = root_is (order_of s.lattice) s.program in
    let e = c.len-x-end.ensures in
    let t = c.loop-x-test.false in omega (arith, r, e, t)) in
    let all = all_left c.count-levels.result es c.loop-x.x c.values-values.result.now c.loop-x.k h c.loop-x.invariant.few c.loop-x.invariant.left in (
      (λ e. subst (λ (m : MachineSeen). InputsFit (program_of m).world i) c.self.view_is (rw (c.count-levels.ensures.levels, c.values-values.ensures) at (all.0 e))),
      (λ f. all.1 (rw (c.count-levels.ensures.levels, c.values-values.ensures) (subst (λ (m : MachineSeen). InputsFit (program_of m).world i) (sym c.self.view_is) f))),
    )
