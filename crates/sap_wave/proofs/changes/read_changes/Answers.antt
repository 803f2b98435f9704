use Rattle.std.proofs.Common.{arith}
use Rattle.sap_wave.specs.Prelude.{change, form_text, open_of}
use Rattle.sap_wave.proofs.ChangesRead.{change_goes, change_sound, change_stops}
use Rattle.sap_wave.proofs.ReadUpTo.{shorter}
use Rattle.sap_wave.proofs.changes.read_changes.Goals as goal

pub returns-in-Some-changed-clause-fault : goal.returns-in-Some-changed-clause-fault
returns-in-Some-changed-clause-fault c = λ bytes a.
    let l = c.changes in
    let p = c.in-Some.parts in
    change_stops bytes l.rest.now l.next c.args.variables.now (open_of l.reached) p.digits.now p.id.now p.number p.behind.now c.in-Some-changed.code c.in-Some.ensures.some
    c.in-Some-changed.ensures.wrong (l.invariant.read bytes a)

pub changes-preserved : goal.changes-preserved
changes-preserved c =
    let l = c.changes in
    let p = c.in-Some.parts in
    let xs = c.args.variables.now in
    let there = c.in-Some.ensures.some in
    let done = c.in_default-changed.ensures in
    let less = shorter l.rest.now (form_text (change p.digits.now p.id.now)) p.behind.now there.line in
    record {
      read =
          λ bytes a.
          change_goes bytes l.rest.now l.next xs (open_of l.reached) (open_of c.changed.new.reached) p.digits.now p.id.now p.number
          p.behind.now there done.right done.after (l.invariant.read bytes a);
      sound =
          change_sound l.rest.now xs (open_of l.reached) (open_of c.changed.new.reached) p.digits.now p.id.now p.number p.behind.now there done.right done.after l.invariant.sound;
      shorter = omega (arith, less, l.invariant.shorter);
      few = omega (arith, less, l.invariant.few);
    }
