use Rattle.std.proofs.Common.{◌≡◌, true, false, sym, subst, rules, arith}
use Rattle.sap_maps.specs.Maps.{Name}
use Rattle.sap_net.specs.Prelude.{Net, is_among, helper}
use Rattle.sap_build.specs.Writing.{taken, AreTaken}
use Rattle.sap_build.proofs.Writing.{counted, taken_past}
use Rattle.sap_build.proofs.writer.Writer.first_free.Goals as goal

pub loop-number-init : goal.loop-number-init
loop-number-init c =
    let first : c.helper_name-name.result ≡ helper c.self.inside.next = search rules in
    let i = c.self.invariant in
    (omega (arith, i.0), search rules, first, subst (λ (n : Net). AreTaken (taken n) c.self.inside.next) c.self.view_is i.1)

pub loop-number-preserved : goal.loop-number-preserved
loop-number-preserved c =
    let number = c.loop-number.number in
    let i = c.loop-number.invariant in
    let names = taken c.args.self.now in
    let t : is_among c.loop-number.name names ≡ true = search rules in
    let next = counted _ c.checked_add.result number c.in_ok-number.number c.checked_add.ensures c.in_ok-number.ensures.value in
    let past = taken_past names number i.3 (subst (λ (x : Name). is_among x names ≡ true) i.2 t) in
    (omega (arith, next.0), search rules, search rules, subst (AreTaken names) (sym next.0) past)

pub returns : goal.returns
returns c =
    let i = c.loop-number.invariant in
    let names = taken c.args.self.now in
    let f : is_among c.loop-number.name names ≡ false = search rules in
    record { positive = i.0; free = subst (λ (x : Name). is_among x names ≡ false) i.2 f; least = i.3 }
