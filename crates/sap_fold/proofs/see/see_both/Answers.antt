use Rattle.sap_net.specs.declared.parts.Right.TheVariants.{Two}
use Rattle.sap_share.specs.Sets.{holds}
use Rattle.sap_fold.proofs.Becoming.{becomes_equal}
use Rattle.sap_fold.proofs.see.see_both.Goals as goal

pub returns-then-width-ne1-clause-becomes : goal.returns-then-width-ne1-clause-becomes
returns-then-width-ne1-clause-becomes c =
    let s = c.args.wires.now in
    becomes_equal (holds c.args.taken.now) s.list.items s.next c.args.width (Two c.args.two.op c.args.two.a c.args.two.b) c.absorb.result (c.absorb.ensures c.args.width)
