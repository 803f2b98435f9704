use Rattle.sap_build.proofs.Writing.{still_either}
use Rattle.sap_build.proofs.writer.Writer.wire.Goals as goal

pub invariant_of-self : goal.invariant_of-self
invariant_of-self c = (
  c.self.invariant.0,
  still_either c.add.result c.self.inside.module_name c.self.inside.names c.add.new.self c.args.name
      c.self.inside.next c.add.ensures.more c.add.ensures.same c.self.invariant.1,
)
