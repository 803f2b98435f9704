use Rattle.sap_build.proofs.Writing.{still_either}
use Rattle.sap_build.proofs.writer.Writer.port.Goals as goal

pub invariant_of-self-2 : goal.invariant_of-self-2
invariant_of-self-2 c = (
  c.self.invariant.0,
  still_either c.add.result c.self.inside.module_name c.self.inside.names c.add.new.self c.in_ok-name.name
      c.self.inside.next c.add.ensures.more c.add.ensures.same c.self.invariant.1,
)
