use Rattle.sap_linker.proofs.Modules.{small_nets_are_modules}
use Rattle.sap_linker.proofs.laws.small_nets_are_modules.Goals as goal

pub returns : goal.returns
returns c = small_nets_are_modules c.small_nets_stand.ensures.designs c.systems_agree.ensures c.modules_agree.ensures c.modules_have_one_run.ensures
