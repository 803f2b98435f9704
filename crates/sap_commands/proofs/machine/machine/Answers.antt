use Rattle.sap_commands.proofs.machine.machine.Goals as goal

pub returns : goal.returns
returns g c = c.put_bytes.ensures
