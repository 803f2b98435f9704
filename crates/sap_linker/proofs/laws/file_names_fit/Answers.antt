use Rattle.sap_linker.proofs.Naming.{file_names_fit, named_parts_fit}
use Rattle.sap_linker.proofs.laws.file_names_fit.Goals as goal

pub returns : goal.returns
returns c = record { named = named_parts_fit; listed = file_names_fit }
