use Rattle.sap_meaning.proofs.Keeps.{does_holds}
use Rattle.sap_meaning.proofs.Holding.{cycle_rests, first_rests}
use Rattle.sap_meaning.proofs.states_keep.Goals as goal

pub returns : goal.returns
returns c = record {
  commands = λ w at q lands enter entering d fine pc s h. does_holds w at q lands enter entering d fine pc s h;
  cycles = λ p fine. (first_rests p fine, λ inputs s r. cycle_rests p fine inputs s r);
}
