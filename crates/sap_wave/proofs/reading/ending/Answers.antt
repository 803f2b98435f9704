use Rattle.sap_lemmas.proofs.Common.{subst, sym, IfErr, IfOk}
use Rattle.sap_wave.specs.declared.state.State.{State as Held}
use Rattle.sap_wave.specs.Prelude.{IsFaultAt, Ends, StandsAtEnd, state_of}
use Rattle.sap_wave.proofs.reading.ending.Goals as goal

pub returns-in-InBlock-clause-reading : goal.returns-in-InBlock-clause-reading
returns-in-InBlock-clause-reading c =
    subst (λ (s : Held). IfOk c.ended_block.result (Ends (state_of s))) (sym c.in-InBlock.is) c.ended_block.ensures.reading

pub returns-in-InBlock-clause-fault : goal.returns-in-InBlock-clause-fault
returns-in-InBlock-clause-fault c =
    subst (λ (s : Held). IfErr c.ended_block.result (IsFaultAt (StandsAtEnd (state_of s)) c.args.line)) (sym c.in-InBlock.is) c.ended_block.ensures.fault
