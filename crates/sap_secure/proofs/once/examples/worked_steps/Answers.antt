use Rattle.sap_secure.proofs.once.Computed.{one_branch, written_twice, after_refusal, after_fall}
use Rattle.sap_secure.proofs.once.examples.worked_steps.Goals as goal

pub returns : goal.returns
returns c = record { one_branch = one_branch; written_twice = written_twice; after_refusal = after_refusal; after_fall = after_fall }
