use Rattle.std.proofs.Common.{List, ℕ, ap, ◌∙◌}
use Rattle.sap_wave.specs.Prelude.{Wave, open_of}
use Rattle.sap_wave.proofs.Reached.{ended_so}
use Rattle.sap_wave.proofs.reading.ended_in.Goals as goal

pub returns : goal.returns
returns c = (
  c.requires,
  c.new.ensures
      ∙ ap (λ (z : List (List ℕ)). let w : Wave = record { variables = c.args.variables.items; blocks = z } in w)
      (ended_so (open_of c.args.block) _ c.deref.result.now (c.deref.ensures.value ∙ c.in_ok-last.ensures) c.in_ok-push.ensures.blocks),
)
