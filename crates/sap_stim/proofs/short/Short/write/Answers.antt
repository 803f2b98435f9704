use Rattle.std.proofs.Common.{◌≡◌, ◌++◌, take, length, ap, ◌∙◌, arith}
use Rattle.sap_stim.proofs.Placed.{written}
use Rattle.sap_stim.proofs.short.Short.write.Goals as goal

pub returns-clause-text : goal.returns-clause-text
returns-clause-text c =
    let same : c.copy_from_slice.new.self ≡ c.self.inside.bytes = c.copy_from_slice.ensures.after in
    written c.args.at c.self.inside.len c.args.bytes.now c.copy_from_slice.new.self _ (omega (arith, c.requires)) (omega (arith, c.self.invariant, ap length same))
    ∙ ap (λ l. take c.args.at c.args.bytes.now ++ take c.self.inside.len l) same
    ∙ ap (λ l. take c.args.at c.args.bytes.now ++ l) c.self.view_is
