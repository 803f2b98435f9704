use Rattle.std.proofs.Common.{arith, ap, ◌∙◌, ◌++◌}
use Rattle.sap_resolved.specs.Worlds.{no_children}
use Rattle.sap_resolve.proofs.Worlds.{all_children}
use Rattle.sap_resolve.proofs.children.children.Goals as goal

pub returns : goal.returns
returns c = λ ls.
    all_children c.args.design.now.version ls c.args.design.now.declarations.items c.args.design.now.states.items c.as_slice-2.result.now
    c.len.result c.new-made.result.items c.add_none.new.made.items c.add_states.new.made.items c.push.new.self.items
    c.new-made.ensures.items (c.in_ok-add_none.ensures ∙ ap (λ ds. c.new-made.result.items ++ no_children ds) c.as_slice.ensures.value)
    c.as_slice-2.ensures.value c.in_ok-add_states.ensures (omega (arith, c.len.ensures, c.args.design.now.states.ok.0)) c.in_ok-push.ensures.items
