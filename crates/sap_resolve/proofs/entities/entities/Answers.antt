use Rattle.std.proofs.Common.{◌^◌, ◌∙◌, ◌++◌, arith, ap, map}
use Rattle.sap_names.specs.Entities.{declared_in}
use Rattle.sap_resolved.specs.Worlds.{all_declared}
use Rattle.sap_resolve.specs.Lists.{names_of, own_names}
use Rattle.sap_program.specs.Views.{entity_of}
use Rattle.sap_resolve.proofs.Worlds.{all_entities, all_names, few_states}
use Rattle.sap_resolve.proofs.entities.entities.Goals as goal

pub add_states-requires : goal.add_states-requires
add_states-requires c =
    few_states c.args.design.now.states.items c.as_slice-2.result.now _ c.len-number.result (2 ^ 32) c.as_slice-2.ensures.value
    (omega (arith, c.len-number.ensures, c.args.design.now.declarations.ok.0)) c.requires

pub returns-clause-entities : goal.returns-clause-entities
returns-clause-entities c =
    all_entities c.args.design.now.version c.args.lattice.now c.args.design.now.declarations.items c.args.design.now.states.items
    c.as_slice-2.result.now c.len-number.result c.new-made.result.items c.add_declared.new.made.items
    c.add_states.new.made.items c.new-made.ensures.items (c.in_ok-add_declared.ensures.entities
    ∙ ap (λ ds. map entity_of c.new-made.result.items ++ all_declared c.args.lattice.now ds) c.as_slice.ensures.value)
    c.as_slice-2.ensures.value (omega (arith, c.len-number.ensures, c.args.design.now.declarations.ok.0)) c.in_ok-add_states.ensures.entities

pub returns-clause-names : goal.returns-clause-names
returns-clause-names c =
    all_names c.args.design.now.version c.args.design.now.declarations.items c.args.design.now.states.items c.as_slice-2.result.now
    c.new-made.result.items c.add_declared.new.made.items c.add_states.new.made.items c.new-made.ensures.items
    (c.in_ok-add_declared.ensures.names ∙ ap (λ ds. own_names c.new-made.result.items ++ names_of (declared_in ds)) c.as_slice.ensures.value)
    c.as_slice-2.ensures.value c.in_ok-add_states.ensures.names
