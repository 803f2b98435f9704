use Rattle.sap_lemmas.proofs.Common.{ap, ◌∙◌, ◌++◌, flat_map}
use Rattle.sap_vparse.specs.Views.{item_of}
use Rattle.sap_vread.specs.Build.Built as b
use Rattle.sap_vread.specs.Build.Firsts.{number_of}
use Rattle.sap_vread.proofs.build.BuiltNet.{net_wires_built, memories_built}
use Rattle.sap_vread.proofs.build.building.driven_in.Goals as goal

pub returns-clause-wires : goal.returns-clause-wires
returns-clause-wires c =
    c.in_ok-push_wires.ensures
    ∙ ap (λ ws. ws ++ flat_map (λ x. b.built_wires (number_of c.args.tables.now.ranges) (item_of x)) c.as_slice-items.result.now) c.new-wires.ensures.items
    ∙ ap (λ xs. flat_map (λ x. b.built_wires (number_of c.args.tables.now.ranges) (item_of x)) xs) c.as_slice-items.ensures.value
    ∙ net_wires_built c.args.file.now c.args.tables.now c.requires

pub returns-clause-memories : goal.returns-clause-memories
returns-clause-memories c =
    let t = c.args.tables.now in
    c.in_ok-push_memories.ensures
    ∙ ap (λ ms. ms ++ flat_map (λ x. b.item_memories (number_of t.starts) (number_of t.writes) c.as_slice-items.result.now (item_of x))
    c.as_slice-items.result.now) c.new-memories.ensures.items
    ∙ ap (λ xs. flat_map (λ x. b.item_memories (number_of t.starts) (number_of t.writes) xs (item_of x)) xs) c.as_slice-items.ensures.value
    ∙ memories_built c.args.file.now c.args.tables.now c.requires
