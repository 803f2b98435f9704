-- The plain program of a design weighs no more than its module may have items.
use Rattle.sap_lemmas.proofs.Common.{◌≡◌, ℕ, ◌+◌, ◌*◌, ◌≤◌, length, subst, arith, length-append, mul-le-mul_left}
use Rattle.sap_resolved.proofs.WorldsLemmas.{declared_length}
use Rattle.sap_tree.specs.Syntax.{DesignTree}
use Rattle.sap_lattice.proofs.KeptLemmas.{order_of-count}
use Rattle.sap_lattice.specs.Prelude.{Levels, order_of, width_of}
use Rattle.sap_names.specs.Entities.{entities_of}
use Rattle.sap_meaning.specs.Program.{root}
use Rattle.sap_resolved.specs.Worlds.{all_declared, group_entities, world_of}
use Rattle.sap_resolved.specs.Resolve.{states_of}
use Rattle.sap_interface.specs.Designs.{named_of, site_count_of}
use Rattle.sap_size.specs.Nested.{nested_weight}
use Rattle.sap_size.specs.Programs.{group_size}
use Rattle.sap_size.specs.Trees.{design_nodes, entity_count}
use Rattle.sap_size.specs.Items.{most_items}
use Rattle.sap_tagged.specs.Law.{IsSound, plain_for}
use Rattle.sap_tagged.proofs.Designs.{design}
use Rattle.sap_tagged.proofs.small.Declared.{plain_weighs}
use Rattle.sap_tagged.proofs.small.Sizes.{group_within, group_counted, group_entered, states_same, group_sited, group_filled, group_kept}

summed : (n entities levels size sites nodes : ℕ) → size ≤ nodes → sites ≤ nodes
    → n ≤ (8 * (entities + levels) + 6) * size + (8 * entities + 1 + 2 * sites) → n ≤ 8 * (1 + nodes) * (1 + entities + levels)
summed n entities levels size sites nodes h k l =
    let room = 8 * (entities + levels) + 6 in
    let m : room * size ≤ room * nodes = mul-le-mul_left room h in
    omega (arith, k, l, m)

pub plain_small : (ls : Levels) (d : DesignTree) → IsSound ls d → nested_weight (plain_for ls d) ≤ most_items ls d
plain_small ls d sound =
    let es = entities_of d in
    let w = world_of ls d in
    let g = states_of ls d in
    let states = group_counted ls es 1 (length d.declarations) d.states in
    let entered = group_entered ls 0 (length d.declarations) d.states in
    let declared = declared_length ls d.declarations in
    let same = states_same d.states in
    let both = length-append (all_declared ls d.declarations) (group_entities ls 0 (length d.declarations) d.states) in
    let kept = group_kept w (root w) g in
    let entities : root w ≡ entity_count d = omega (arith, both, declared, entered, same) in
    let levels = order_of-count ls in
    let some = sound.lattice.narrow.some in
    let fewer = sound.lattice.narrow.few in
    let p = plain_weighs (named_of ls d) (width_of (order_of ls)) (site_count_of d) (omega (arith, some, fewer))
    (omega (arith, kept, states, entered, both)) (design ls d sound).few_arms in
    let size : group_size (named_of ls d).program.states ≤ design_nodes d =
    let f = group_filled w (root w) g in let r = group_within ls es 1 (length d.declarations) d.states in omega (arith, f, r) in
    let bound = summed (nested_weight (plain_for ls d)) (root w) (order_of ls).count (group_size (named_of ls d).program.states)
    (site_count_of d) (design_nodes d) size (group_sited es d.states) p in
    subst (λ (v : ℕ). nested_weight (plain_for ls d) ≤ 8 * (1 + design_nodes d) * (1 + entity_count d + v)) levels
    (subst (λ (k : ℕ). nested_weight (plain_for ls d) ≤ 8 * (1 + design_nodes d) * (1 + k + (order_of ls).count)) entities bound)
