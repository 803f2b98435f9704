use Rattle.std.proofs.Common.{◌≤◌, sym, ◌∙◌, subst}
use Rattle.sap_check.specs.Checked.{levels_in, tree_in}
use Rattle.sap_ir.specs.Prelude.{IsPlain, PlainWritesOnce}
use Rattle.sap_size.specs.Items.{most_items}
use Rattle.sap_size.specs.Nested.{nested_weight}
use Rattle.sap_tagged.specs.Law.{PlainStandsForDesign}
use Rattle.sap_tags.proofs.Found.{arms_found, few_found, narrow_found, plain_found, ranged_found}
use Rattle.sap_tags.proofs.Starts.{plain_starts}
use Rattle.sap_tags.specs.Starts.{PlainStartsAsDesign}
use Rattle.sap_tags.proofs.insert.insert.Goals as goal

pub invariant_of-setting : goal.invariant_of-setting
invariant_of-setting c = record {
  narrow = narrow_found (levels_in c.args.checked.now) (tree_in c.args.checked.now) c.args.program.now c.requires c.widths_in_range.ensures c.is_sound.ensures;
}

pub parts-requires-clause-ranged : goal.parts-requires-clause-ranged
parts-requires-clause-ranged c =
    ranged_found c.lattice.result.now (levels_in c.args.checked.now) (tree_in c.args.checked.now) c.args.program.now c.lattice.ensures
    c.requires c.widths_in_range.ensures c.is_sound.ensures

pub parts-requires-clause-few : goal.parts-requires-clause-few
parts-requires-clause-few c =
    few_found c.lattice.result.now (levels_in c.args.checked.now) (tree_in c.args.checked.now) c.args.program.now c.lattice.ensures c.requires c.is_sound.ensures

pub parts-requires-clause-arms : goal.parts-requires-clause-arms
parts-requires-clause-arms c = arms_found (levels_in c.args.checked.now) (tree_in c.args.checked.now) c.args.program.now c.requires c.is_sound.ensures

pub new-requires : goal.new-requires
new-requires c =
    let ls = levels_in c.args.checked.now in
    let d = tree_in c.args.checked.now in
    let e = c.in_ok-parts.ensures ∙ plain_found c.lattice.result.now ls d c.args.program.now c.lattice.ensures c.requires in
    subst (λ p. IsPlain p) (sym e) (c.plain_stands.ensures.rules ls d c.is_sound.ensures)

pub returns-clause-stands : goal.returns-clause-stands
returns-clause-stands c =
    let ls = levels_in c.args.checked.now in
    let d = tree_in c.args.checked.now in
    let e = c.new.ensures ∙ (c.in_ok-parts.ensures ∙ plain_found c.lattice.result.now ls d c.args.program.now c.lattice.ensures c.requires) in
    subst (λ p. PlainStandsForDesign ls d p) (sym e) (c.plain_stands.ensures.stands ls d c.is_sound.ensures)

pub returns-clause-starts : goal.returns-clause-starts
returns-clause-starts c =
    let ls = levels_in c.args.checked.now in
    let d = tree_in c.args.checked.now in
    let e = c.new.ensures ∙ (c.in_ok-parts.ensures ∙ plain_found c.lattice.result.now ls d c.args.program.now c.lattice.ensures c.requires) in
    subst (λ p. PlainStartsAsDesign ls d p) (sym e) (plain_starts ls d c.is_sound.ensures)

pub returns-clause-once : goal.returns-clause-once
returns-clause-once c =
    let ls = levels_in c.args.checked.now in
    let d = tree_in c.args.checked.now in
    let e = c.new.ensures ∙ (c.in_ok-parts.ensures ∙ plain_found c.lattice.result.now ls d c.args.program.now c.lattice.ensures c.requires) in
    subst (λ p. PlainWritesOnce p) (sym e) (c.plain_stands.ensures.once ls d c.is_sound.ensures)

pub returns-clause-small : goal.returns-clause-small
returns-clause-small c =
    let ls = levels_in c.args.checked.now in
    let d = tree_in c.args.checked.now in
    let e = c.new.ensures ∙ (c.in_ok-parts.ensures ∙ plain_found c.lattice.result.now ls d c.args.program.now c.lattice.ensures c.requires) in
    subst (λ p. nested_weight p ≤ most_items ls d) (sym e) (c.plain_small.ensures ls d c.is_sound.ensures)
