use Rattle.std.proofs.Common.{◌≡◌, ◌∙◌, ◌∷◌, ◌++◌, [], ap, rules}
use Rattle.sap_net.specs.declared.parts.Operand.TheVariants.{Named, Constant}
use Rattle.sap_net.specs.declared.parts.Right.TheVariants.{Copy}
use Rattle.sap_net.specs.declared.parts.Wire.{Wire}
use Rattle.sap_build.specs.Writing.{assigned}
use Rattle.sap_taint_pass.specs.Tainted.{joined, help_for, tag_wire, union}
use Rattle.sap_taint_pass.specs.Helping.{helping_name}
use Rattle.sap_taint_pass.proofs.Helped.{joined_alone, joined_ends}
use Rattle.sap_taint_pass.proofs.joins.add_joined.Goals as goal

pub returns-in_default : goal.returns-in_default
returns-in_default c = λ n k h.
    let w = c.args.width in
    let x = c.args.name in
    let none : c.args.tags.items ≡ [] = search rules in
    joined_alone n k w c.args.writer.now c.assign.new.self x c.args.tags.items (tag_wire w x (Copy (Constant w 0))) (ap help_for none)
    (ap (joined (helping_name n) w k x) none) (c.in_ok-assign.ensures {u = tt})

pub returns-in_default-split_first : goal.returns-in_default-split_first
returns-in_default-split_first c = λ n k h.
    let w = c.args.width in
    let x = c.args.name in
    let last = c.in-Some.last in
    let one : c.args.tags.items ≡ last ∷ [] = search rules in
    joined_alone n k w c.args.writer.now _ x c.args.tags.items (tag_wire w x (Copy (Named last))) (ap help_for one)
    (ap (joined (helping_name n) w k x) one) (c.in_ok-assign-2.ensures {u = tt})

pub returns : goal.returns
returns c = λ n k h.
    let w = c.args.width in
    let x = c.args.name in
    let last = c.in-Some.last in
    let first = c.in-Some-split_first.first.now in
    let others = c.in-Some-split_first.others.now in
    let so_far = c.in_ok-so_far.so_far in
    let parts : c.args.tags.items ≡ first ∷ (others ++ last ∷ []) = search rules in
    let made : c.union.result ≡ union w x so_far last = search rules in
    joined_ends n k w c.args.writer.now c.assign-2.new.self x first last c.args.tags.items others parts
    (c.in_ok-assign-3.ensures {u = tt} ∙ ap (λ (u : Wire). assigned u c.add_unions.new.writer) made ∙ c.in_ok-so_far.ensures {u = tt} n k x last h)
