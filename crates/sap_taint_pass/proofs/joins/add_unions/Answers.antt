use Rattle.std.proofs.Common.{◌≡◌, ◌+◌, ◌∷◌, ◌++◌, [], List, length, drop, ap, sym, ◌∙◌, rules, arith}
use Rattle.sap_maps.specs.Maps.{Name}
use Rattle.sap_build.specs.Writing.{grown}
use Rattle.sap_build.proofs.Grown.{assigned_grows}
use Rattle.sap_taint_pass.specs.Tainted.{joins, union}
use Rattle.sap_taint_pass.specs.Helping.{helping_name}
use Rattle.sap_taint_pass.specs.Helped.{help_from}
use Rattle.sap_taint_pass.proofs.NextName.{next_name}
use Rattle.sap_taint_pass.proofs.Helped.{union_more, helped_union, joins_step, tail_of, nothing_left}
use Rattle.sap_taint_pass.proofs.joins.add_unions.Goals as goal

pub loop-tag-init : goal.loop-tag-init
loop-tag-init c = λ n k h.
    let same : c.in_ok-so_far.so_far ≡ c.args.first.now = search rules in (
      k,
      h,
      λ x last. ap (λ (t : Name). grown (help_from n k (length c.args.others.now))
          (joins (helping_name n) c.args.width k x t (c.args.others.now ++ last ∷ [])) [] c.args.writer.now) same,
    )

pub loop-tag-preserved : goal.loop-tag-preserved
loop-tag-preserved c = λ n k h.
    let i = c.loop-tag.invariant n k h in
    let others = c.args.others.now in
    let at = c.loop-tag.tag-index in
    let tag = c.tag-item.result in
    let m = c.loop-tag.writer in
    let parts : drop at others ≡ tag ∷ drop (at + 1) others = tail_of others at tag (omega arith) c.tag-item.is in
    let e = c.in_ok-next.ensures {u = tt} in
    let copied : c.in_ok-shown.shown ≡ c.in_ok-next.next = search rules in
    let other : c.in_ok-copy.field-0 ≡ tag = search rules in
    let made : c.union.result ≡ union c.args.width c.in_ok-next.next c.loop-tag.so_far c.in_ok-copy.field-0 = search rules in
    let wire : c.union.result ≡ union c.args.width c.in_ok-next.next c.loop-tag.so_far tag =
    made ∙ ap (union c.args.width c.in_ok-next.next c.loop-tag.so_far) other in
    let step =
    union_more n i.0 c.args.width m c.helper.new.self c.assign.new.self c.in_ok-next.next c.loop-tag.so_far tag c.union.result i.1 e.fresh
    e.declared wire (c.in_ok-assign.ensures {u = tt}) in (
      i.0 + 1,
      helped_union n i.0 m c.assign.new.self (union c.args.width (helping_name n i.0) c.loop-tag.so_far tag) i.1 step,
      λ x last.
          joins_step n i.0 c.args.width m c.assign.new.self c.loop-tag.so_far c.in_ok-shown.shown tag x last (drop at others) (drop (at + 1) others) step
          (copied ∙ next_name n i.0 m c.in_ok-next.next i.1 e.fresh) parts
          ∙ i.2 x last,
    )

pub returns : goal.returns
returns c = λ n k x last h.
    let i = c.loop-tag.invariant n k h in
    let others = c.args.others.now in
    let none : drop c.loop-tag.tag-index others ≡ [] = nothing_left others c.loop-tag.tag-index (omega arith) in
    assigned_grows (union c.args.width x c.loop-tag.so_far last) c.loop-tag.writer
    ∙ ap (λ (ys : List Name). grown (help_from n i.0 (length ys)) (joins (helping_name n) c.args.width i.0 x c.loop-tag.so_far (ys ++ last ∷ [])) [] c.loop-tag.writer) (sym none)
    ∙ i.2 x last
