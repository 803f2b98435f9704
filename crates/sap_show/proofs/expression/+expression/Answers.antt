use Rattle.sap_lemmas.proofs.Common.{◌≡◌, ◌++◌, on_ok}
use Rattle.sap_show.specs.Canonical.{parts_text, more_parts_text}
use Rattle.sap_tree.specs.Trees.{expressions_of}
use Rattle.sap_show.proofs.Texts.{grow_two, grow_three, parts_first, more_parts_first, parts_none, more_parts_none, nothing_more}
use Rattle.sap_show.proofs.expression.+expression.Goals as goal

pub parts-returns-in_ok-expression-in-len1-up : goal.parts-returns-in_ok-expression-in-len1-up
parts-returns-in_ok-expression-in-len1-up t c =
    on_ok c.more_parts.result _ (c.more_parts.new.out.items ≡ c.args.out.now.items ++ parts_text (expressions_of c.args.list.now))
    (λ h. grow_two c.args.out.now.items _ _ _ _ _ c.in_ok-expression-in-len1-up.ensures h
    (parts_first c.args.list.now c.first-item.result c.in-len1-up.len_at_least c.first-item.is))
    c.more_parts.ensures

pub more_parts-returns-in_ok-expression-in-len1-up : goal.more_parts-returns-in_ok-expression-in-len1-up
more_parts-returns-in_ok-expression-in-len1-up t c =
    on_ok c.more_parts.result _ (c.more_parts.new.out.items ≡ c.args.out.now.items ++ more_parts_text (expressions_of c.args.list.now))
    (λ h. grow_three c.args.out.now.items _ _ _ _ _ _ _ c.in_ok-extend_from_slice-in-len1-up.ensures.items
    c.in_ok-expression-in-len1-up.ensures h (more_parts_first c.args.list.now c.first-item.result c.in-len1-up.len_at_least c.first-item.is))
    c.more_parts.ensures

pub parts-returns-in-empty : goal.parts-returns-in-empty
parts-returns-in-empty t c = nothing_more _ _ (parts_none c.args.list.now c.in-empty.len_below)

pub more_parts-returns-in-empty : goal.more_parts-returns-in-empty
more_parts-returns-in-empty t c = nothing_more _ _ (more_parts_none c.args.list.now c.in-empty.len_below)
