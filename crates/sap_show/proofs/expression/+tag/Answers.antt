use Rattle.sap_lemmas.proofs.Common.{◌≡◌, ◌++◌, on_ok}
use Rattle.sap_show.specs.Canonical.{tags_text, more_tags_text}
use Rattle.sap_tree.specs.Trees.{tags_of}
use Rattle.sap_show.proofs.Texts.{grow_two, grow_three, tags_first, more_tags_first, tags_none, more_tags_none, nothing_more}
use Rattle.sap_show.proofs.expression.+tag.Goals as goal

pub tags-returns-in_ok-tag-in-len1-up : goal.tags-returns-in_ok-tag-in-len1-up
tags-returns-in_ok-tag-in-len1-up t c =
    on_ok c.more_tags.result _ (c.more_tags.new.out.items ≡ c.args.out.now.items ++ tags_text (tags_of c.args.list.now))
    (λ h. grow_two c.args.out.now.items _ _ _ _ _ c.in_ok-tag-in-len1-up.ensures h (tags_first c.args.list.now c.first-item.result c.in-len1-up.len_at_least c.first-item.is))
    c.more_tags.ensures

pub more_tags-returns-in_ok-tag-in-len1-up : goal.more_tags-returns-in_ok-tag-in-len1-up
more_tags-returns-in_ok-tag-in-len1-up t c =
    on_ok c.more_tags.result _ (c.more_tags.new.out.items ≡ c.args.out.now.items ++ more_tags_text (tags_of c.args.list.now))
    (λ h. grow_three c.args.out.now.items _ _ _ _ _ _ _ c.in_ok-extend_from_slice-in-len1-up.ensures.items c.in_ok-tag-in-len1-up.ensures h
    (more_tags_first c.args.list.now c.first-item.result c.in-len1-up.len_at_least c.first-item.is))
    c.more_tags.ensures

pub tags-returns-in-empty : goal.tags-returns-in-empty
tags-returns-in-empty t c = nothing_more _ _ (tags_none c.args.list.now c.in-empty.len_below)

pub more_tags-returns-in-empty : goal.more_tags-returns-in-empty
more_tags-returns-in-empty t c = nothing_more _ _ (more_tags_none c.args.list.now c.in-empty.len_below)
