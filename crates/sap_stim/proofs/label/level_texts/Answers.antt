use Rattle.std.proofs.Common.{◌∙◌, sym, ap, subst, arith}
use Rattle.sap_stim.specs.Rows.{AreLevelTexts, at_level}
use Rattle.sap_stim.proofs.RowTexts.{texts_grow}
use Rattle.sap_stim.proofs.label.level_texts.Goals as goal

pub loop-tag-preserved : goal.loop-tag-preserved
loop-tag-preserved c =
    let ls = c.args.lattice.now in
    record {
      count = omega (arith, c.in_ok-push.ensures.len, c.loop-tag.invariant.count);
      texts = subst (AreLevelTexts ls) (sym c.in_ok-push.ensures.items)
          (texts_grow (at_level ls) c.loop-tag.texts.items _ c.loop-tag.invariant.texts (c.in-Some.ensures.text ∙ c.as_slice.ensures
          ∙ c.in_ok-text.ensures ∙ ap (at_level ls) (sym c.loop-tag.invariant.count)));
    }
