use Rattle.sap_lemmas.proofs.Common.{◌∙◌, sym, codes}
use Rattle.toml.specs.View.{table_view}
use Rattle.sap_latfile.specs.Document.{texts_of, pairs_of}
use Rattle.sap_latfile.proofs.Items.{key_count-entries, listed}
use Rattle.sap_latfile.proofs.listing.listing.Goals as goal

pub returns-then-len-ne2 : goal.returns-then-len-ne2
returns-then-len-ne2 c = λ names pairs lists.
    c.if-len-ne2.true (c.len.ensures.len ∙ sym (key_count-entries c.args.document.now.entries) ∙ lists.two_keys)

pub returns-in-Some-Some-2 : goal.returns-in-Some-Some-2
returns-in-Some-Some-2 c =
    let document = table_view c.args.document.now in
    let arrays = c.in-Some-Some in
    record {
      two_keys = key_count-entries c.args.document.now.entries ∙ sym c.len.ensures.len ∙ c.if-len-ne2.false;
      levels = listed texts_of (codes "levels") document arrays.levels.now.items c.as_slice.result.now c.in_ok-names.names
          c.in-Some-Some-2.names arrays.ensures c.as_slice.ensures.value c.in_ok-names.ensures c.in-Some-Some-2.is-0;
      below = listed pairs_of (codes "below") document arrays.below.now.items c.as_slice-2.result.now c.in_ok-pairs.pairs
          c.in-Some-Some-2.pairs arrays.ensures' c.as_slice-2.ensures.value c.in_ok-pairs.ensures c.in-Some-Some-2.is-1;
    }
