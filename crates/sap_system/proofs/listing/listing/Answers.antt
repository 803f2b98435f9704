use Rattle.sap_lemmas.proofs.Common.{◌∙◌, sym, codes}
use Rattle.toml.specs.View.{table_view}
use Rattle.sap_latfile.proofs.Items.{key_count-entries, listed}
use Rattle.sap_system.specs.Document.{parts_of, wires_of}
use Rattle.sap_system.proofs.listing.listing.Goals as goal

pub returns-then-len-ne2 : goal.returns-then-len-ne2
returns-then-len-ne2 c = λ s lists. c.if-len-ne2.true (c.len.ensures.len ∙ sym (key_count-entries c.args.document.now.entries) ∙ lists.two_keys)

pub returns-in-Some-Some-2 : goal.returns-in-Some-Some-2
returns-in-Some-Some-2 c =
    let document = table_view c.args.document.now in
    let arrays = c.in-Some-Some in
    record {
      two_keys = key_count-entries c.args.document.now.entries ∙ sym c.len.ensures.len ∙ c.if-len-ne2.false;
      parts = listed parts_of (codes "parts") document arrays.pairs.now.items c.as_slice.result.now c.in_ok-parts.parts
          c.in-Some-Some-2.parts arrays.ensures c.as_slice.ensures.value c.in_ok-parts.ensures c.in-Some-Some-2.is-0;
      wires = listed wires_of (codes "wires") document arrays.lines.now.items c.as_slice-2.result.now c.in_ok-wires.wires
          c.in-Some-Some-2.wires arrays.ensures' c.as_slice-2.ensures.value c.in_ok-wires.ensures c.in-Some-Some-2.is-1;
    }
