use Rattle.std.proofs.Common.{◌≡◌, refl}
use Rattle.sap_show.proofs.Shown.{shown, parsed_again}
use Rattle.sap_show.proofs.Texts.{whole_text}
use Rattle.sap_show.specs.Canonical.{canonical_text}
use Rattle.sap_tree.specs.Designs.{design_of}
use Rattle.sap_show.proofs.show.Goals as goal

pub returns : goal.returns
returns c =
    let text : c.new.result ≡ canonical_text (design_of c.args.design.now) =
    whole_text c.args.design.now.version c.args.design.now.declarations.items _ c.args.design.now.states.items
    _ _ _ _ _ _ _ c.new-out.ensures.items c.as_slice.ensures.value c.as_slice-2.ensures.value refl
    c.in_ok-first_line.ensures c.in_ok-declarations.ensures c.in_ok-states.ensures c.new.ensures in
    let back = shown (design_of c.args.design.now) c.new.result c.design_is_whole.ensures text in
    record { canonical = text; reads_back = back; parsed_again = parsed_again (design_of c.args.design.now) c.new.result back }
