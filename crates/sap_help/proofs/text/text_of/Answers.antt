use Rattle.std.proofs.Common.{ℕ, List, [], sym, ◌∙◌, subst, slice_index_or}
use Rattle.std.proofs.lemmas.Slice.Eq.{bytes_eq-Decides}
use Rattle.sap_help.specs.Codes.{IsTextOf}
use Rattle.sap_help.proofs.Elements.{at_place}
use Rattle.sap_help.proofs.text.text_of.Goals as goal

pub returns-then-eq-clause-begins : goal.returns-then-eq-clause-begins
returns-then-eq-clause-begins c =
    let fault = slice_index_or c.args.faults.now c.loop-known.known-index (record { ref_ptr = (0, 0); now = [] }, record { ref_ptr = (0, 0); now = [] }) in
    subst (λ (code : List ℕ). IsTextOf code fault.1.now) (sym ((bytes_eq-Decides c.args.code.now fault.0.now).0 (sym c.eq.ensures ∙ c.if-eq.true)))
    (at_place (λ f. IsTextOf f.0.now f.1.now) c.args.faults.now c.loop-known.known-index (
      record { ref_ptr = (0, 0); now = [] },
      record { ref_ptr = (0, 0); now = [] },
    ) c.requires.texts c.loop-known-test.true)
