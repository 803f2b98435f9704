use Rattle.std.proofs.Common.{◌++◌, ◌∙◌, List, ℕ, ap, sym}
use Rattle.sap_tagged.proofs.Numerals.{numeral_decimal}
use Rattle.sap_tags_terms.proofs.names.numbered.Goals as goal

pub returns : goal.returns
returns c = c.numbered.ensures ∙ ap (λ (digits : List ℕ). c.args.front.now ++ digits) (sym (numeral_decimal c.args.k c.ranges.k.fits))
