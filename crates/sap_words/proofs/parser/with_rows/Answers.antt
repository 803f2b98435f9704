use Rattle.sap_lemmas.proofs.Common.{◌∙◌, [], ap, sym, arith, slice_index_or, fold, take_all}
use Rattle.std.proofs.lemmas.List.Sums.{fold_more}
use Rattle.clap.specs.Words.{App}
use Rattle.sap_words.specs.Headings.{Heading}
use Rattle.sap_words.specs.Parser.{bare}
use Rattle.sap_words.proofs.Headings.{all_headings, with_heading}
use Rattle.sap_words.proofs.parser.with_rows.Goals as goal

abbrev nowhere : Heading
nowhere = (record { ref_ptr = (0, 0); now = [] }, record { ref_ptr = (0, 0); now = [] })

pub loop-name-preserved : goal.loop-name-preserved
loop-name-preserved c =
    let at = c.loop-name in
    c.in_ok-line.ensures ∙ ap (λ (a : App). with_heading a (slice_index_or c.args.rows.now at.name-index nowhere)) at.invariant
    ∙ sym (fold_more with_heading bare c.args.rows.now at.name-index nowhere c.loop-name-test.true)

pub returns : goal.returns
returns c =
    c.loop-name.invariant ∙ ap (fold with_heading bare) (take_all c.loop-name.name-index c.args.rows.now (omega arith)) ∙ all_headings c.args.rows.now c.requires.table
