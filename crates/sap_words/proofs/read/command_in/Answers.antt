use Rattle.sap_lemmas.proofs.Common.{◌≡◌, ◌∙◌, ap, List, option_map}
use Rattle.clap.specs.Words.{Row, Text, found_of, rows_of}
use Rattle.sap_words.proofs.Commands.{given_some, name_is, same_row}
use Rattle.sap_words.proofs.read.command_in.Goals as goal

pub returns-in-Some : goal.returns-in-Some
returns-in-Some c = λ name rows h.
    let found = c.in-Some.found in
    let named_so : found.0.now ≡ name = given_some _ c.subcommand.result found name c.in-Some.is (c.subcommand.ensures.name ∙ name_is c.args.matches.now name rows h) in
    let rows_are : rows_of (found_of found.1.now) ≡ rows =
    given_some _ c.subcommand.result found rows c.in-Some.is (c.subcommand.ensures.rows ∙ ap (option_map (λ (p : Text × List Row). p.1)) h) in
    c.row.ensures ∙ same_row found.0.now name (found_of found.1.now) rows named_so rows_are
