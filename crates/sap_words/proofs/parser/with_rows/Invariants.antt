use Rattle.sap_lemmas.proofs.Common.{◌≡◌, take, fold}
use Rattle.clap.specs.Words.{app_of}
use Rattle.sap_words.specs.Parser.{bare}
use Rattle.sap_words.proofs.Headings.{with_heading}
use Rattle.sap_words.proofs.parser.with_rows.Given as goal

abbrev pub invariant-loop-name : goal.invariant-loop-name
invariant-loop-name l = app_of l.line ≡ fold with_heading bare (take l.name-index l.rows)
