use Rattle.sap_lemmas.proofs.Common.{rules, map, string_bytes, option_map}
use Rattle.sap_words.specs.Words.{words_of}
use Rattle.sap_words.proofs.Commands.{is_one, read}
use Rattle.sap_words.proofs.Tables.{tabled}
use Rattle.sap_words.proofs.read.command_of.Goals as goal

pub returns-then-not-is_command-clause-table : goal.returns-then-not-is_command-clause-table
returns-then-not-is_command-clause-table c = tabled _

pub returns-in-Ok-clause-named : goal.returns-in-Ok-clause-named
returns-in-Ok-clause-named c =
    read (map string_bytes c.args.words.now) c.in-Ok.matches (option_map words_of c.command_in.result) (search rules) c.in-Ok.ensures.read c.command_in.ensures

pub returns-in-Ok-clause-table : goal.returns-in-Ok-clause-table
returns-in-Ok-clause-table c = tabled _

pub returns-clause-table : goal.returns-clause-table
returns-clause-table c = tabled _

pub returns-clause-no_memory : goal.returns-clause-no_memory
returns-clause-no_memory c = is_one (map string_bytes c.args.words.now) (search rules)
