use Rattle.sap_maps.proofs.Terms.{term_within}
use Rattle.sap_maps.proofs.term_within.Goals as goal

pub returns-clause-numbers : goal.returns-clause-numbers
returns-clause-numbers c = λ widths value cells t fits v d. term_within widths value cells t fits v d

pub returns-clause-names : goal.returns-clause-names
returns-clause-names c = λ widths value cells t fits v d. term_within widths value cells t fits v d
