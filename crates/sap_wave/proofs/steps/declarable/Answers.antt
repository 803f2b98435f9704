use Rattle.std.proofs.Common.{length, sym}
use Rattle.sap_wave.specs.Prelude.{identifier, names_of, other_id, no_name, again}
use Rattle.sap_wave.proofs.Reached.{no_width_there, width_there}
use Rattle.sap_wave.proofs.Stepping.{differ}
use Rattle.sap_wave.proofs.steps.declarable.Goals as goal

pub returns-then-not-has_identifier-clause-none : goal.returns-then-not-has_identifier-clause-none
returns-then-not-has_identifier-clause-none c =
    other_id (differ c.args.declaration.now.id.now (identifier (length c.args.variables.now)) (sym c.if-not-has_identifier.ensures))

pub returns-then-not-is_name-clause-none : goal.returns-then-not-is_name-clause-none
returns-then-not-is_name-clause-none c = no_name (sym c.if-not-is_name.ensures)

pub returns-then-is_indexed-clause-none : goal.returns-then-is_indexed-clause-none
returns-then-is_indexed-clause-none c = again (sym (c.if-is_indexed.ensures (names_of c.args.variables.now) c.requires.indexed))

pub returns-clause-none : goal.returns-clause-none
returns-clause-none c =
    let d = c.args.declaration.now in
    no_width_there c.args.variables.now d.width.now d.id.now d.name.now c.width.result c.width.ensures.none

pub returns-clause-variable : goal.returns-clause-variable
returns-clause-variable c =
    let d = c.args.declaration.now in
    let xs = c.args.variables.now in
    width_there xs d.width.now d.id.now d.name.now c.width.result (sym c.if-not-has_identifier.ensures) (sym c.if-not-is_name.ensures)
    (sym (c.if-is_indexed.ensures (names_of xs) c.requires.indexed)) c.width.ensures.is c.width.ensures.width
