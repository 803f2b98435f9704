use Rattle.sap_lemmas.proofs.Common.{List, subst, sym, and_parts}
use Rattle.sap_net.specs.NameMaps.{Indexes}
use Rattle.sap_wave.specs.declared.variable.Variable.{Variable}
use Rattle.sap_wave.specs.Prelude.{is_id, is_number, is_piece, names_of, IsVariable, Misdeclared}
use Rattle.sap_wave.proofs.Reached.{declared_so}
use Rattle.sap_wave.proofs.Stepping.{misdeclared}
use Rattle.sap_wave.proofs.steps.declared.Goals as goal

pub declarable-requires-clause-indexed : goal.declarable-requires-clause-indexed
declarable-requires-clause-indexed c = subst (λ (xs : List Variable). Indexes c.args.places (names_of xs)) (sym c.deref.ensures.value) c.requires.indexed

pub declarable-requires-clause-id : goal.declarable-requires-clause-id
declarable-requires-clause-id c =
    let d = c.args.declaration.now in
    (and_parts (is_id d.id.now) (is_piece d.name.now) (and_parts (is_number d.width.now) _ c.requires.formed).1).0

pub push_variable-requires-clause-name : goal.push_variable-requires-clause-name
push_variable-requires-clause-name c = c.in-Some.ensures.variable.named

pub returns-in_default : goal.returns-in_default
returns-in_default c =
    let d = c.args.declaration.now in
    misdeclared c.args.variables.items d.width.now d.id.now d.name.now
    (subst (λ (xs : List Variable). Misdeclared xs d.width.now d.id.now d.name.now) c.deref.ensures.value c.in_default.ensures.none)

pub returns : goal.returns
returns c =
    let d = c.args.declaration.now in (
      subst (λ (xs : List Variable). IsVariable xs d.width.now d.id.now d.name.now) c.deref.ensures.value c.in-Some.ensures.variable,
      declared_so c.args.variables.items c.push_variable.new.variables.items d.width.now d.id.now d.name.now c.in-Some.width
          c.in-Some.ensures.some c.in_ok-push_variable.ensures.variables,
      c.in_ok-push_variable.ensures.indexed,
    )
