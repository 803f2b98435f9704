use Rattle.sap_lemmas.proofs.Common.{ap, sym, ◌∙◌, get_or_default}
use Rattle.sap_wave.specs.declared.variable.Variable.{Variable}
use Rattle.sap_wave.specs.Prelude.{nothing, unknown, open_of}
use Rattle.sap_wave.proofs.Reached.{other_digits, too_early}
use Rattle.sap_wave.proofs.Spelled.{on_none}
use Rattle.sap_wave.proofs.Stepping.{unidentified}
use Rattle.sap_wave.proofs.changes.placed.Goals as goal

pub returns-in_err-place-clause-none : goal.returns-in_err-place-clause-none
returns-in_err-place-clause-none c =
    on_none c.from_residual.result (unknown (unidentified c.args.variables.now c.args.parts.now.id.now c.in_err-place.ensures.none))

pub returns-then-place-reached-clause-none : goal.returns-then-place-reached-clause-none
returns-then-place-reached-clause-none c =
    let p = c.args.parts.now in
    too_early c.args.variables.now (open_of c.args.reached.now) p.digits.now p.id.now c.in_ok-place.place c.in_ok-place.ensures.within
    c.in_ok-place.ensures.is c.if-place-reached.true

pub returns-then-parts-variables-clause-none : goal.returns-then-parts-variables-clause-none
returns-then-parts-variables-clause-none c =
    let p = c.args.parts.now in
    let xs = c.args.variables.now in
    let k = c.in_ok-place.place in
    let read = get_or_default xs k c.index-variables-place.result nothing c.in_ok-place.ensures.within in
    other_digits xs (open_of c.args.reached.now) p.digits.now p.id.now k c.in_ok-place.ensures.within c.in_ok-place.ensures.is
    (λ e. c.if-parts-variables.true (e ∙ ap (λ (x : Variable). x.width) (sym read)))

pub returns-clause-some : goal.returns-clause-some
returns-clause-some c =
    let xs = c.args.variables.now in
    let k = c.in_ok-place.place in
    let read = get_or_default xs k c.index-variables-place.result nothing c.in_ok-place.ensures.within in
    record {
      within = c.in_ok-place.ensures.within;
      is = c.in_ok-place.ensures.is;
      later = c.if-place-reached.false;
      sized = c.if-parts-variables.false ∙ ap (λ (x : Variable). x.width) read;
    }
