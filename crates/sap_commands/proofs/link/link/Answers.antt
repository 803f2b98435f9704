use Rattle.sap_lemmas.proofs.Common.{◌<◌, List, length, ◌∙◌, ap, subst, slice_get_within, err_from_is_err_and}
use Rattle.sap_system.specs.Rules.{part_names}
use Rattle.sap_system.specs.declared.file.Part.{Part}
use Rattle.sap_files.proofs.Ended.{reading_ended}
use Rattle.sap_linker.specs.Given.{design_names}
use Rattle.sap_commands.specs.Link.{loaded_designs}
use Rattle.sap_commands.specs.declared.link.LoadedPart.{LoadedPart}
use Rattle.sap_commands.proofs.Linked.{names_same}
use Rattle.sap_commands.proofs.PartsLoaded.{read_as}
use Rattle.sap_commands.proofs.LinkEnds.{linked, not_linked, not_listed, stopped}
use Rattle.sap_commands.proofs.link.link.Goals as goal

pub returns-in_err-levels : goal.returns-in_err-levels
returns-in_err-levels g c =
    let p = err_from_is_err_and c.from_residual.result c.from_residual.ensures.1 in
    rw (p.1, p.2) (reading_ended c.in_err-levels.ensures)

pub returns-in_err-listed : goal.returns-in_err-listed
returns-in_err-listed g c =
    let p = err_from_is_err_and c.from_residual-in_err-listed.result c.from_residual-in_err-listed.ensures.1 in
    rw (p.1, p.2) (not_listed _ _ _ c.in_ok-levels.levels c.in_ok-levels.ensures.1 c.in_ok-levels.ensures.2 c.in_err-listed.ensures)

pub linked_text-requires-clause-names : goal.linked_text-requires-clause-names
linked_text-requires-clause-names g c =
    ap (λ (made : List LoadedPart). design_names (loaded_designs made)) c.deref.ensures.value
    ∙ names_same _ _ _ _ c.in-Ok.ensures.read.have ∙ ap part_names c.parts.ensures

pub returns-in_err-text-in-Ok : goal.returns-in_err-text-in-Ok
returns-in_err-text-in-Ok g c =
    let k = c.in_ok-levels.levels in
    let p = err_from_is_err_and c.from_residual-in_err-text-in-Ok.result c.from_residual-in_err-text-in-Ok.ensures.1 in
    rw (p.1, p.2)
    (not_linked _ _ _ k c.in_ok-levels.ensures.1 c.in_ok-levels.ensures.2 c.in_ok-listed.listed c.in_ok-listed.ensures c.parts.result.now c.parts.ensures
    (loaded_designs c.deref.result.now) _ (read_as c.deref.result.now c.deref.ensures.value c.in-Ok.ensures.read)
    c.in_err-text-in-Ok.ensures)

pub returns-in-Ok : goal.returns-in-Ok
returns-in-Ok g c =
    let k = c.in_ok-levels.levels in
    linked _ _ _ k c.in_ok-levels.ensures.1 c.in_ok-levels.ensures.2 c.in_ok-listed.listed c.in_ok-listed.ensures c.parts.result.now c.parts.ensures
    (loaded_designs c.deref.result.now) _ (read_as c.deref.result.now c.deref.ensures.value c.in-Ok.ensures.read)
    c.in_ok-text-in-Ok.ensures c.write.ensures

pub failure_at-requires : goal.failure_at-requires
failure_at-requires g c =
    subst (λ (ps : List Part). c.in-Err.stopped.place < length ps) c.parts.ensures
    (slice_get_within c.parts.result.now c.in-Err.stopped.place c.in-Err.ensures.stopped.part c.in-Err.ensures.stopped.is_part)

pub returns : goal.returns
returns g c =
    stopped _ _ _ c.in_ok-levels.levels c.in_ok-levels.ensures.1 c.in_ok-levels.ensures.2 c.in_ok-listed.listed c.in_ok-listed.ensures c.parts.result.now c.parts.ensures
    c.in-Err.stopped.place c.in-Err.stopped.why c.failure_at.result c.in-Err.ensures.stopped c.failure_at.ensures
