use Rattle.sap_lemmas.proofs.Common.{◌∙◌, [], ◌∷◌, ◌++◌, length, ap, refl, slice_get_read, slice_get_past}
use Rattle.sap_maps.specs.Term.{constant}
use Rattle.sap_ir.specs.Prelude.{commands_of, set, seat_width}
use Rattle.sap_flat.specs.Flat.{under}
use Rattle.sap_flat.proofs.Steps.{goto_found, goto_missing}
use Rattle.sap_flat.proofs.moves.goto.Goals as goal

pub returns-in_ok-restart-in-Some : goal.returns-in_ok-restart-in-Some
returns-in_ok-restart-in-Some c =
    let group = c.args.group.now in
    let out = commands_of c.args.out.now.items in
    let found = c.in-Some.ensures.lookup in
    goto_found c.args.seat.now group c.args.j c.place-n.result c.args.target.now c.in-Some.state.now c.as_slice.result.now
    c.as_slice-in-Some.result.now out (commands_of c.set_seat.new.out.items) (commands_of c.first_child.new.out.items)
    (commands_of c.restart.new.out.items) c.place-n.ensures
    (slice_get_read group (length group) c.place-n.result c.in-Some.state.now refl found.3.0 found.1) c.as_slice.ensures.value
    c.as_slice-in-Some.ensures.value (c.in_ok-set_seat.ensures
    ∙ ap (λ x. out ++ under c.args.j (set x (constant (seat_width (length group)) c.place-n.result)) ∷ []) c.in_ok-own.ensures)
    c.in_ok-first_child-in-Some.ensures c.in_ok-restart-in-Some.ensures

pub returns-in-None : goal.returns-in-None
returns-in-None c =
    let group = c.args.group.now in
    let out = commands_of c.args.out.now.items in
    goto_missing c.args.seat.now group c.args.j c.place-n.result c.args.target.now out (commands_of c.set_seat.new.out.items)
    c.place-n.ensures (slice_get_past group c.place-n.result c.in-None.ensures.lookup.3) (c.in_ok-set_seat.ensures
    ∙ ap (λ x. out ++ under c.args.j (set x (constant (seat_width (length group)) c.place-n.result)) ∷ []) c.in_ok-own.ensures)
