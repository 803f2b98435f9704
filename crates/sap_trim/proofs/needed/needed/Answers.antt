use Rattle.sap_lemmas.proofs.Common.{◌≡◌, ◌∙◌, ◌-◌, ◌++◌, [], List, Bool, length, set, sym, ap, subst, refl, arith, if◌then◌else◌}
use Rattle.sap_maps.specs.Maps.{Name}
use Rattle.sap_net.specs.Prelude.{AreDistinct, first_readable, names_of, shapes}
use Rattle.sap_net.specs.declared.parts.Wire.{Wire}
use Rattle.sap_net.proofs.RulesLemmas.{wires_distinct}
use Rattle.sap_trim.specs.Names.{port_names}
use Rattle.sap_trim.specs.Needed.{Marks, is_marked}
use Rattle.sap_trim.specs.Reads.{edge_reads, right_reads}
use Rattle.sap_trim.proofs.Marked.{Keeping, written, whole_back, first_keeping, next_keeping, all_kept}
use Rattle.sap_trim.proofs.needed.needed.Goals as goal

pub loop-rest-init : goal.loop-rest-init
loop-rest-init c =
    let n = c.args.netlist.now in
    let ws = c.wires-wires.result.now in
    let m = names_of ws in
    let same : c.in_ok-places.places ≡ m = c.in_ok-places.ensures {u = tt} in
    let read = c.in_ok-read.read in
    let new = c.mark_ends.new.marks in
    let kept = c.in_ok-kept.kept.items in
    let first = first_keeping m (port_names n) (edge_reads n) ws c.deref_mut.result.now new kept (c.deref_mut.ensures.value
    ∙ c.in_ok-read.ensures {u = tt}) (subst (λ (ns : List Name). Marks ns (port_names n ++ edge_reads n) c.deref_mut.result.now new)
    same c.mark_ends.ensures) (c.in_ok-kept.ensures {u = tt}) in
    let whole = whole_back new read.items read.len (c.mark_ends.ensures.long ∙ ap (λ (bs : List Bool). length bs) c.deref_mut.ensures.value) read.ok.0 in
    subst (λ (bs : List Bool). Keeping m (port_names n) (edge_reads n) ws (length ws) bs kept) (sym whole) first

pub keep_wire-requires-clause-place : goal.keep_wire-requires-clause-place
keep_wire-requires-clause-place c =
    let within = c.loop-rest.invariant.within in
    let some = c.loop-rest-test.true in
    omega (arith, within, some)

pub keep_wire-requires-clause-read : goal.keep_wire-requires-clause-read
keep_wire-requires-clause-read c =
    ap (λ (bs : List Bool). length bs) c.deref_mut-in-loop-rest-2.ensures.value ∙ c.loop-rest.invariant.long

pub loop-rest-preserved : goal.loop-rest-preserved
loop-rest-preserved c =
    let n = c.args.netlist.now in
    let ws = c.wires-wires.result.now in
    let m = names_of ws in
    let same : c.in_ok-places.places ≡ m = c.in_ok-places.ensures {u = tt} in
    let k = c.loop-rest.rest - 1 in
    let kept = c.deref_mut-in-loop-rest.ensures.value in
    let read = c.deref_mut-in-loop-rest-2.ensures.value in
    let distinct : AreDistinct (names_of ws) =
    subst (λ (xs : List Wire). AreDistinct (names_of xs)) (sym c.wires-wires.ensures) (wires_distinct (shapes n) n.wires (first_readable n) c.rules.ensures.assigns) in
    let after : c.keep_wire.new.kept ≡ set c.loop-rest.kept.items k (is_marked c.loop-rest.read.items k) =
    c.keep_wire.ensures.kept ∙ ap (λ (bs : List Bool). set bs k (is_marked c.deref_mut-in-loop-rest-2.result.now k)) kept
    ∙ ap (λ (bs : List Bool). set c.loop-rest.kept.items k (is_marked bs k)) read in
    let i = c.loop-rest.invariant in
    let new = c.keep_wire.new in
    let next : Keeping m (port_names n) (edge_reads n) ws k new.read new.kept =
    next_keeping m (port_names n) (edge_reads n) ws c.loop-rest.rest c.loop-rest.read.items c.loop-rest.kept.items new.read new.kept refl distinct c.loop-rest-test.true i after
    (λ w e. subst (λ (ns : List Name). Marks ns (if is_marked c.loop-rest.read.items k then right_reads w.right else []) c.loop-rest.read.items new.read) same
    (subst (λ (bs : List Bool). Marks c.in_ok-places.places (if is_marked bs k then right_reads w.right else []) bs new.read) read (c.keep_wire.ensures.read w e))) in
    let whole_read = whole_back new.read c.loop-rest.read.items c.loop-rest.read.len (next.long ∙ sym i.long) c.loop-rest.read.ok.0 in
    let whole_kept = whole_back new.kept c.loop-rest.kept.items c.loop-rest.kept.len (next.kept_long ∙ sym i.kept_long) c.loop-rest.kept.ok.0 in
    subst (λ (bs : List Bool). Keeping m (port_names n) (edge_reads n) ws k bs (written new.kept c.loop-rest.kept.items c.loop-rest.kept.len)) (sym whole_read)
    (subst (λ (bs : List Bool). Keeping m (port_names n) (edge_reads n) ws k new.read bs) (sym whole_kept) next)

pub returns : goal.returns
returns c =
    let zero = c.loop-rest-test.false in
    all_kept (names_of c.wires-wires.result.now) c.args.netlist.now c.wires-wires.result.now c.loop-rest.rest c.loop-rest.read.items
    c.loop-rest.kept.items c.wires-wires.ensures (omega (arith, zero)) c.loop-rest.invariant
