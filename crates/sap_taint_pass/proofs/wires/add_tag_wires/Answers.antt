use Rattle.std.proofs.Common.{◌≡◌, ◌+◌, ◌∷◌, [], List, drop, ap, sym, ◌∙◌, refl, arith}
use Rattle.sap_net.specs.declared.parts.Wire.{Wire}
use Rattle.sap_build.specs.Writing.{grown}
use Rattle.sap_build.proofs.Grown.{grown_none}
use Rattle.sap_taint.specs.TagNames.{name_of_tag}
use Rattle.sap_taint_pass.specs.Tainted.{joined, tag_wires, tags_read, help_for, help_for_wires}
use Rattle.sap_taint_pass.specs.Helping.{helping_name}
use Rattle.sap_taint_pass.specs.Helped.{help_from}
use Rattle.sap_taint_pass.proofs.Helped.{helped_more, adds_more, tail_of, nothing_left}
use Rattle.sap_taint_pass.proofs.wires.add_tag_wires.Goals as goal

pub loop-wire-init : goal.loop-wire-init
loop-wire-init c = λ n k h. (k, h, refl)

pub loop-wire-preserved : goal.loop-wire-preserved
loop-wire-preserved c = λ n k h.
    let i = c.loop-wire.invariant n k h in
    let j = i.0 in
    let wires = c.args.wires.now in
    let at = c.loop-wire.wire-index in
    let x = c.wire-item.result in
    let m = c.loop-wire.writer in
    let m' = c.add_tag_wire.new.writer in
    let helping = helping_name n in
    let parts : drop at wires ≡ x ∷ drop (at + 1) wires = tail_of wires at x (omega arith) c.wire-item.is in
    let count = help_for (tags_read x) in
    let made = joined helping c.args.width j (name_of_tag x.name) (tags_read x) in
    let adds = c.in_ok-add_tag_wire.ensures {u = tt} n j i.1 in (
      j + count,
      helped_more n j count made [] m m' i.1 adds,
      adds_more n j count (help_for_wires (drop (at + 1) wires)) made (tag_wires helping c.args.width (j + count) (drop (at + 1) wires)) [] [] m m' adds
          ∙ ap (λ (xs : List Wire). grown (help_from n j (help_for_wires xs)) (tag_wires helping c.args.width j xs) [] m) (sym parts)
          ∙ i.2,
    )

pub returns : goal.returns
returns c = λ n k h.
    let i = c.loop-wire.invariant n k h in
    let wires = c.args.wires.now in
    let none : drop c.loop-wire.wire-index wires ≡ [] = nothing_left wires c.loop-wire.wire-index (omega arith) in
    sym (grown_none c.loop-wire.writer)
    ∙ ap (λ (xs : List Wire). grown (help_from n i.0 (help_for_wires xs)) (tag_wires (helping_name n) c.args.width i.0 xs) [] c.loop-wire.writer) (sym none)
    ∙ i.2
