use Rattle.sap_lemmas.proofs.Common.{◌≡◌, ◌+◌, ◌<◌, ◌≤◌, List, [], ◌∷◌, ◌++◌, length, get_or, map, sym, ap, ◌∙◌, subst, AllByRecursion}
use Rattle.sap_net.specs.declared.parts.Wire.{Wire}
use Rattle.sap_cycle.specs.declared.steps.Part.{Part}
use Rattle.sap_cycle.specs.declared.steps.Step.{Step}
use Rattle.sap_cycle.specs.Instructions.{step_of_instruction, IsWithin}
use Rattle.sap_cycle.specs.Known.{step_found, parts_found}
use Rattle.sap_cycle.proofs.Compiling.{Compiling, compiling_none, compiling_known, compiling_more, compiled_mean, compiled_knows}
use Rattle.sap_cycle.proofs.Others.{steps_more, within_pushed}
use Rattle.sap_cycle.proofs.load.compile.Goals as goal

pub loop-wire-init : goal.loop-wire-init
loop-wire-init c =
    let n = c.args.netlist.now in
    rw (c.new-steps.ensures.items, c.new-parts.ensures.items) (compiling_none n c.requires.rules c.args.known.now c.requires.knows, tt)

pub step_of-requires : goal.step_of-requires
step_of-requires c =
    let n = c.args.netlist.now in
    let i = c.loop-wire.wire-index in
    let w = c.wire-item.result in
    let lt : i < length n.wires = subst (λ (l : List Wire). i < length l) c.wires-wires.ensures c.loop-wire-test.true in
    let is : w ≡ get_or n.wires i w = subst (λ (l : List Wire). w ≡ get_or l i w) c.wires-wires.ensures c.wire-item.is in
    compiling_known n i c.loop-wire.known (map (step_of_instruction c.loop-wire.others.items) c.loop-wire.steps.items) c.loop-wire.parts.items c.loop-wire.invariant.0 w lt is

pub loop-wire-preserved : goal.loop-wire-preserved
loop-wire-preserved c =
    let n = c.args.netlist.now in
    let i = c.loop-wire.wire-index in
    let w = c.wire-item.result in
    let k = c.loop-wire.known in
    let ss = map (step_of_instruction c.loop-wire.others.items) c.loop-wire.steps.items in
    let ps = c.loop-wire.parts.items in
    let lt : i < length n.wires = subst (λ (l : List Wire). i < length l) c.wires-wires.ensures c.loop-wire-test.true in
    let is : w ≡ get_or n.wires i w = subst (λ (l : List Wire). w ≡ get_or l i w) c.wires-wires.ensures c.wire-item.is in
    let more = c.in_ok-instruction.ensures.more in
    let es : map (step_of_instruction c.instruction_of.new.others.items) c.push.new.self.items ≡ ss ++ step_found k (length ps) w.right ∷ [] =
    ap (map (step_of_instruction c.instruction_of.new.others.items)) c.in_ok-push.ensures.items
    ∙ steps_more c.loop-wire.others.items c.instruction_of.new.others.items more.0 c.loop-wire.steps.items c.in_ok-instruction.instruction
    (step_found k (length ps) w.right) more.1 c.loop-wire.invariant.1
    (c.in_ok-instruction.ensures.step ∙ c.in_ok-step.ensures.step) in
    let ep : c.step_of.new.parts.items ≡ ps ++ parts_found k w.right = c.in_ok-step.ensures.parts in
    let whole : Compiling n (i + 1) c.learn.new.known (map (step_of_instruction c.instruction_of.new.others.items) c.push.new.self.items) c.step_of.new.parts.items =
    subst (λ (l : List Step). Compiling n (i + 1) c.learn.new.known l c.step_of.new.parts.items) (sym es)
    (subst (λ (l : List Part). Compiling n (i + 1) c.learn.new.known (ss ++ step_found k (length ps) w.right ∷ []) l) (sym ep)
    (compiling_more n i k ss ps c.loop-wire.invariant.0 w lt is c.learn.new.known c.in_ok-learn.ensures)) in
    let within =
    within_pushed c.loop-wire.others.items c.instruction_of.new.others.items more.0 c.loop-wire.steps.items c.in_ok-instruction.instruction
    more.1 c.loop-wire.invariant.1 c.in_ok-instruction.ensures.within in
    (whole, subst (AllByRecursion (IsWithin (length c.instruction_of.new.others.items))) (sym c.in_ok-push.ensures.items) within)

pub returns-clause-mean : goal.returns-clause-mean
returns-clause-mean c =
    let n = c.args.netlist.now in
    let le : length n.wires ≤ c.loop-wire.wire-index = subst (λ (l : List Wire). length l ≤ c.loop-wire.wire-index) c.wires-wires.ensures c.loop-wire-test.false in
    compiled_mean n c.loop-wire.wire-index c.loop-wire.known (map (step_of_instruction c.loop-wire.others.items) c.loop-wire.steps.items)
    c.loop-wire.parts.items c.loop-wire.invariant.0 le

pub returns-clause-knows : goal.returns-clause-knows
returns-clause-knows c =
    let n = c.args.netlist.now in
    let le : length n.wires ≤ c.loop-wire.wire-index = subst (λ (l : List Wire). length l ≤ c.loop-wire.wire-index) c.wires-wires.ensures c.loop-wire-test.false in
    compiled_knows n c.loop-wire.wire-index c.loop-wire.known (map (step_of_instruction c.loop-wire.others.items) c.loop-wire.steps.items)
    c.loop-wire.parts.items c.loop-wire.invariant.0 le
