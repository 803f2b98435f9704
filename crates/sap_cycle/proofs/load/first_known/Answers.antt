use Rattle.sap_lemmas.proofs.Common.{◌≡◌, List, [], ◌++◌, map, sym, ap, ◌∙◌, subst, AllByRecursion}
use Rattle.sap_maps.specs.Maps.{Name}
use Rattle.sap_net.specs.IsNetlist.{width_of, input_names}
use Rattle.sap_net.specs.declared.parts.Input.{Input}
use Rattle.sap_net.specs.declared.parts.Register.{Register}
use Rattle.sap_cycle.specs.Known.{Knows}
use Rattle.sap_cycle.specs.Running.{first_names}
use Rattle.sap_cycle.proofs.Found.{finds_none}
use Rattle.sap_cycle.proofs.First.{inputs_wide, registers_wide}
use Rattle.sap_cycle.proofs.load.first_known.Goals as goal

pub returns : goal.returns
returns c =
    let n = c.args.netlist.now in
    let f = width_of n in
    let is = c.inputs.result.now in
    let rs = c.registers.result.now in
    let wide_inputs : AllByRecursion (λ (i : Input). f i.name ≡ i.width) is =
    subst (AllByRecursion (λ (i : Input). f i.name ≡ i.width)) (sym c.inputs.ensures) (inputs_wide n c.rules.ensures) in
    let wide_registers : AllByRecursion (λ (r : Register). f r.name ≡ r.width) rs =
    subst (AllByRecursion (λ (r : Register). f r.name ≡ r.width)) (sym c.registers.ensures) (registers_wide n c.rules.ensures) in
    let inputs_known : Knows f n.memories (map (λ (i : Input). i.name) is) c.learn_inputs.new.known =
    c.in_ok-learn_inputs.ensures {u = tt} f n.memories []
    (record {
      places = finds_none c.new-places.result c.new-places.ensures.empty;
      widths_are = c.new-widths.ensures.items;
      memories = c.requires.stored;
      bases = c.requires.bases;
    })
    wide_inputs in
    let all_known : Knows f n.memories (map (λ (i : Input). i.name) is ++ map (λ (r : Register). r.name) rs) c.learn_registers.new.known =
    c.in_ok-learn_registers.ensures {u = tt} f n.memories (map (λ (i : Input). i.name) is) inputs_known wide_registers in
    let names : map (λ (i : Input). i.name) is ++ map (λ (r : Register). r.name) rs ≡ first_names n =
    ap (λ (l : List Input). map (λ (i : Input). i.name) l ++ map (λ (r : Register). r.name) rs) c.inputs.ensures
    ∙ ap (λ (l : List Register). input_names n ++ map (λ (r : Register). r.name) l) c.registers.ensures in
    subst (λ (l : List Name). Knows f n.memories l c.learn_registers.new.known) names all_known
