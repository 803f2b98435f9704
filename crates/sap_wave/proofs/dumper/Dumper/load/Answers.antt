use Rattle.sap_lemmas.proofs.Common.{◌≡◌, ◌≤◌, length, sym, ap, ◌∙◌, subst, arith, length_map}
use Rattle.sap_wave.specs.declared.variable.Variable.{Variable}
use Rattle.sap_net.specs.Runs.{initial_number}
use Rattle.sap_wave.specs.Prelude.{AreVariables, block_room, variables_of}
use Rattle.sap_wave.proofs.Running.{are_variables}
use Rattle.sap_wave.proofs.dumper.Dumper.load.Goals as goal

pub invariant_of-result : goal.invariant_of-result
invariant_of-result c =
    let n = c.args.netlist.now in
    let shown = c.in_ok-variables.field-0 in
    let one_each : length shown.first.items ≡ length shown.variables.items =
    ap length c.in_ok-variables.ensures.first
    ∙ length_map (λ (x : Variable). initial_number n x.name) (variables_of n)
    ∙ ap length (sym c.in_ok-variables.ensures.variables) in
    let from = ap length c.as_slice.ensures.value in
    let last : length c.in_ok-last.last.items ≡ length shown.first.items = omega (arith, from, c.in_ok-last.ensures.len) in
    let from_again = ap length c.as_slice-2.ensures.value in
    let next : length c.in_ok-next.next.items ≡ length shown.first.items = omega (arith, from_again, c.in_ok-next.ensures.len) in
    let room : block_room shown.variables.items ≤ c.in_ok-block.block.room =
    let has : c.in_ok-block.block.room ≡ c.in-Some.room = ap (λ b. b.room) c.in_ok-block.ensures in
    let given = ap block_room c.deref.ensures.value in
    omega (arith, has, given, c.in-Some.ensures.some) in
    record {
      variables = subst AreVariables (sym c.in_ok-variables.ensures.variables) (are_variables n c.rules.ensures);
      first = one_each;
      last = last ∙ one_each;
      next = next ∙ one_each;
      room = room;
    }
