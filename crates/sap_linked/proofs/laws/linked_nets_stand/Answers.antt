use Rattle.sap_linked.proofs.Linked.{linked_nets_stand}
use Rattle.sap_linked.proofs.laws.linked_nets_stand.Goals as goal

pub returns : goal.returns
returns c =
    linked_nets_stand c.parts_run_alike.ensures.runs c.parts_run_alike.ensures.shows c.states_keep.ensures.fit c.parts_run_alone.ensures.fit
    c.inputs_receive.ensures.fed c.inputs_receive.ensures.free
