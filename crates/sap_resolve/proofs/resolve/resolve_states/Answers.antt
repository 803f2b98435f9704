use Rattle.std.proofs.Common.{arith, length}
use Rattle.sap_resolve.specs.Surroundings.{known_rows}
use Rattle.sap_program.specs.Views.{group_of}
use Rattle.sap_resolve.proofs.Groups.{whole_states, whole_sites}
use Rattle.sap_resolve.proofs.Limits.{sites_fit, points_fit, states_fit}
use Rattle.sap_resolve.proofs.resolve.resolve_states.Goals as goal

pub states-requires : goal.states-requires
states-requires c =
    let v = c.args.design.now.version in
    let ds = c.args.design.now.declarations.items in
    let ss = c.args.design.now.states.items in
    let es = c.args.known.now.names.now in
    let ls = c.args.known.now.lattice.now in
    record {
      sites = sites_fit v ls ds ss es c.as_slice.result.now c.design_is_whole.ensures c.as_slice.ensures.value;
      points = points_fit v ls ds ss es 1 c.len-number.result c.as_slice.result.now c.design_is_whole.ensures c.as_slice.ensures.value;
      states = states_fit v ds ss c.len-number.result c.as_slice.result.now c.design_is_whole.ensures c.as_slice.ensures.value
          (omega (arith, c.len-number.ensures, c.args.design.now.declarations.ok.0));
    }

pub returns-clause-states : goal.returns-clause-states
returns-clause-states c =
    whole_states c.args.design.now.version c.args.known.now.lattice.now c.args.design.now.declarations.items c.args.design.now.states.items
    c.args.known.now.names.now c.as_slice.result.now c.len-number.result (known_rows c.args.known.now)
    (group_of (length c.args.known.now.names.now) c.in_ok-states.states.items) c.requires c.as_slice.ensures.value
    (omega (arith, c.len-number.ensures, c.args.design.now.declarations.ok.0)) c.in_ok-states.ensures.states

pub returns-clause-sites : goal.returns-clause-sites
returns-clause-sites c =
    whole_sites c.args.design.now.version c.args.design.now.declarations.items c.args.design.now.states.items c.args.known.now.names.now
    c.as_slice.result.now c.states.new.next _ c.requires c.as_slice.ensures.value c.in_ok-states.ensures.next (omega (arith, c.in_ok-states.ensures.next))
