-- The example, by computation.
use Rattle.sap_lemmas.proofs.Common.{refl, lit<, lit≤, true, ◌++◌, ◌≡◌, iff_same, all_of_test}
use Rattle.std.specs.Fmt.{digits}
use Rattle.sap_lattice.specs.Prelude.{code_of, meet_irreducibles, order_of, order_by}
use Rattle.sap_net.specs.Prelude.{is_among, is_name, Net, input_names, memory_names, register_names, wire_names, IsWidth}
use Rattle.sap_net.proofs.NamesLemmas.{among_each}
use Rattle.sap_linked.specs.Prelude.{linked_net, p_and_q, simple_nets, PortsInOrder, LinkedIsNetlist}

pub ports_in_order : PortsInOrder
unfolding digits order_of order_by
ports_in_order = refl

byte_wide : IsWidth 8
byte_wide = (lit≤ tt, lit≤ tt)

bit_wide : IsWidth 1
bit_wide = (lit≤ tt, lit≤ tt)

abbrev whole : Net
whole = linked_net p_and_q simple_nets

pub linked_is_netlist : LinkedIsNetlist
unfolding is_name digits order_of order_by code_of meet_irreducibles
linked_is_netlist =
    record {
      module_named = refl;
      named = all_of_test is_name (λ x. is_name x ≡ true) (λ x h. h) whole.names refl;
      declared_once = (refl, (refl, (refl, (refl, (refl, (refl, (refl, (refl, (refl, (refl, (refl, (refl, (refl, (refl, (refl, (refl, (refl, (refl, (refl, tt)))))))))))))))))));
      declared = λ x.
          let all = input_names whole ++ wire_names whole ++ register_names whole ++ memory_names whole in
          iff_same (is_among x whole.names) (is_among x all)
          (among_each (λ n. is_among n all ≡ true) whole.names (all_of_test (λ n. is_among n all) (λ n. is_among n all ≡ true) (λ n h. h) whole.names refl) x)
          (among_each (λ n. is_among n whole.names ≡ true) all (all_of_test (λ n. is_among n whole.names) (λ n. is_among n whole.names ≡ true) (λ n h. h) all refl) x);
      registers_in_order = refl;
      memories_in_order = refl;
      ports_first = refl;
      ports_show = (refl, (refl, (refl, (refl, (refl, (refl, (refl, (refl, (refl, (refl, (refl, (refl, tt))))))))))));
      inputs_are_ports = refl;
      values = (
        byte_wide,
        refl,
        refl,
        (
          bit_wide,
          refl,
          refl,
          (
            byte_wide,
            refl,
            refl,
            (
              bit_wide,
              refl,
              refl,
              (byte_wide, refl, refl, (bit_wide, refl, refl, (bit_wide, refl, refl, (bit_wide, refl, refl, (bit_wide, refl, refl, (bit_wide, refl, refl, tt)))))),
            ),
          ),
        ),
      );
      memory_shapes = tt;
      assigns = (
        bit_wide,
        refl,
        refl,
        (1, 1, bit_wide, bit_wide, refl, (refl, lit< tt), refl, refl),
        (
          bit_wide,
          refl,
          refl,
          (1, 1, bit_wide, bit_wide, refl, (refl, lit< tt), refl, refl),
          (
            byte_wide,
            refl,
            refl,
            (refl, refl, (refl, lit< tt)),
            (
              bit_wide,
              refl,
              refl,
              (refl, lit< tt),
              (
                byte_wide,
                refl,
                refl,
                (8, 8, byte_wide, byte_wide, refl, (refl, lit< tt), refl, refl),
                (
                  bit_wide,
                  refl,
                  refl,
                  (refl, lit< tt),
                  (
                    bit_wide,
                    refl,
                    refl,
                    (refl, lit< tt),
                    (bit_wide, refl, refl, (refl, lit< tt), (bit_wide, refl, refl, (refl, lit< tt), tt)),
                  ),
                ),
              ),
            ),
          ),
        ),
      );
      nexts = ((lit< tt, refl), ((lit< tt, refl), ((lit< tt, refl), ((lit< tt, refl), ((lit< tt, refl), ((lit< tt, refl), ((lit< tt, refl), ((lit< tt, refl), tt))))))));
      writes = tt;
    }
