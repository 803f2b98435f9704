-- Examples: a netlist behind a prefix, and two side by side.
use Rattle.std.proofs.Common.{◌++◌, refl, codes, lit<, lit≤}
use Rattle.sap_maps.specs.Maps.{Name}
use Rattle.sap_net.specs.Prelude.{is_name, IsNetlist, IsWidth}
use Rattle.sap_net.specs.Summing.{summing}
use Rattle.sap_build.specs.Copies.{KeepsApart}
use Rattle.sap_build.specs.SideBySide.{SideBySide, both}

abbrev prefixed : Name → Name
prefixed x = codes "left_" ++ x

prefixed_apart : KeepsApart prefixed summing
unfolding is_name
prefixed_apart = record { apart = λ x y h k e. cc; named = (refl, (refl, (refl, (refl, (refl, tt))))) }

byte_wide : IsWidth 8
byte_wide = (lit≤ tt, lit≤ tt)

both_rules : IsNetlist both
unfolding is_name
both_rules =
    record {
      module_named = refl;
      named = (refl, (refl, (refl, (refl, (refl, (refl, (refl, (refl, (refl, (refl, tt))))))))));
      declared_once = (refl, (refl, (refl, (refl, (refl, (refl, (refl, (refl, (refl, (refl, tt))))))))));
      declared = λ x. refl;
      registers_in_order = refl;
      memories_in_order = refl;
      ports_first = refl;
      ports_show = (refl, (refl, (refl, (refl, (refl, (refl, (refl, (refl, tt))))))));
      inputs_are_ports = refl;
      values = (byte_wide, refl, refl, (byte_wide, refl, refl, (byte_wide, refl, refl, tt)));
      memory_shapes = (byte_wide, refl, (byte_wide, refl, tt));
      assigns = (
        byte_wide,
        refl,
        refl,
        (8, 8, byte_wide, byte_wide, refl, refl, refl, refl),
        (
          byte_wide,
          refl,
          refl,
          (2, refl, (refl, lit< tt)),
          (
            byte_wide,
            refl,
            refl,
            refl,
            (
              byte_wide,
              refl,
              refl,
              (8, 8, byte_wide, byte_wide, refl, refl, refl, refl),
              (byte_wide, refl, refl, (2, refl, (refl, lit< tt)), tt),
            ),
          ),
        ),
      );
      nexts = ((lit< tt, refl), ((lit< tt, refl), tt));
      writes = (
        record {
          bits = 2;
          depth = (lit≤ tt, lit≤ tt, refl);
          start = lit< tt;
          enable = (refl, lit< tt);
          index = (refl, lit< tt);
          value = refl;
        },
        (
          record {
            bits = 2;
            depth = (lit≤ tt, lit≤ tt, refl);
            start = lit< tt;
            enable = (refl, lit< tt);
            index = (refl, lit< tt);
            value = refl;
          },
          tt,
        ),
      );
    }

pub side_by_side : SideBySide
side_by_side = (
  both_rules,
  record { fed = (record { width = refl; unclocked = refl }, tt); wires = (refl, (refl, tt)); registers = (refl, tt); memories = (refl, tt) },
  record { fed = (record { width = refl; unclocked = refl }, tt); wires = (refl, (refl, tt)); registers = (refl, tt); memories = (refl, tt) },
)
