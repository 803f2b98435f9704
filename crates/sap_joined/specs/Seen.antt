-- Parts and feeds as the code has them.
use Rattle.sap_joined.specs.Joined.{NamedNet, Feed}
use Rattle.sap_joined.specs.declared.parts.NamedNet as code_net
use Rattle.sap_joined.specs.declared.parts.Feed as code_feed

-- A part's name and netlist, as the definitions have them.
abbrev pub named_net : code_net.NamedNet → NamedNet
named_net p = record { name = p.name.now; net = p.netlist.now }

-- A wire between parts, as the definitions have it.
abbrev pub feed : code_feed.Feed → Feed
feed f =
    record {
      from_part = f.from_part.now;
      from = f.from.now;
      to_part = f.to_part.now;
      to = f.to.now;
      width = f.width;
      level = f.level;
    }
