-- Where a body stands.
use Rattle.sap_tree.specs.Trees.{states_of}
use Rattle.sap_shape.specs.declared.place.Position.{Position}
use Rattle.sap_shape.specs.ShapeFaults.{Body}

-- The body that a position in the code stands for.
abbrev pub body_of : Position → Body
body_of p = record {
  home = record {
    name = p.name.now;
    kind = p.kind.now;
    children = states_of p.children.now;
  };
  group = states_of p.group.now;
  above = p.above.now;
}
