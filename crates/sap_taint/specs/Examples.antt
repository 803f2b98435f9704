-- Netlists for worked examples.
use Rattle.std.specs.Prelude.{[], ◌∷◌, codes}
use Rattle.sap_bits.specs.declared.Op2.TheVariants.{Add, Or}
use Rattle.sap_net.specs.declared.parts.Operand.TheVariants.{Named, Constant}
use Rattle.sap_net.specs.declared.parts.Right.TheVariants.{Copy, Two, Choose, Cell}
use Rattle.sap_net.specs.declared.parts.Memory.{Memory}
use Rattle.sap_net.specs.declared.parts.PortKind.TheVariants as kind
use Rattle.sap_net.specs.Net.{Net}

-- `v_x` takes its sum with the input, and v_y what v_x was.
abbrev pub handing_on : Net
handing_on =
    record {
      module_name = codes "top";
      names = codes "v_a" ∷ codes "v_x" ∷ codes "v_y" ∷ codes "n1" ∷ [];
      ports =
          record { name = codes "v_a"; kind = kind.Input }
          ∷ record { name = codes "v_x"; kind = kind.Register }
          ∷ record { name = codes "v_y"; kind = kind.Register }
          ∷ [];
      inputs = record { name = codes "v_a"; width = 8 } ∷ [];
      wires = record { name = codes "n1"; width = 8; right = Two Add (Named (codes "v_x")) (Named (codes "v_a")) } ∷ [];
      registers =
          record { name = codes "v_x"; width = 8; start = 0; next = Named (codes "n1") }
          ∷ record { name = codes "v_y"; width = 8; start = 3; next = Named (codes "v_x") }
          ∷ [];
      memories = [];
    }

-- The same with tags of one bit.
abbrev pub handing_tags_on : Net
handing_tags_on =
    record {
      module_name = codes "top";
      names =
          codes "v_a" ∷ codes "t_a" ∷ codes "v_x" ∷ codes "t_x" ∷ codes "v_y" ∷ codes "t_y" ∷ codes "n1"
          ∷ codes "t_n1" ∷ [];
      ports =
          record { name = codes "v_a"; kind = kind.Input }
          ∷ record { name = codes "t_a"; kind = kind.Input }
          ∷ record { name = codes "v_x"; kind = kind.Register }
          ∷ record { name = codes "t_x"; kind = kind.Register }
          ∷ record { name = codes "v_y"; kind = kind.Register }
          ∷ record { name = codes "t_y"; kind = kind.Register }
          ∷ [];
      inputs = record { name = codes "v_a"; width = 8 } ∷ record { name = codes "t_a"; width = 1 } ∷ [];
      wires =
          record { name = codes "t_n1"; width = 1; right = Two Or (Named (codes "t_x")) (Named (codes "t_a")) }
          ∷ record { name = codes "n1"; width = 8; right = Two Add (Named (codes "v_x")) (Named (codes "v_a")) }
          ∷ [];
      registers =
          record { name = codes "v_x"; width = 8; start = 0; next = Named (codes "n1") }
          ∷ record { name = codes "t_x"; width = 1; start = 0; next = Named (codes "t_n1") }
          ∷ record { name = codes "v_y"; width = 8; start = 3; next = Named (codes "v_x") }
          ∷ record { name = codes "t_y"; width = 1; start = 0; next = Named (codes "t_x") }
          ∷ [];
      memories = [];
    }

-- Two registers that hand each other their numbers, and their tags.
abbrev pub swapping : Net
swapping =
    record {
      module_name = codes "top";
      names = codes "v_x" ∷ codes "t_x" ∷ codes "v_y" ∷ codes "t_y" ∷ [];
      ports =
          record { name = codes "v_x"; kind = kind.Register }
          ∷ record { name = codes "t_x"; kind = kind.Register }
          ∷ record { name = codes "v_y"; kind = kind.Register }
          ∷ record { name = codes "t_y"; kind = kind.Register }
          ∷ [];
      inputs = [];
      wires = [];
      registers =
          record { name = codes "v_x"; width = 8; start = 1; next = Named (codes "v_y") }
          ∷ record { name = codes "t_x"; width = 1; start = 0; next = Named (codes "t_y") }
          ∷ record { name = codes "v_y"; width = 8; start = 2; next = Named (codes "v_x") }
          ∷ record { name = codes "t_y"; width = 1; start = 0; next = Named (codes "t_x") }
          ∷ [];
      memories = [];
    }

-- A memory whose first cell takes v_d where v_e is 1.
abbrev pub stored : Memory
stored =
    record {
      name = codes "v_m";
      width = 8;
      depth = 2;
      start = 0;
      enable = Named (codes "v_e");
      index = Constant 1 0;
      value = Named (codes "v_d");
    }

-- `v_y` takes what that cell was.
abbrev pub storing : Net
storing =
    record {
      module_name = codes "top";
      names = codes "v_e" ∷ codes "v_d" ∷ codes "v_y" ∷ codes "n1" ∷ codes "v_m" ∷ [];
      ports =
          record { name = codes "v_e"; kind = kind.Input }
          ∷ record { name = codes "v_d"; kind = kind.Input }
          ∷ record { name = codes "v_y"; kind = kind.Register }
          ∷ [];
      inputs = record { name = codes "v_e"; width = 1 } ∷ record { name = codes "v_d"; width = 8 } ∷ [];
      wires = record { name = codes "n1"; width = 8; right = Cell (codes "v_m") (Constant 1 0) } ∷ [];
      registers = record { name = codes "v_y"; width = 8; start = 0; next = Named (codes "n1") } ∷ [];
      memories = stored ∷ [];
    }

-- The same with tags of two bits, and three helping wires for what the memory's tag takes.
abbrev pub storing_tags : Net
storing_tags =
    record {
      module_name = codes "top";
      names =
          codes "v_e" ∷ codes "t_e" ∷ codes "v_d" ∷ codes "t_d" ∷ codes "v_y" ∷ codes "t_y" ∷ codes "n1"
          ∷ codes "t_n1" ∷ codes "v_m" ∷ codes "t_m"
          ∷ codes "n2" ∷ codes "n3" ∷ codes "n4" ∷ [];
      ports =
          record { name = codes "v_e"; kind = kind.Input }
          ∷ record { name = codes "t_e"; kind = kind.Input }
          ∷ record { name = codes "v_d"; kind = kind.Input }
          ∷ record { name = codes "t_d"; kind = kind.Input }
          ∷ record { name = codes "v_y"; kind = kind.Register }
          ∷ record { name = codes "t_y"; kind = kind.Register }
          ∷ [];
      inputs =
          record { name = codes "v_e"; width = 1 }
          ∷ record { name = codes "t_e"; width = 2 }
          ∷ record { name = codes "v_d"; width = 8 }
          ∷ record { name = codes "t_d"; width = 2 }
          ∷ [];
      wires =
          record { name = codes "n1"; width = 8; right = Cell (codes "v_m") (Constant 1 0) }
          ∷ record { name = codes "t_n1"; width = 2; right = Copy (Named (codes "t_m")) }
          ∷ record { name = codes "n2"; width = 2; right = Two Or (Named (codes "t_m")) (Named (codes "t_e")) }
          ∷ record {
            name = codes "n3";
            width = 2;
            right = Choose (Named (codes "v_e")) (Named (codes "t_d")) (Constant 2 0);
          }
          ∷ record { name = codes "n4"; width = 2; right = Two Or (Named (codes "n2")) (Named (codes "n3")) }
          ∷ [];
      registers =
          record { name = codes "v_y"; width = 8; start = 0; next = Named (codes "n1") }
          ∷ record { name = codes "t_y"; width = 2; start = 0; next = Named (codes "t_n1") }
          ∷ record { name = codes "t_m"; width = 2; start = 0; next = Named (codes "n4") }
          ∷ [];
      memories = stored ∷ [];
    }
