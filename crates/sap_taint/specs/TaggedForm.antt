-- When a netlist has the form of another with tags.
use Rattle.std.specs.Prelude.{◌≡◌, ℕ, List, [], ◌∷◌, ◌++◌, Some, map, true}
use Rattle.std.specs.List.{AllByRecursion}
use Rattle.sap_maps.specs.Maps.{Name}
use Rattle.sap_maps.specs.Scope.{find}
use Rattle.sap_net.specs.declared.parts.Port.{Port}
use Rattle.sap_net.specs.declared.parts.Input.{Input}
use Rattle.sap_net.specs.Net.{Net}
use Rattle.sap_net.specs.Names.{is_among}
use Rattle.sap_net.specs.IsNetlist.{readable, shapes, register_names, memory_names, wire_names}
use Rattle.sap_taint.specs.TagNames.{name_of_tag, with_tags}

-- Each port with its tag's directly behind, of the same kind.
abbrev pub tagged_ports : List Port → List Port
tagged_ports [] = []
tagged_ports (p ∷ ps) = p ∷ record { name = name_of_tag p.name; kind = p.kind } ∷ tagged_ports ps

-- Each input with its tag's directly behind; tags are w bits wide.
abbrev pub tagged_inputs : (w : ℕ) → List Input → List Input
tagged_inputs w [] = []
tagged_inputs w (i ∷ is) = i ∷ record { name = name_of_tag i.name; width = w } ∷ tagged_inputs w is

-- `m` is n with a tag for each name, w bits wide.
pub record HasTaggedForm (w : ℕ) (n m : Net) : Type 0 where
  pub module_name : m.module_name ≡ n.module_name
  pub ports : m.ports ≡ tagged_ports n.ports
  pub inputs : m.inputs ≡ tagged_inputs w n.inputs
  -- each declared name with its tag's directly behind, and then wires that help
  pub helping : List Name
  pub names : m.names ≡ with_tags n.names ++ helping
  pub helping_wires : AllByRecursion (λ x. is_among x (wire_names m) ≡ true) helping
  -- The tag of a wire is a wire, that of a register or a memory is a register; no more registers or memories are there.
  pub wires : AllByRecursion (λ t. is_among t (wire_names m) ≡ true) (map name_of_tag (wire_names n))
  pub registers : (x : Name) → is_among x (register_names m)
      ≡ is_among x (register_names n ++ map name_of_tag (register_names n ++ memory_names n))
  pub memories : (x : Name) → is_among x (memory_names m) ≡ is_among x (memory_names n)
  -- widths and depths
  pub values : (x : Name) (u : ℕ) → find (readable n) x ≡ Some u → (find (readable m) x ≡ Some u)
      × (find (readable m) (name_of_tag x) ≡ Some w)
  pub shapes : (x : Name) (s : ℕ × ℕ) → find (shapes n) x ≡ Some s → (find (shapes m) x ≡ Some s)
      × (find (readable m) (name_of_tag x) ≡ Some w)
