-- The faults of one item, of one port, and of lists.
use Rattle.sap_lemmas.proofs.Common.{◌≡◌, List, [], ◌∷◌, ◌++◌, refl, flat_map}
use Rattle.sap_vtext.specs.Items.{Item, Port, File}
use Rattle.sap_vtext.specs.Names.{port_declaration, item_declarations, Known}
use Rattle.sap_vtext.specs.Faults.{uses, operand_uses, operand_constants}
use Rattle.sap_vparse.specs.declared.items.Operand.{Operand}
use Rattle.sap_vparse.specs.Views.{operand_of, operands_of}
use Rattle.sap_vjudge.specs.Known.{nothing_known, after_port, after_ports, after_item, after_items}
use Rattle.sap_vjudge.specs.Listed.{item_faults, port_faults, declared_faults, uses_faults, constants_faults, sized_faults, memory_faults, twice_faults, range_faults, file_faults, ports_faults, items_faults, unset_faults, unsets_faults, ports_unset, items_unset, known_at_end}
use Rattle.sap_vjudge.proofs.Noting.{uses_faults-none, uses_faults-append, constants_faults-none, constants_faults-append, unsets_faults-append}

pub item_faults-is : (k : Known) (x : Item) → item_faults k x ≡ declared_faults k x ++ (uses_faults k (uses x) ++ (sized_faults k x ++ memory_faults k x))
unfolding item_faults
item_faults-is k x = refl

pub port_faults-is : (k : Known) (p : Port) → port_faults k p ≡ twice_faults k (port_declaration p) ++ range_faults p.range
unfolding port_faults
port_faults-is k p = refl

pub ruleset items = (item_faults-is, port_faults-is)

pub file_faults-is : (f : File) → file_faults f
    ≡ ports_faults nothing_known f.ports
    ++ (items_faults (after_ports nothing_known f.ports) f.items ++ (ports_unset (known_at_end f) f.ports ++ items_unset (known_at_end f) f.items))
unfolding file_faults
file_faults-is f = refl

pub ruleset files = (file_faults-is)

pub ports_faults-none : (k : Known) → ports_faults k [] ≡ []
unfolding ports_faults
ports_faults-none k = refl

pub ports_faults-cons : (k : Known) (p : Port) (ps : List Port) → ports_faults k (p ∷ ps) ≡ port_faults k p ++ ports_faults (after_port k p) ps
unfolding ports_faults
ports_faults-cons k p ps = refl

pub items_faults-none : (k : Known) → items_faults k [] ≡ []
unfolding items_faults
items_faults-none k = refl

pub items_faults-cons : (k : Known) (x : Item) (xs : List Item) → items_faults k (x ∷ xs) ≡ item_faults k x ++ items_faults (after_item k x) xs
unfolding items_faults
items_faults-cons k x xs = refl

pub after_ports-none : (k : Known) → after_ports k [] ≡ k
unfolding after_ports
after_ports-none k = refl

pub after_ports-cons : (k : Known) (p : Port) (ps : List Port) → after_ports k (p ∷ ps) ≡ after_ports (after_port k p) ps
unfolding after_ports
after_ports-cons k p ps = refl

pub after_items-none : (k : Known) → after_items k [] ≡ k
unfolding after_items
after_items-none k = refl

pub after_items-cons : (k : Known) (x : Item) (xs : List Item) → after_items k (x ∷ xs) ≡ after_items (after_item k x) xs
unfolding after_items
after_items-cons k x xs = refl

pub ports_unset-none : (k : Known) → ports_unset k [] ≡ []
unfolding ports_unset unsets_faults
ports_unset-none k = refl

pub ports_unset-cons : (k : Known) (p : Port) (ps : List Port) → ports_unset k (p ∷ ps) ≡ unset_faults k (port_declaration p) ++ ports_unset k ps
unfolding ports_unset unsets_faults
ports_unset-cons k p ps = refl

pub items_unset-none : (k : Known) → items_unset k [] ≡ []
unfolding items_unset unsets_faults
items_unset-none k = refl

pub items_unset-cons : (k : Known) (x : Item) (xs : List Item) → items_unset k (x ∷ xs) ≡ unsets_faults k (item_declarations x) ++ items_unset k xs
unfolding items_unset
items_unset-cons k x xs = unsets_faults-append k (item_declarations x) (flat_map item_declarations xs)

pub operands_used-none : (k : Known) → uses_faults k (flat_map operand_uses (operands_of [])) ≡ []
operands_used-none k = uses_faults-none k

pub operands_used-cons : (k : Known) (x : Operand) (xs : List Operand)
    → uses_faults k (flat_map operand_uses (operands_of (x ∷ xs))) ≡ uses_faults k (operand_uses (operand_of x)) ++ uses_faults k (flat_map operand_uses (operands_of xs))
operands_used-cons k x xs = uses_faults-append k (operand_uses (operand_of x)) (flat_map operand_uses (operands_of xs))

pub operands_constant-none : constants_faults (flat_map operand_constants (operands_of [])) ≡ []
operands_constant-none = constants_faults-none

pub operands_constant-cons : (x : Operand) (xs : List Operand)
    → constants_faults (flat_map operand_constants (operands_of (x ∷ xs))) ≡ constants_faults (operand_constants (operand_of x))
    ++ constants_faults (flat_map operand_constants (operands_of xs))
operands_constant-cons x xs = constants_faults-append (operand_constants (operand_of x)) (flat_map operand_constants (operands_of xs))
