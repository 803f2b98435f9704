-- Netlists with more at the end of their lists.
use Rattle.sap_lemmas.proofs.Common.{◌≡◌, List, [], ◌∷◌, ◌++◌, ap, ap₂, sym, ◌∙◌, refl, append-nil, append_assoc}
use Rattle.sap_maps.specs.Maps.{Name}
use Rattle.sap_net.specs.Net.{Net}
use Rattle.sap_net.specs.declared.parts.Wire.{Wire}
use Rattle.sap_net.specs.declared.parts.Register.{Register}
use Rattle.sap_build.specs.Writing.{grown, declared, assigned, registered}

-- the netlist with other names, wires and registers
abbrev pub with_lists : Net → List Name → List Wire → List Register → Net
with_lists m xs ws rs =
    record { module_name = m.module_name; names = xs; ports = m.ports; inputs = m.inputs; wires = ws; registers = rs; memories = m.memories }

pub same_lists : (m : Net) (xs ys : List Name) (ws us : List Wire) (rs ss : List Register) → xs ≡ ys → ws ≡ us → rs ≡ ss
    → with_lists m xs ws rs ≡ with_lists m ys us ss
same_lists m xs ys ws us rs ss p q r = ap₂ (λ (cs : List Name) (ds : List Wire). with_lists m cs ds rs) p q ∙ ap (λ (qs : List Register). with_lists m ys us qs) r

pub grown_twice : (xs ys : List Name) (ws us : List Wire) (rs ss : List Register) (m : Net) → grown ys us ss (grown xs ws rs m) ≡ grown (xs ++ ys) (ws ++ us) (rs ++ ss) m
grown_twice xs ys ws us rs ss m =
    same_lists m ((m.names ++ xs) ++ ys) (m.names ++ (xs ++ ys)) ((m.wires ++ ws) ++ us) (m.wires ++ (ws ++ us)) ((m.registers ++ rs) ++ ss) (m.registers ++ (rs ++ ss))
    (append_assoc m.names xs ys) (append_assoc m.wires ws us) (append_assoc m.registers rs ss)

pub grown_none : (m : Net) → grown [] [] [] m ≡ m
grown_none m = same_lists m (m.names ++ []) m.names (m.wires ++ []) m.wires (m.registers ++ []) m.registers (append-nil m.names) (append-nil m.wires) (append-nil m.registers)

pub declared_grows : (x : Name) (m : Net) → declared x m ≡ grown (x ∷ []) [] [] m
declared_grows x m =
    same_lists m (m.names ++ x ∷ []) (m.names ++ x ∷ []) m.wires (m.wires ++ []) m.registers (m.registers ++ []) refl (sym (append-nil m.wires)) (sym (append-nil m.registers))

pub assigned_grows : (w : Wire) (m : Net) → assigned w m ≡ grown [] (w ∷ []) [] m
assigned_grows w m =
    same_lists m m.names (m.names ++ []) (m.wires ++ w ∷ []) (m.wires ++ w ∷ []) m.registers (m.registers ++ []) (sym (append-nil m.names)) refl (sym (append-nil m.registers))

pub registered_grows : (r : Register) (m : Net) → registered r m ≡ grown [] [] (r ∷ []) m
registered_grows r m =
    same_lists m m.names (m.names ++ []) m.wires (m.wires ++ []) (m.registers ++ r ∷ []) (m.registers ++ r ∷ []) (sym (append-nil m.names)) (sym (append-nil m.wires)) refl

-- A wire that is declared and assigned first stands in front.
pub wire_in_front : (x : Name) (w : Wire) (xs : List Name) (ws : List Wire) (m : Net) → grown xs ws [] (assigned w (declared x m)) ≡ grown (x ∷ xs) (w ∷ ws) [] m
wire_in_front x w xs ws m =
    same_lists m ((m.names ++ x ∷ []) ++ xs) (m.names ++ x ∷ xs) ((m.wires ++ w ∷ []) ++ ws) (m.wires ++ w ∷ ws) (m.registers ++ []) (m.registers ++ [])
    (append_assoc m.names (x ∷ []) xs) (append_assoc m.wires (w ∷ []) ws) refl
