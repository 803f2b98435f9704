-- The texts of lines, from left to right.
use Rattle.sap_lemmas.proofs.Common.{◌≡◌, ◌-◌, ℕ, List, [], ◌∷◌, ◌++◌, refl, sym, ap, ◌∙◌, append_assoc, codes, decimal, map, flat_map, flat_map-append, append-nil}
use Rattle.sap_net.specs.declared.parts.Operand.{Operand}
use Rattle.sap_net.specs.declared.parts.Register.{Register}
use Rattle.sap_net.specs.declared.parts.Memory.{Memory}
use Rattle.sap_net.specs.declared.parts.PortKind.{PortKind}
use Rattle.sap_maps.specs.Maps.{Name}
use Rattle.sap_net.specs.declared.parts.PortKind.TheVariants as kind
use Rattle.sap_vprint.specs.Text.{range_pieces, head_pieces, port_text, part_pieces, parts_pieces, piece_text, text_of, operand_text, item_text, clocked_text, loop_text}
use Rattle.sap_vprint.specs.Printed.{direction_text, port_of, operand_of, initial_cells_of, always_of, always_cell_of}

pub loop_grows : (n : ℕ) (o a b : List ℕ) → a ≡ o ++ codes "for (i = 0; i < " → b ≡ a ++ decimal n → b ++ codes "; i = i + 1) " ≡ o ++ loop_text n
unfolding loop_text
loop_grows n o a b e f = rw (f, e) (simp append_assoc)

pub step_grows : (r : Register) (o a b c d : List ℕ) → a ≡ o ++ clocked_text → b ≡ a ++ r.name → c ≡ b ++ codes " <= " → d ≡ c ++ operand_text (operand_of r.next)
    → d ++ codes ";\n" ≡ o ++ item_text (always_of r)
unfolding item_text clocked_text
step_grows r o a b c d e f g h = rw (h, g, f, e) (simp append_assoc)

pub cells_grow : (m : Memory) (o a b c d s : List ℕ) → a ≡ o ++ codes "initial " → b ≡ a ++ loop_text m.depth → c ≡ b ++ m.name → d ≡ c ++ codes "[i] = "
    → s ≡ d ++ (decimal m.width ++ (39 ∷ 100 ∷ decimal m.start)) → s ++ codes ";\n" ≡ o ++ item_text (initial_cells_of m)
unfolding item_text loop_text
cells_grow m o a b c d s e f g h k = rw (k, h, g, f, e) (simp append_assoc)

pub write_grows : (m : Memory) (o a b c d s v w : List ℕ) → a ≡ o ++ clocked_text → b ≡ a ++ codes "if (" → c ≡ b ++ operand_text (operand_of m.enable) → d ≡ c ++ codes ") "
    → s ≡ d ++ (m.name ++ (91 ∷ (operand_text (operand_of m.index) ++ (93 ∷ [])))) → v ≡ s ++ codes " <= " → w ≡ v ++ operand_text (operand_of m.value)
    → w ++ codes ";\n" ≡ o ++ item_text (always_cell_of m)
unfolding item_text clocked_text
write_grows m o a b c d s v w e f g h k l i = rw (i, l, k, h, g, f, e) (simp append_assoc)

-- the parts behind the first of a `{}`
pub more_parts_text : (os : List Operand) → text_of (flat_map part_pieces (map operand_of os)) ≡ flat_map (λ x. text_of (part_pieces (operand_of x))) os
more_parts_text [] = refl
more_parts_text (o ∷ os) =
    flat_map-append piece_text (part_pieces (operand_of o)) (flat_map part_pieces (map operand_of os)) ∙ ap (λ z. text_of (part_pieces (operand_of o)) ++ z) (more_parts_text os)

pub parts_grow : (os rest : List Operand) (o : Operand) (a b c : List ℕ) → os ≡ o ∷ rest → b ≡ a ++ operand_text (operand_of o)
    → c ≡ b ++ flat_map (λ x. text_of (part_pieces (operand_of x))) rest → c ≡ a ++ text_of (parts_pieces (map operand_of os))
parts_grow os rest o a b c e f g =
    g ∙ ap (λ z. z ++ flat_map (λ x. text_of (part_pieces (operand_of x))) rest) f
    ∙ append_assoc a (operand_text (operand_of o)) (flat_map (λ x. text_of (part_pieces (operand_of x))) rest)
    ∙ ap (λ z. a ++ (operand_text (operand_of o) ++ z)) (sym (more_parts_text rest))
    ∙ ap (λ z. a ++ text_of (parts_pieces (map operand_of z))) (sym e)

pub begin_grows : (n o a b : List ℕ) → a ≡ o ++ codes "// written by sapper\nmodule " → b ≡ a ++ n → b ++ codes "(\n  input clk" ≡ o ++ text_of (head_pieces n)
begin_grows n o a b e f = rw (f, e) (simp append_assoc)

pub port_text_is : (k : PortKind) (x : Name) (w : ℕ) → port_text (port_of k x w) ≡ codes ",\n  " ++ (direction_text k ++ (text_of (range_pieces (w - 1)) ++ x))
unfolding port_text
port_text_is kind.Input x w = simp (append_assoc, append-nil)
port_text_is _ x w = simp (append_assoc, append-nil)

pub port_grows : (k : PortKind) (x : Name) (w : ℕ) (o a b c : List ℕ) → a ≡ o ++ codes ",\n  " → b ≡ a ++ direction_text k → c ≡ b ++ text_of (range_pieces (w - 1))
    → c ++ x ≡ o ++ port_text (port_of k x w)
port_grows k x w o a b c e f g =
    ap (λ z. z ++ x) (g ∙ ap (λ z. z ++ text_of (range_pieces (w - 1))) (f ∙ ap (λ z. z ++ direction_text k) e))
    ∙ append_assoc ((o ++ codes ",\n  ") ++ direction_text k) (text_of (range_pieces (w - 1))) x
    ∙ append_assoc (o ++ codes ",\n  ") (direction_text k) (text_of (range_pieces (w - 1)) ++ x)
    ∙ append_assoc o (codes ",\n  ") (direction_text k ++ (text_of (range_pieces (w - 1)) ++ x))
    ∙ ap (λ z. o ++ z) (sym (port_text_is k x w))

-- digits
