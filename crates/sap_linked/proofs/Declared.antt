-- What a whole declares of a part.
use Rattle.sap_lemmas.proofs.Common.{◌≡◌, ℕ, List, [], ◌∷◌, map, Some, ap, subst, inl, inr, bytes_eq, cases_Bool, all_follow, map_of_all}
use Rattle.sap_maps.specs.Prelude.{Name, find}
use Rattle.sap_net.specs.Prelude.{Net, value_name, tag_name, refused_name, refused_level_name, seat_name, root_seat}
use Rattle.sap_net.specs.declared.parts.Wire.{Wire}
use Rattle.sap_net.specs.declared.parts.Register.{Register}
use Rattle.sap_net.specs.declared.parts.Memory.{Memory}
use Rattle.sap_interface.specs.Prelude.{Named, name, declared_by, DeclaresPart, HasSeat, IsInterfaceName, value_of, tag_of, state_tag_of, child_of, child_of_root, refusal_of, level_of}
use Rattle.sap_build.specs.Copies.{copy_wire, copy_register, copy_memory}
use Rattle.sap_build.specs.Parts.{IsPart}
use Rattle.sap_build.proofs.Inside.{of_entries}
use Rattle.sap_linked.specs.Laws.{PartsDeclare}
use Rattle.sap_linked.proofs.Alike.{register_holds, memory_holds}

some_same : {Y : Type 0} {a b : Y} → Some a ≡ Some b → a ≡ b
some_same e = cc

-- what is found of an entry
pub found_of : {X Y : Type 0} (name : Y → Name) (of : Y → X) (ys : List Y) (x : Name) (y : Y) → find (map (λ y. (name y, y)) ys) x ≡ Some y
    → find (map (λ y. (name y, of y)) ys) x ≡ Some (of y)
found_of name of [] x y h = absurd (cc)
found_of {X} {Y} name of (z ∷ ys) x y h =
    elim (cases_Bool (bytes_eq (name z) x)) [
      | inl t ↦ let g : Some z ≡ Some y = rw t at h in rw t (ap (λ (v : Y). Some (of v)) (some_same g))
      | inr q ↦ rw q (found_of name of ys x y (rw q at h))
    ]

module _ (f behind : Name → Name) (d : Named) (tag sites : ℕ) (part whole : Net) (s : IsPart f part whole) (declares : DeclaresPart (λ x. x) d tag sites (declared_by part))
    (agree : (x : Name) → IsInterfaceName d sites x → f x ≡ behind x) where
  wire_there : (x : Name) (u : ℕ) → find (declared_by part).wires x ≡ Some u → find (declared_by whole).wires (f x) ≡ Some u
  wire_there =
      of_entries (λ x u. find (declared_by whole).wires (f x) ≡ Some u) (declared_by part).wires
      (map_of_all {X = Wire} {Y = Name × ℕ} (λ e. find (declared_by whole).wires (f e.0) ≡ Some e.1) (λ w. (w.name, w.width)) part.wires
      (all_follow (λ (w : Wire). find (map (λ (v : Wire). (v.name, v)) whole.wires) (f w.name) ≡ Some (copy_wire f w))
      (λ w. find (declared_by whole).wires (f w.name) ≡ Some w.width) part.wires
      (λ w h. found_of (λ (v : Wire). v.name) (λ v. v.width) whole.wires (f w.name) (copy_wire f w) h) s.wires))

  register_there : (x : Name) (u : ℕ) → find (declared_by part).registers x ≡ Some u → find (declared_by whole).registers (f x) ≡ Some u
  register_there =
      of_entries (λ x u. find (declared_by whole).registers (f x) ≡ Some u) (declared_by part).registers
      (map_of_all {X = Register} {Y = Name × ℕ} (λ e. find (declared_by whole).registers (f e.0) ≡ Some e.1) (λ r. (r.name, r.width)) part.registers
      (all_follow (λ (r : Register). find (map (λ (v : Register). (v.name, v)) whole.registers) (f r.name) ≡ Some (copy_register f r))
      (λ r. find (declared_by whole).registers (f r.name) ≡ Some r.width) part.registers
      (λ r h. found_of (λ (v : Register). v.name) (λ v. v.width) whole.registers (f r.name) (copy_register f r) h) s.registers))

  memory_there : (x : Name) (u : ℕ × ℕ) → find (declared_by part).memories x ≡ Some u → find (declared_by whole).memories (f x) ≡ Some u
  memory_there =
      of_entries (λ x u. find (declared_by whole).memories (f x) ≡ Some u) (declared_by part).memories
      (map_of_all {X = Memory} {Y = Name × (ℕ × ℕ)} (λ e. find (declared_by whole).memories (f e.0) ≡ Some e.1) (λ m. (m.name, (m.width, m.depth))) part.memories
      (all_follow (λ (m : Memory). find (map (λ (v : Memory). (v.name, v)) whole.memories) (f m.name) ≡ Some (copy_memory f m))
      (λ m. find (declared_by whole).memories (f m.name) ≡ Some (m.width, m.depth)) part.memories
      (λ m h. found_of (λ (v : Memory). v.name) (λ v. (v.width, v.depth)) whole.memories (f m.name) (copy_memory f m) h) s.memories))

  wire_is : (x : Name) (u : ℕ) → IsInterfaceName d sites x → find (declared_by part).wires x ≡ Some u → find (declared_by whole).wires (behind x) ≡ Some u
  wire_is x u is h = subst (λ z. find (declared_by whole).wires z ≡ Some u) (agree x is) (wire_there x u h)

  register_is : (x : Name) (u : ℕ) → IsInterfaceName d sites x → find (declared_by part).registers x ≡ Some u → find (declared_by whole).registers (behind x) ≡ Some u
  register_is x u is h = subst (λ z. find (declared_by whole).registers z ≡ Some u) (agree x is) (register_there x u h)

  memory_is : (x : Name) (u : ℕ × ℕ) → IsInterfaceName d sites x → find (declared_by part).memories x ≡ Some u → find (declared_by whole).memories (behind x) ≡ Some u
  memory_is x u is h = subst (λ z. find (declared_by whole).memories z ≡ Some u) (agree x is) (memory_there x u h)

  seat_is : (count : ℕ) (x : Name) → IsInterfaceName d sites x → HasSeat (declared_by part).registers count x → HasSeat (declared_by whole).registers count (behind x)
  seat_is count x is h = (h.0, h.1, register_is x h.0 is h.2)

  whole_declares : DeclaresPart behind d tag sites (declared_by whole)
  whole_declares =
      record {
        registers = λ x is. (
          register_is (value_name (name d x)) _ (value_of x (register_holds d x is)) (declares.registers x is).0,
          register_is (tag_name (name d x)) _ (tag_of x (register_holds d x is)) (declares.registers x is).1,
        );
        site_wires = λ k from to. (
          wire_is (refused_name k) _ (refusal_of k from to) (declares.site_wires k from to).0,
          wire_is (refused_level_name k) _ (level_of k from to) (declares.site_wires k from to).1,
        );
        memories = λ m is. memory_is (value_name (name d m)) _ (value_of m (memory_holds d m is)) (declares.memories m is);
        cell_tags = λ m is enforced. memory_is (tag_name (name d m)) _ (tag_of m (memory_holds d m is)) (declares.cell_tags m is enforced);
        memory_tags = λ m is dynamic. register_is (tag_name (name d m)) _ (tag_of m (memory_holds d m is)) (declares.memory_tags m is dynamic);
        state_tags = λ x is low. register_is (tag_name (name d x)) _ (state_tag_of x is low) (declares.state_tags x is low);
        seats = λ p low some. seat_is _ (seat_name (name d p)) (child_of p low some) (declares.seats p low some);
        root_seat = seat_is _ root_seat child_of_root declares.root_seat;
      }

pub parts_declare : PartsDeclare
parts_declare f behind d tag sites part whole s declares agree = whole_declares f behind d tag sites part whole s declares agree
