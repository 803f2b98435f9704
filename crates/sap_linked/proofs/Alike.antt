-- "Stands for" through the names of an
use Rattle.sap_lemmas.proofs.Common.{◌≡◌, ℕ, true, List, Some, refl, sym, ◌∙◌, ap, ◌||◌, or_true}
use Rattle.sap_maps.specs.Prelude.{Name, Valuation, find}
use Rattle.sap_meaning.specs.Prelude.{is_input, is_register, is_memory, Store, Refusal}
use Rattle.sap_net.specs.Prelude.{Net, IsNetlist, readable, shapes, AreSame, value_name, tag_name, refused_name, refused_level_name, seat_name, root_seat}
use Rattle.sap_interface.specs.Prelude.{Named, name, world, StandsFor, declared_by, DeclaresPart, HasSeat, holds_numbers, IsInterfaceName, value_of, tag_of, state_tag_of, child_of, child_of_root, refusal_of, level_of}
use Rattle.sap_interface.proofs.Refused.{refused_within}
use Rattle.sap_build.specs.Copies.{through}
use Rattle.sap_linked.proofs.Reading.{register_read, wire_read}

pub register_holds : (d : Named) (x : ℕ) → is_register (world d) x ≡ true → holds_numbers (world d) x ≡ true
register_holds d x is = rw is (or_true (is_input (world d) x))

pub memory_holds : (d : Named) (x : ℕ) → is_memory (world d) x ≡ true → holds_numbers (world d) x ≡ true
memory_holds d x is = rw is (ap (λ b. is_input (world d) x || b) (or_true (is_register (world d) x)) ∙ or_true (is_input (world d) x))

pub input_holds : (d : Named) (x : ℕ) → is_input (world d) x ≡ true → holds_numbers (world d) x ≡ true
input_holds d x is = rw is refl

module _ (d : Named) (tag sites : ℕ) (n : Net) (rules : IsNetlist n) (declares : DeclaresPart (λ x. x) d tag sites (declared_by n))
    (named behind : Name → Name) (agree : (x : Name) → IsInterfaceName d sites x → named x ≡ behind x)
    (v w : Valuation) (same : AreSame n v (through named w)) where
  at_readable : (x : Name) (u : ℕ) → IsInterfaceName d sites x → find (readable n) x ≡ Some u → w.value (behind x) ≡ v.value x
  at_readable x u is h = ap (λ (y : Name). w.value y) (sym (agree x is)) ∙ sym (same.value x u h)

  at_register : (x : Name) (u : ℕ) → IsInterfaceName d sites x → find (declared_by n).registers x ≡ Some u → w.value (behind x) ≡ v.value x
  at_register x u is h = at_readable x u is (register_read n rules x u h)

  at_wire : (x : Name) (u : ℕ) → IsInterfaceName d sites x → find (declared_by n).wires x ≡ Some u → w.value (behind x) ≡ v.value x
  at_wire x u is h = at_readable x u is (wire_read n rules x u h)

  at_seat : (count : ℕ) (x : Name) → IsInterfaceName d sites x → HasSeat (declared_by n).registers count x → w.value (behind x) ≡ v.value x
  at_seat count x is h = at_register x h.0 is h.2

  at_cell : (m : Name) (t : ℕ × ℕ) → IsInterfaceName d sites m → find (shapes n) m ≡ Some t → (i : ℕ) → w.cell (behind m) i ≡ v.cell m i
  at_cell m t is h i = ap (λ (y : Name). w.cell y i) (sym (agree m is)) ∙ sym (same.cell m t h i)

  pub stands_behind : (s : Store) (refused : List Refusal) → StandsFor d sites v s refused → StandsFor d sites (through behind w) s refused
  stands_behind s refused h =
      record {
        register_values = λ x is. at_register (value_name (name d x)) _ (value_of x (register_holds d x is)) (declares.registers x is).0 ∙ h.register_values x is;
        register_tags = λ x is. at_register (tag_name (name d x)) _ (tag_of x (register_holds d x is)) (declares.registers x is).1 ∙ h.register_tags x is;
        cells = λ m i is low. at_cell (value_name (name d m)) _ (value_of m (memory_holds d m is)) (declares.memories m is) i ∙ h.cells m i is low;
        cell_tags = λ m i is enforced low.
            at_cell (tag_name (name d m)) _ (tag_of m (memory_holds d m is)) (declares.cell_tags m is enforced) i ∙ h.cell_tags m i is enforced low;
        memory_tags = λ m is dynamic.
            at_register (tag_name (name d m)) _ (tag_of m (memory_holds d m is)) (declares.memory_tags m is dynamic) ∙ h.memory_tags m is dynamic;
        state_tags = λ x is low. at_register (tag_name (name d x)) _ (state_tag_of x is low) (declares.state_tags x is low) ∙ h.state_tags x is low;
        seats = λ p low some. at_seat _ (seat_name (name d p)) (child_of p low some) (declares.seats p low some) ∙ h.seats p low some;
        root_seat = at_seat _ root_seat child_of_root declares.root_seat ∙ h.root_seat;
        refused_sites = h.refused_sites;
        refusals = λ k from to.
            let e = at_wire (refused_name k) _ (refusal_of k from to) (declares.site_wires k from to).0 in
            ((λ one. (h.refusals k from to).0 (sym e ∙ one)), λ r. e ∙ (h.refusals k from to).1 r);
        refusal_levels = λ k t is.
            let b = refused_within sites refused h.refused_sites k t is in
            at_wire (refused_level_name k) _ (level_of k b.0 b.1) (declares.site_wires k b.0 b.1).1 ∙ h.refusal_levels k t is;
      }
