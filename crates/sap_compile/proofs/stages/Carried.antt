-- What is declared in another too, and has the same numbers there, stands for the same design.
use Rattle.sap_lemmas.proofs.Common.{◌≡◌, ◌≤◌, ◌↔◌, ℕ, List, Some, sym, ◌∙◌, subst, AllByRecursion}
use Rattle.sap_maps.specs.Prelude.{Name, Valuation, Scope, find}
use Rattle.sap_meaning.specs.Store.{Store, Refusal}
use Rattle.sap_net.specs.declared.parts.PortKind.TheVariants as kind
use Rattle.sap_net.specs.Prelude.{Shapes, refused_name, refused_level_name}
use Rattle.sap_interface.specs.Prelude.{Named, StandsFor, IsRefused, IsInterfaceName, Shown, HasSeat, DeclaresPart, DeclaresInterface}
use Rattle.sap_interface.specs.Interface.{Declared}
use Rattle.sap_interface.proofs.Refused.{refused_within}
use Rattle.sap_tagged.proofs.Members.{In}
use Rattle.sap_compile.proofs.stages.Ports.{refused_port, level_port}

-- the second declares what the first does, but for wires that are no ports
pub record Carries (a b : Declared) : Type 0 where
  pub ports : b.ports ≡ a.ports
  pub inputs : b.inputs ≡ a.inputs
  pub registers : (x : Name) → find b.registers x ≡ find a.registers x
  pub memories : b.memories ≡ a.memories
  pub wires : (x : Name) (u : ℕ) → In a.ports (x, kind.Wire) → find a.wires x ≡ Some u → find b.wires x ≡ Some u

-- the second has the numbers that the first has of what is declared, but for wires that are no ports
pub record SeenAlike (declared : Declared) (v w : Valuation) : Type 0 where
  pub registers : (x : Name) (u : ℕ) → find declared.registers x ≡ Some u → w.value x ≡ v.value x
  pub wires : (x : Name) (u : ℕ) → In declared.ports (x, kind.Wire) → find declared.wires x ≡ Some u → w.value x ≡ v.value x
  pub cells : (x : Name) (s : ℕ × ℕ) → find declared.memories x ≡ Some s → (i : ℕ) → w.cell x i ≡ v.cell x i

module _ (d : Named) (tag sites : ℕ) (a : Declared) (h : DeclaresInterface d tag sites a) where
  refused_shown : (k : ℕ) → 1 ≤ k → k ≤ sites → In a.ports (refused_name k, kind.Wire)
  refused_shown k i j = subst (λ (qs : List Shown). In qs (refused_name k, kind.Wire)) (sym h.ports) (refused_port d sites k i j)

  level_shown : (k : ℕ) → 1 ≤ k → k ≤ sites → In a.ports (refused_level_name k, kind.Wire)
  level_shown k i j = subst (λ (qs : List Shown). In qs (refused_level_name k, kind.Wire)) (sym h.ports) (level_port d sites k i j)

  module _ (b : Declared) (c : Carries a b) where
    register : (x : Name) (u : ℕ) → find a.registers x ≡ Some u → find b.registers x ≡ Some u
    register x u f = c.registers x ∙ f

    seat : (count : ℕ) (x : Name) → HasSeat a.registers count x → HasSeat b.registers count x
    seat count x s = (s.0, s.1, register x s.0 s.2)

    memory : (x : Name) (s : ℕ × ℕ) → find a.memories x ≡ Some s → find b.memories x ≡ Some s
    memory x s f = subst (λ (ms : Shapes). find ms x ≡ Some s) (sym c.memories) f

    input : (x : Name) (u : ℕ) → find a.inputs x ≡ Some u → find b.inputs x ≡ Some u
    input x u f = subst (λ (sc : Scope). find sc x ≡ Some u) (sym c.inputs) f

    part_carried : DeclaresPart (λ (x : Name). x) d tag sites b
    part_carried = record {
      registers = λ x r. (register _ _ (h.part.registers x r).0, register _ _ (h.part.registers x r).1);
      site_wires = λ k i j.
          (c.wires _ _ (refused_shown k i j) (h.part.site_wires k i j).0, c.wires _ _ (level_shown k i j) (h.part.site_wires k i j).1);
      memories = λ m i. memory _ _ (h.part.memories m i);
      cell_tags = λ m i e. memory _ _ (h.part.cell_tags m i e);
      memory_tags = λ m i e. register _ _ (h.part.memory_tags m i e);
      state_tags = λ x i l. register _ _ (h.part.state_tags x i l);
      seats = λ p l n. seat _ _ (h.part.seats p l n);
      root_seat = seat _ _ h.part.root_seat;
    }

    pub interface_carried : AllByRecursion (λ (r : Name × ℕ). IsInterfaceName d sites r.0) b.registers
        → AllByRecursion (λ (m : Name × (ℕ × ℕ)). IsInterfaceName d sites m.0) b.memories
        → DeclaresInterface d tag sites b
    interface_carried registers memories = record {
      ports = c.ports ∙ h.ports;
      inputs = λ x i. (input _ _ (h.inputs x i).0, input _ _ (h.inputs x i).1);
      part = part_carried;
      register_names = registers;
      memory_names = memories;
    }

  pub stands_carried : (v w : Valuation) → SeenAlike a v w → (t : Store) (rs : List Refusal) → StandsFor d sites v t rs → StandsFor d sites w t rs
  stands_carried v w same t rs s = record {
    register_values = λ x r. same.registers _ _ (h.part.registers x r).0 ∙ s.register_values x r;
    register_tags = λ x r. same.registers _ _ (h.part.registers x r).1 ∙ s.register_tags x r;
    cells = λ m i k l. same.cells _ _ (h.part.memories m k) i ∙ s.cells m i k l;
    cell_tags = λ m i k e l. same.cells _ _ (h.part.cell_tags m k e) i ∙ s.cell_tags m i k e l;
    memory_tags = λ m k e. same.registers _ _ (h.part.memory_tags m k e) ∙ s.memory_tags m k e;
    state_tags = λ x k l. same.registers _ _ (h.part.state_tags x k l) ∙ s.state_tags x k l;
    seats = λ p l n. same.registers _ _ (h.part.seats p l n).2 ∙ s.seats p l n;
    root_seat = same.registers _ _ h.part.root_seat.2 ∙ s.root_seat;
    refused_sites = s.refused_sites;
    refusals = λ k i j.
        subst (λ (z : ℕ). (z ≡ 1) ↔ IsRefused rs k) (sym (same.wires _ _ (refused_shown k i j) (h.part.site_wires k i j).0)) (s.refusals k i j);
    refusal_levels = λ k l r.
        let b = refused_within sites rs s.refused_sites k l r in
        same.wires _ _ (level_shown k b.0 b.1) (h.part.site_wires k b.0 b.1).1 ∙ s.refusal_levels k l r;
  }
