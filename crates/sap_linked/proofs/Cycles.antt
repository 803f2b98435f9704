-- The cycles of a netlist that stands for a design, one after another.
use Rattle.sap_lemmas.proofs.Common.{◌≡◌, ℕ, true, List, [], ◌∷◌, map, Option, Some, None, sym, ap, ◌∙◌, inl, inr, unwrap_or, bytes_eq, AllByRecursion, cases_Bool, equal_of_bytes_eq}
use Rattle.sap_maps.specs.Prelude.{Name, Valuation, find}
use Rattle.sap_meaning.specs.Prelude.{is_register, Store, own, number, level, Refusal, Tagged, cycle, run_from, InputsFit, StreamFits, first}
use Rattle.sap_net.specs.Prelude.{Net, operand_value, IsNetlist, Begins, IsCycle, IsRunAfter, observed, value_name, tag_name}
use Rattle.sap_net.specs.declared.parts.Register.{Register}
use Rattle.sap_net.proofs.Observed.{observed_registers}
use Rattle.sap_interface.specs.Prelude.{Named, name, world, StandsFor, declared_by, DeclaresPart, coded, coded_stream, CyclesStand, NetStartsAs}
use Rattle.sap_linked.proofs.Reading.{at_name}

-- from the cycle `before` on, each cycle stands for one from the state s on
abbrev pub StandsAfter : Named → (sites : ℕ) → Net → Option Valuation → Store → Type 0
StandsAfter d sites n before s =
    (stream : List (List Tagged)) → StreamFits (world d) stream → (vs : List Valuation) → IsRunAfter n before (coded_stream d.code stream) vs
    → CyclesStand d sites (map (observed n) vs) (run_from d.program s stream)

module _ (d : Named) (sites : ℕ) (n : Net) (before : Option Valuation) (s : Store) (after : StandsAfter d sites n before s)
    (inputs : List Tagged) (fit : InputsFit (world d) inputs) (v : Valuation) (c : IsCycle n before (coded d.code inputs) v) where
  pub this_cycle : StandsFor d sites (observed n v) (cycle d.program inputs s).store (cycle d.program inputs s).refused
  this_cycle = (after (inputs ∷ []) (fit, tt) (v ∷ []) (c, tt)).0

  pub later_cycles : StandsAfter d sites n (Some v) (cycle d.program inputs s).store
  later_cycles stream fits vs r = (after (inputs ∷ stream) (fit, fits) (v ∷ vs) (c, r)).1

-- the registers have the numbers of a state
pub record RegistersStand (d : Named) (v : Valuation) (s : Store) : Type 0 where
  pub values : (x : ℕ) → is_register (world d) x ≡ true → v.value (value_name (name d x)) ≡ number (own x) s
  pub tags : (x : ℕ) → is_register (world d) x ≡ true → v.value (tag_name (name d x)) ≡ d.code (level (world d) (own x) s)

abbrev pub BeginsAs : Named → Net → Option Valuation → Store → Type 0
BeginsAs d n before s = (v : Valuation) → Begins n before v → RegistersStand d v s

first_at : (v : Valuation) (rs : List Register) → AllByRecursion (λ r. v.value r.name ≡ r.start) rs → (x : Name) (u : ℕ)
    → find (map (λ (r : Register). (r.name, r.width)) rs) x ≡ Some u
    → v.value x ≡ unwrap_or (find (map (λ (r : Register). (r.name, r.start)) rs) x) 0
first_at v [] a x u h = absurd (cc)
first_at v (r ∷ rs) a x u h =
    elim (cases_Bool (bytes_eq r.name x)) [
      | inl t ↦ rw t (ap (λ (y : Name). v.value y) (sym (equal_of_bytes_eq r.name x t)) ∙ a.0)
      | inr q ↦ rw q (first_at v rs a.1 x u (rw q at h))
    ]

both : (f g h : Register → ℕ) (rs : List Register) → AllByRecursion (λ r. f r ≡ g r) rs → AllByRecursion (λ r. h r ≡ g r) rs → AllByRecursion (λ r. f r ≡ h r) rs
both f g h [] a b = tt
both f g h (r ∷ rs) a b = (a.0 ∙ sym b.0, both f g h rs a.1 b.1)

module _ (d : Named) (tag sites : ℕ) (n : Net) (declares : DeclaresPart (λ x. x) d tag sites (declared_by n)) where
  pub begins_first : NetStartsAs d sites n → BeginsAs d n None (first (world d))
  begins_first starts v b =
      record {
        values = λ x is. first_at v n.registers b.0 (value_name (name d x)) _ (declares.registers x is).0 ∙ starts.register_values x is;
        tags = λ x is. first_at v n.registers b.0 (tag_name (name d x)) _ (declares.registers x is).1 ∙ starts.register_tags x is;
      }

  pub begins_later : IsNetlist n → (p : Valuation) (s : Store) (refused : List Refusal) → StandsFor d sites (observed n p) s refused → BeginsAs d n (Some p) s
  begins_later rules p s refused h v b =
      let kept = both (λ (r : Register). v.value r.name) (λ r. operand_value p r.next) (λ r. (observed n p).value r.name) n.registers b.0 (observed_registers n rules p) in
      let same = at_name (λ (r : Register). r.name) (λ r. r.width) (λ x. v.value x ≡ (observed n p).value x) n.registers kept in
      record {
        values = λ x is. same (value_name (name d x)) _ (declares.registers x is).0 ∙ h.register_values x is;
        tags = λ x is. same (tag_name (name d x)) _ (declares.registers x is).1 ∙ h.register_tags x is;
      }
