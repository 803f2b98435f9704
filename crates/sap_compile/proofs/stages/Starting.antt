-- The netlist of nested states starts as they do.
use Rattle.sap_lemmas.proofs.Common.{◌≡◌, ◌↔◌, ℕ, List, [], ◌∷◌, map, None, inl, inr, refl, sym, ap, ◌∙◌, subst, bytes_eq, unwrap_or, option_map, Option, cases_Bool}
use Rattle.sap_maps.specs.Prelude.{Name, Valuation, find}
use Rattle.sap_meaning.specs.Store.{Store, Refusal}
use Rattle.sap_net.specs.Prelude.{Net, refused_name, initial}
use Rattle.sap_net.specs.declared.parts.Register.{Register}
use Rattle.sap_net.specs.declared.parts.Memory.{Memory}
use Rattle.sap_ir.specs.Prelude.{register_number, cell_at_start, Nested, Source}
use Rattle.sap_ir.specs.declared.guarded.Var.{Var}
use Rattle.sap_ir.specs.declared.guarded.MemoryVariable.{MemoryVariable}
use Rattle.sap_flat.specs.Same as flat
use Rattle.sap_lower.specs.Same as low
use Rattle.sap_trim.specs.Alike.{DeclaresAlike}
use Rattle.sap_interface.specs.StandsFor.{Named, StandsFor, IsRefused}
use Rattle.sap_tags.specs.Starts.{plain_initial}
use Rattle.sap_compile.specs.Stages.Stages.{StartsAsTheSame}
use Rattle.sap_compile.proofs.stages.Found.{Shape, Stored, memory_stored, store_stored}
use Rattle.sap_compile.proofs.stages.Declared.{Kept}

-- a valuation with the same numbers stands for the same
stands_equally : (d : Named) (sites : ℕ) (v w : Valuation) → ((x : Name) → w.value x ≡ v.value x) → ((x : Name) (i : ℕ) → w.cell x i ≡ v.cell x i)
    → (s : Store) (rs : List Refusal) → StandsFor d sites v s rs → StandsFor d sites w s rs
stands_equally d sites v w values cells s rs h = record {
  register_values = λ x r. values _ ∙ h.register_values x r;
  register_tags = λ x r. values _ ∙ h.register_tags x r;
  cells = λ m i k l. cells _ i ∙ h.cells m i k l;
  cell_tags = λ m i k e l. cells _ i ∙ h.cell_tags m i k e l;
  memory_tags = λ m k e. values _ ∙ h.memory_tags m k e;
  state_tags = λ x k l. values _ ∙ h.state_tags x k l;
  seats = λ p l n. values _ ∙ h.seats p l n;
  root_seat = values _ ∙ h.root_seat;
  refused_sites = h.refused_sites;
  refusals = λ k i j. subst (λ (z : ℕ). (z ≡ 1) ↔ IsRefused rs k) (sym (values (refused_name k))) (h.refusals k i j);
  refusal_levels = λ k t r. values _ ∙ h.refusal_levels k t r;
}

-- registers

abbrev start_of : Option Shape → ℕ
start_of o = unwrap_or (option_map (λ (q : Shape). q.1) o) 0

start_found : {Y : Type 0} (name : Y → Name) (width start : Y → ℕ) (ys : List Y) (n : Name)
    → find {X = ℕ} (map (λ y. (name y, start y)) ys) n ≡ option_map (λ (q : Shape). q.1) (find {X = Shape} (map (λ y. (name y, (width y, start y))) ys) n)
start_found name width start [] n = refl
start_found name width start (y ∷ ys) n = elim (cases_Bool (bytes_eq (name y) n)) [ inl t ↦ rw t refl | inr f ↦ rw f (start_found name width start ys n) ]

register_start : (xs : List Var) (n : Name) → start_of (find (map (λ x. (x.name, (x.width, x.start))) xs) n) ≡ register_number None xs n
register_start [] n = refl
register_start (x ∷ xs) n = elim (cases_Bool (bytes_eq x.name n)) [ inl t ↦ rw t refl | inr f ↦ rw f (register_start xs n) ]

-- memories

abbrev cell_start : List Stored → Name → ℕ
cell_start qs n = unwrap_or (find {X = ℕ} (map (λ q. (q.0, q.1.1.1)) qs) n) 0

memory_start : (ms : List Memory) (n : Name) → unwrap_or (find (map (λ m. (m.name, m.start)) ms) n) 0 ≡ cell_start (map memory_stored ms) n
memory_start [] n = refl
memory_start (m ∷ ms) n = elim (cases_Bool (bytes_eq m.name n)) [ inl t ↦ rw t refl | inr f ↦ rw f (memory_start ms n) ]

store_start : (ms : List MemoryVariable) (n : Name) (i : ℕ) → cell_start (map store_stored ms) n ≡ cell_at_start None ms n i
store_start [] n i = refl
store_start (m ∷ ms) n i = elim (cases_Bool (bytes_eq m.name n)) [ inl t ↦ rw t refl | inr f ↦ rw f (store_start ms n i) ]

module _ (p : Nested) (s : Source) (n m : Net) (flattens : flat.Declares p s) (lowers : low.Declares s n) (declares : DeclaresAlike n m) where
  same_number : (x : Name) → (initial m).value x ≡ (plain_initial p).value x
  same_number x =
      ap (λ (o : Option ℕ). unwrap_or o 0) (start_found (λ (r : Register). r.name) (λ (r : Register). r.width) (λ (r : Register). r.start) m.registers x)
      ∙ ap start_of
      (ap (λ (ks : List Kept). find ks x) declares.registers ∙ lowers.registers x
      ∙ ap (λ (rs : List Var). find {X = Shape} (map (λ r. (r.name, (r.width, r.start))) rs) x) flattens.registers)
      ∙ register_start p.registers x

  same_cell : (x : Name) (i : ℕ) → (initial m).cell x i ≡ (plain_initial p).cell x i
  same_cell x i =
      memory_start m.memories x
      ∙ ap (λ (qs : List Stored). cell_start qs x)
      (declares.memories ∙ lowers.memories ∙ ap (λ (ms : List MemoryVariable). map store_stored ms) flattens.memories)
      ∙ store_start p.memories x i

  pub starts_as_the_same : StartsAsTheSame p m
  starts_as_the_same ls d from = stands_equally _ _ (plain_initial p) (initial m) same_number same_cell _ [] from
