-- The steps of the wires, one wire after another.
use Rattle.sap_lemmas.proofs.Common.{◌≡◌, ℕ, ◌+◌, ◌<◌, ◌≤◌, List, [], ◌∷◌, ◌++◌, map, Some, length, get_or, take, drop, sym, ap, ◌∙◌, subst, refl, append_assoc, append-nil, unwrap_or, AllByRecursion, all_follow, map_more, take_more, take_all, drop_more}
use Rattle.sap_net.proofs.RulesLemmas.{readable_kept}
use Rattle.sap_maps.specs.Prelude.{Name, Scope, find}
use Rattle.sap_maps.proofs.Scopes.{found_here}
use Rattle.sap_net.specs.Prelude.{Net, AreWires, readable_after, IsRegister, IsMemory, IsNetlist, first_readable, readable, shapes, width_of}
use Rattle.sap_net.specs.declared.parts.Wire.{Wire}
use Rattle.sap_net.specs.declared.parts.Register.{Register}
use Rattle.sap_net.specs.declared.parts.Memory.{Memory}
use Rattle.sap_cycle.specs.declared.known.Known.{Known}
use Rattle.sap_cycle.specs.declared.steps.Part.{Part}
use Rattle.sap_cycle.specs.declared.steps.Step.{Step}
use Rattle.sap_cycle.specs.Means.{StepsMean, NextsMean, PortsMean}
use Rattle.sap_cycle.specs.Known.{Knows, IsKnownOperand, IsKnownRight, IsKnownPort, slot_found, step_found, parts_found, ports_found}
use Rattle.sap_cycle.specs.Running.{first_names, value_names}
use Rattle.sap_cycle.proofs.Looked.{Covers, covers_push, covers_first, covers_readable, covers_listed}
use Rattle.sap_cycle.proofs.Learned.{known_operand, known_right, slot_means, step_means, steps_keep, steps_push}

-- the first wires are compiled
pub record Compiling (n : Net) (i : ℕ) (k : Known) (steps : List Step) (parts : List Part) : Type 0 where
  pub scope : Scope
  pub rest : AreWires (shapes n) scope (drop i n.wires)
  pub whole : readable_after scope (drop i n.wires) ≡ readable n
  pub covers : Covers scope (first_names n ++ map (λ w. w.name) (take i n.wires))
  pub knows : Knows (width_of n) n.memories (first_names n ++ map (λ w. w.name) (take i n.wires)) k
  pub mean : StepsMean (width_of n) n.memories parts (first_names n) steps (take i n.wires)

pub compiling_none : (n : Net) → IsNetlist n → (k : Known) → Knows (width_of n) n.memories (first_names n) k → Compiling n 0 k [] []
compiling_none n rules k knows =
    record {
      scope = first_readable n;
      rest = rules.assigns;
      whole = refl;
      covers = subst (Covers (first_readable n)) (sym (append-nil (first_names n))) (covers_first n);
      knows = subst (λ (l : List Name). Knows (width_of n) n.memories l k) (sym (append-nil (first_names n))) knows;
      mean = tt;
    }

wires_from : (n : Net) (i : ℕ) (k : Known) (steps : List Step) (parts : List Part) (c : Compiling n i k steps parts) (w : Wire)
    → i < length n.wires → w ≡ get_or n.wires i w → drop i n.wires ≡ w ∷ drop (i + 1) n.wires
wires_from n i k steps parts c w lt is = drop_more n.wires i w lt ∙ ap (λ (x : Wire). x ∷ drop (i + 1) n.wires) (sym is)

pub compiling_known : (n : Net) (i : ℕ) (k : Known) (steps : List Step) (parts : List Part) (c : Compiling n i k steps parts) (w : Wire)
    → i < length n.wires → w ≡ get_or n.wires i w → IsKnownRight k w.right
compiling_known n i k steps parts c w lt is =
    let rest : AreWires (shapes n) c.scope (w ∷ drop (i + 1) n.wires) = subst (AreWires (shapes n) c.scope) (wires_from n i k steps parts c w lt is) c.rest in
    known_right (width_of n) n.memories _ k c.knows (shapes n)
    (covers_listed {X = ℕ × ℕ} (λ m. m.name) (λ m. (m.width, m.depth)) n.memories) c.scope c.covers w.width w.right rest.3

pub compiling_more : (n : Net) (i : ℕ) (k : Known) (steps : List Step) (parts : List Part) (c : Compiling n i k steps parts) (w : Wire)
    → i < length n.wires → w ≡ get_or n.wires i w → (new : Known)
    → ((g : Name → ℕ) (ms : List Memory) (names : List Name) → Knows g ms names k → g w.name ≡ w.width → Knows g ms (names ++ w.name ∷ []) new)
    → Compiling n (i + 1) new (steps ++ step_found k (length parts) w.right ∷ []) (parts ++ parts_found k w.right)
compiling_more n i k steps parts c w lt is new adds =
    let e = wires_from n i k steps parts c w lt is in
    let names = first_names n ++ map (λ w. w.name) (take i n.wires) in
    let rest : AreWires (shapes n) c.scope (w ∷ drop (i + 1) n.wires) = subst (AreWires (shapes n) c.scope) e c.rest in
    let whole : readable_after ((w.name, w.width) ∷ c.scope) (drop (i + 1) n.wires) ≡ readable n = sym (ap (readable_after c.scope) e) ∙ c.whole in
    let f : find (readable n) w.name ≡ Some w.width =
    subst (λ (sc : Scope). find sc w.name ≡ Some w.width) whole
    (readable_kept (shapes n) (drop (i + 1) n.wires) ((w.name, w.width) ∷ c.scope) rest.4 w.name w.width (found_here w.name w.width c.scope)) in
    let width : width_of n w.name ≡ w.width = ap (λ o. unwrap_or o 0) f in
    let taken : take (i + 1) n.wires ≡ take i n.wires ++ w ∷ [] = take_more n.wires i w lt ∙ ap (λ (x : Wire). take i n.wires ++ x ∷ []) (sym is) in
    let more : first_names n ++ map (λ w. w.name) (take (i + 1) n.wires) ≡ names ++ w.name ∷ [] =
    ap (λ l. first_names n ++ l) (map_more (λ w. w.name) n.wires i w lt ∙ ap (λ (x : Wire). map (λ w. w.name) (take i n.wires) ++ x.name ∷ []) (sym is))
    ∙ sym (append_assoc (first_names n) (map (λ w. w.name) (take i n.wires)) (w.name ∷ [])) in
    let known = compiling_known n i k steps parts c w lt is in
    let mean =
    steps_push (width_of n) n.memories (parts ++ parts_found k w.right) (step_found k (length parts) w.right) w steps (take i n.wires) (first_names n)
    (steps_keep (width_of n) n.memories parts (parts_found k w.right) steps (take i n.wires) (first_names n) c.mean)
    (step_means (width_of n) n.memories names k c.knows parts w.right known) in
    record {
      scope = (w.name, w.width) ∷ c.scope;
      rest = rest.4;
      whole = whole;
      covers = subst (Covers ((w.name, w.width) ∷ c.scope)) (sym more) (covers_push w.name w.width c.scope names c.covers);
      knows = subst (λ (l : List Name). Knows (width_of n) n.memories l new) (sym more) (adds (width_of n) n.memories names c.knows width);
      mean = subst (StepsMean (width_of n) n.memories (parts ++ parts_found k w.right) (first_names n) (steps ++ step_found k (length parts) w.right ∷ [])) (sym taken) mean;
    }

pub compiled_mean : (n : Net) (i : ℕ) (k : Known) (steps : List Step) (parts : List Part) (c : Compiling n i k steps parts)
    → length n.wires ≤ i → StepsMean (width_of n) n.memories parts (first_names n) steps n.wires
compiled_mean n i k steps parts c le = subst (StepsMean (width_of n) n.memories parts (first_names n) steps) (take_all i n.wires le) c.mean

pub compiled_knows : (n : Net) (i : ℕ) (k : Known) (steps : List Step) (parts : List Part) (c : Compiling n i k steps parts)
    → length n.wires ≤ i → Knows (width_of n) n.memories (value_names n) k
compiled_knows n i k steps parts c le = subst (λ l. Knows (width_of n) n.memories (first_names n ++ map (λ w. w.name) l) k) (take_all i n.wires le) c.knows

-- registers and ports
pub nexts_known : (n : Net) → IsNetlist n → (k : Known) → Knows (width_of n) n.memories (value_names n) k → AllByRecursion (λ r. IsKnownOperand k r.next) n.registers
nexts_known n rules k knows = all_follow (IsRegister (readable n)) (λ r. IsKnownOperand k r.next) n.registers
    (λ r is. known_operand (width_of n) n.memories (value_names n) k knows (readable n) (covers_readable n) r.width r.next is.1) rules.nexts

pub ports_known : (n : Net) → IsNetlist n → (k : Known) → Knows (width_of n) n.memories (value_names n) k → AllByRecursion (IsKnownPort k) n.memories
ports_known n rules k knows =
    let operand = known_operand (width_of n) n.memories (value_names n) k knows (readable n) (covers_readable n) in
    all_follow (IsMemory (readable n)) (IsKnownPort k) n.memories
    (λ m is. (operand 1 m.enable is.enable, operand is.bits m.index is.index, operand m.width m.value is.value)) rules.writes

pub nexts_mean : (f : Name → ℕ) (ms : List Memory) (names : List Name) (k : Known) → Knows f ms names k → (rs : List Register)
    → AllByRecursion (λ r. IsKnownOperand k r.next) rs → NextsMean names (map (λ r. slot_found k r.next) rs) rs
nexts_mean f ms names k knows [] h = tt
nexts_mean f ms names k knows (r ∷ rs) h = (slot_means f ms names k knows r.next h.0, nexts_mean f ms names k knows rs h.1)

pub ports_mean : (f : Name → ℕ) (ms : List Memory) (names : List Name) (k : Known) → Knows f ms names k → (ks : List Memory) (b : ℕ)
    → AllByRecursion (IsKnownPort k) ks → PortsMean names b (ports_found k b ks) ks
ports_mean f ms names k knows [] b h = tt
ports_mean f ms names k knows (m ∷ ks) b h = (
  (
    refl,
    slot_means f ms names k knows m.enable h.0.0,
    slot_means f ms names k knows m.index h.0.1,
    slot_means f ms names k knows m.value h.0.2,
  ),
  ports_mean f ms names k knows ks (b + m.depth) h.1,
)
