-- What is known finds the operands' places and widths.
use Rattle.sap_lemmas.proofs.Common.{◌≡◌, ℕ, zero, suc, ◌+◌, ◌<◌, List, [], ◌∷◌, ◌++◌, map, Some, length, get_or, take, sym, ap, ap₂, ◌∙◌, subst, refl, arith, append_assoc, append-nil, inl, inr, slice_get, slice_index, unwrap_or, Contains, AllByRecursion, length-map, map_more, slice_get_within}
use Rattle.sap_maps.specs.Prelude.{Name, Scope}
use Rattle.sap_net.specs.Prelude.{operand_width, Shapes, IsOperand, AreOperands, IsRight, at_name}
use Rattle.sap_net.specs.declared.parts.Operand.{Operand}
use Rattle.sap_net.specs.declared.parts.Operand.TheVariants.{Named, Constant}
use Rattle.sap_net.specs.declared.parts.Right.{Right}
use Rattle.sap_net.specs.declared.parts.Wire.{Wire}
use Rattle.sap_net.specs.declared.parts.Memory.{Memory}
use Rattle.sap_net.specs.declared.parts.Right.TheVariants as right
use Rattle.sap_cycle.specs.declared.known.Known.{Known}
use Rattle.sap_cycle.specs.declared.steps.Part.{Part}
use Rattle.sap_cycle.specs.declared.steps.Step.{Step}
use Rattle.sap_cycle.specs.declared.steps.Step.TheVariants.{Copy, One, Two, Choose, Concat, Pair, Slice, Cell}
use Rattle.sap_cycle.specs.Means.{SlotMeans, PartsMean, RangeMeans, BeginsAt, cell_count, StepMeans, StepsMean}
use Rattle.sap_cycle.specs.Loaded.{bases_of}
use Rattle.sap_cycle.specs.Known.{Knows, IsKnown, IsKnownMemory, IsKnownOperand, IsKnownRight, slot_found, width_found, part_found, base_found, concat_found, concat_parts, step_found, parts_found}
use Rattle.sap_cycle.proofs.Looked.{Covers, cases_option, none_there, number_there}
use Rattle.sap_cycle.proofs.Kept.{is_at, at_within}

pub all_get_or : {A : Type 0} (P : A → Type 0) (xs : List A) (i : ℕ) (d : A) → AllByRecursion P xs → i < length xs → P (get_or xs i d)
all_get_or {A} P [] i d h lt = absurd (omega arith)
all_get_or {A} P (x ∷ xs) zero d h lt = h.0
all_get_or {A} P (x ∷ xs) (suc i) d h lt = all_get_or P xs i d h.1 (omega arith)

-- one more image behind those of a list's first items
pub pushed : {A B : Type 0} (f : A → B) (before old new : List B) (xs : List A) (i : ℕ) (x : A) (y : B) → i < length xs → x ≡ get_or xs i x
    → old ≡ before ++ map f (take i xs) → new ≡ old ++ y ∷ [] → y ≡ f x → new ≡ before ++ map f (take (i + 1) xs)
pushed {A} {B} f before old new xs i x y lt is so push image =
    push
    ∙ ap₂ (λ (l : List B) (z : B). l ++ z ∷ []) so (image ∙ ap f is)
    ∙ append_assoc before (map f (take i xs)) (f (get_or xs i x) ∷ [])
    ∙ ap (λ l. before ++ l) (sym (map_more f xs i x lt))

-- one more name is known
pub learned : {A : Type 0} (key : A → Name) (width : A → ℕ) (f : Name → ℕ) (ms : List Memory) (names : List Name) (xs : List A) (i : ℕ)
    (x : A) (old new : Known) → i < length xs → x ≡ get_or xs i x
    → Knows f ms (names ++ map key (take i xs)) old → AllByRecursion (λ y. f (key y) ≡ width y) xs
    → ((g : Name → ℕ) (ks : List Memory) (ns : List Name) → Knows g ks ns old → g (key x) ≡ width x → Knows g ks (ns ++ key x ∷ []) new)
    → Knows f ms (names ++ map key (take (i + 1) xs)) new
learned {A} key width f ms names xs i x old new lt is knows all adds =
    let w : f (key x) ≡ width x = subst (λ (y : A). f (key y) ≡ width y) (sym is) (all_get_or (λ y. f (key y) ≡ width y) xs i x all lt) in
    let e : map key (take (i + 1) xs) ≡ map key (take i xs) ++ key x ∷ [] = map_more key xs i x lt ∙ ap (λ (y : A). map key (take i xs) ++ key y ∷ []) (sym is) in
    let g : names ++ map key (take (i + 1) xs) ≡ (names ++ map key (take i xs)) ++ key x ∷ [] =
    ap (λ l. names ++ l) e ∙ sym (append_assoc names (map key (take i xs)) (key x ∷ [])) in
    subst (λ (l : List Name). Knows f ms l new) (sym g) (adds f ms (names ++ map key (take i xs)) knows w)

pub bases_long : (b : ℕ) (ms : List Memory) → length (bases_of b ms) ≡ length ms
bases_long b [] = refl
bases_long b (m ∷ ms) = ap suc (bases_long (b + m.depth) ms)

pub bases_at : (before : List Memory) (m : Memory) (behind : List Memory) (b d : ℕ) → get_or (bases_of b (before ++ m ∷ behind)) (length before) d ≡ b + cell_count before
bases_at [] m behind b d = omega arith
bases_at (k ∷ before) m behind b d = omega (arith, bases_at before m behind (b + k.depth) d)

known_name : (f : Name → ℕ) (ms : List Memory) (names : List Name) (k : Known) → Knows f ms names k → (x : Name) → Contains names x → IsKnown k x
known_name f ms names k knows x c =
    elim (cases_option (at_name k.places x)) [
      | inl e ↦ absurd (none_there (at_name k.places x) e (knows.places.all x c))
      | inr p ↦
          let lt : p.0 < length names = slice_get_within names p.0 x (knows.places.found x p.0 p.1) in
          record { place = p.0; found = p.1; within = omega (arith, lt, ap length knows.widths_are, length-map names f) }
    ]

known_memory : (f : Name → ℕ) (ms : List Memory) (names : List Name) (k : Known) → Knows f ms names k → (x : Name) → Contains (map (λ m. m.name) ms) x → IsKnownMemory k x
known_memory f ms names k knows x c =
    elim (cases_option (at_name k.memories x)) [
      | inl e ↦ absurd (none_there (at_name k.memories x) e (knows.memories.all x c))
      | inr p ↦
          let lt : p.0 < length ms = at_within ms p.0 x (knows.memories.found x p.0 p.1) in
          record { number = p.0; found = p.1; within = omega (arith, lt, ap length knows.bases, bases_long 0 ms) }
    ]

pub known_operand : (f : Name → ℕ) (ms : List Memory) (names : List Name) (k : Known) → Knows f ms names k → (sc : Scope) → Covers sc names
    → (u : ℕ) (o : Operand) → IsOperand sc u o → IsKnownOperand k o
known_operand f ms names k knows sc cov u (Named x) h = known_name f ms names k knows x (cov x u h)
known_operand f ms names k knows sc cov u (Constant w n) h = tt

known_operands : (f : Name → ℕ) (ms : List Memory) (names : List Name) (k : Known) → Knows f ms names k → (sc : Scope) → Covers sc names
    → (os : List Operand) (u : ℕ) → AreOperands sc u os → AllByRecursion (IsKnownOperand k) os
known_operands f ms names k knows sc cov [] u h = tt
known_operands f ms names k knows sc cov (o ∷ os) u h = (known_operand f ms names k knows sc cov h.0 o h.3, known_operands f ms names k knows sc cov os h.1 h.4)

pub known_right : (f : Name → ℕ) (ms : List Memory) (names : List Name) (k : Known) → Knows f ms names k → (shapes : Shapes)
    → Covers shapes (map (λ m. m.name) ms) → (sc : Scope) → Covers sc names
    → (u : ℕ) (r : Right) → IsRight shapes sc u r → IsKnownRight k r
known_right f ms names k knows shapes cs sc cov u (right.Copy a) h = known_operand f ms names k knows sc cov u a h
known_right f ms names k knows shapes cs sc cov u (right.One op a) h = known_operand f ms names k knows sc cov h.0 a h.2
known_right f ms names k knows shapes cs sc cov u (right.Two op a b) h =
    (known_operand f ms names k knows sc cov h.0 a h.4, known_operand f ms names k knows sc cov h.1 b h.5)
known_right f ms names k knows shapes cs sc cov u (right.Choose c a b) h =
    (known_operand f ms names k knows sc cov 1 c h.0, known_operand f ms names k knows sc cov u a h.1, known_operand f ms names k knows sc cov u b h.2)
known_right f ms names k knows shapes cs sc cov u (right.Concat os) h = known_operands f ms names k knows sc cov os u h.1
known_right f ms names k knows shapes cs sc cov u (right.Slice x hi lo) h = known_name f ms names k knows x (cov x h.0 h.2)
known_right f ms names k knows shapes cs sc cov u (right.Cell m i) h =
    (known_memory f ms names k knows m (cs m _ h.1), known_operand f ms names k knows sc cov h.0 i h.2)

pub slot_means : (f : Name → ℕ) (ms : List Memory) (names : List Name) (k : Known) → Knows f ms names k → (o : Operand) → IsKnownOperand k o → SlotMeans names (slot_found k o) o
slot_means f ms names k knows (Named x) h =
    subst (λ q. slice_get names (unwrap_or q 0) ≡ Some x) (sym h.found) (knows.places.found x h.place h.found)
slot_means f ms names k knows (Constant w n) h = refl

width_means : (f : Name → ℕ) (ms : List Memory) (names : List Name) (k : Known) → Knows f ms names k → (o : Operand) → IsKnownOperand k o → width_found k o ≡ operand_width f o
width_means f ms names k knows (Named x) h =
    number_there f names k.widths.items (unwrap_or (at_name k.places x) 0) x 0 knows.widths_are (slot_means f ms names k knows (Named x) h)
width_means f ms names k knows (Constant w n) h = refl

parts_mean : (f : Name → ℕ) (ms : List Memory) (names : List Name) (k : Known) → Knows f ms names k → (os : List Operand)
    → AllByRecursion (IsKnownOperand k) os → PartsMean f names (map (part_found k) os) os
parts_mean f ms names k knows [] h = tt
parts_mean f ms names k knows (o ∷ os) h = (slot_means f ms names k knows o h.0, width_means f ms names k knows o h.0, parts_mean f ms names k knows os h.1)

base_means : (f : Name → ℕ) (ms : List Memory) (names : List Name) (k : Known) → Knows f ms names k → (x : Name) → IsKnownMemory k x → BeginsAt ms x (base_found k x)
base_means f ms names k knows x h =
    let a = is_at ms h.number x (knows.memories.found x h.number h.found) in
    record {
      before = a.before;
      memory = a.memory;
      behind = a.behind;
      whole = a.whole;
      named = a.named;
      base_is =
          ap (λ q. slice_index k.bases.items (unwrap_or q 0)) h.found
          ∙ ap (λ l. slice_index l h.number) knows.bases
          ∙ ap (λ l. slice_index (bases_of 0 l) h.number) a.whole
          ∙ ap (λ j. slice_index (bases_of 0 (a.before ++ a.memory ∷ a.behind)) j) a.k_is
          ∙ bases_at a.before a.memory a.behind 0 0
          ∙ (let e : 0 + cell_count a.before ≡ cell_count a.before = omega arith in e);
    }

-- parts behind others
range_means : (f : Name → ℕ) (ms : List Memory) (names : List Name) (k : Known) → Knows f ms names k
    → (parts : List Part) (os : List Operand) → AllByRecursion (IsKnownOperand k) os
    → RangeMeans f names (parts ++ map (part_found k) os) (length parts) (length parts + length os) os
range_means f ms names k knows parts os h =
    record {
      before = parts;
      range = map (part_found k) os;
      behind = [];
      whole = ap (λ l. parts ++ l) (sym (append-nil (map (part_found k) os)));
      from_is = refl;
      to_is = ap (λ n. length parts + n) (sym (length-map os (part_found k)));
      mean = parts_mean f ms names k knows os h;
    }

concat_means : (f : Name → ℕ) (ms : List Memory) (names : List Name) (k : Known) → Knows f ms names k
    → (parts : List Part) (os : List Operand) → AllByRecursion (IsKnownOperand k) os
    → StepMeans f ms (parts ++ concat_parts k os) names (concat_found k (length parts) os) (right.Concat os)
concat_means f ms names k knows parts [] h = range_means f ms names k knows parts [] h
concat_means f ms names k knows parts (a ∷ []) h = range_means f ms names k knows parts (a ∷ []) h
concat_means f ms names k knows parts (a ∷ (b ∷ [])) h =
    (slot_means f ms names k knows a h.0, slot_means f ms names k knows b h.1.0, width_means f ms names k knows b h.1.0)
concat_means f ms names k knows parts (a ∷ (b ∷ (c ∷ os))) h = range_means f ms names k knows parts (a ∷ (b ∷ (c ∷ os))) h

pub step_means : (f : Name → ℕ) (ms : List Memory) (names : List Name) (k : Known) → Knows f ms names k → (parts : List Part) (r : Right) → IsKnownRight k r
    → StepMeans f ms (parts ++ parts_found k r) names (step_found k (length parts) r) r
step_means f ms names k knows parts (right.Copy a) h = slot_means f ms names k knows a h
step_means f ms names k knows parts (right.One op a) h = (refl, width_means f ms names k knows a h, slot_means f ms names k knows a h)
step_means f ms names k knows parts (right.Two op a b) h =
    (refl, width_means f ms names k knows a h.0, slot_means f ms names k knows a h.0, slot_means f ms names k knows b h.1)
step_means f ms names k knows parts (right.Choose c a b) h =
    (slot_means f ms names k knows c h.0, slot_means f ms names k knows a h.1, slot_means f ms names k knows b h.2)
step_means f ms names k knows parts (right.Concat os) h = concat_means f ms names k knows parts os h
step_means f ms names k knows parts (right.Slice x hi lo) h = (slot_means f ms names k knows (Named x) h, refl, refl)
step_means f ms names k knows parts (right.Cell m i) h = (base_means f ms names k knows m h.0, slot_means f ms names k knows i h.1)

-- more parts behind those that are there change no step
step_keeps : (f : Name → ℕ) (ms : List Memory) (names : List Name) (parts more : List Part) (s : Step) (r : Right)
    → StepMeans f ms parts names s r → StepMeans f ms (parts ++ more) names s r
step_keeps f ms names parts more (Copy s) (right.Copy a) h = h
step_keeps f ms names parts more (One op w s) (right.One o a) h = h
step_keeps f ms names parts more (Two op w s t) (right.Two o a b) h = h
step_keeps f ms names parts more (Choose q s t) (right.Choose c a b) h = h
step_keeps f ms names parts more (Concat from to) (right.Concat os) h =
    record {
      before = h.before;
      range = h.range;
      behind = h.behind ++ more;
      whole =
          ap (λ l. l ++ more) h.whole
          ∙ append_assoc h.before (h.range ++ h.behind) more
          ∙ ap (λ l. h.before ++ l) (append_assoc h.range h.behind more);
      from_is = h.from_is;
      to_is = h.to_is;
      mean = h.mean;
    }
step_keeps f ms names parts more (Pair w s t) (right.Concat os) h = h
step_keeps f ms names parts more (Slice s hi lo) (right.Slice x i j) h = h
step_keeps f ms names parts more (Cell base s) (right.Cell m i) h = h
step_keeps f ms names parts more _ _ h = absurd h

pub steps_keep : (f : Name → ℕ) (ms : List Memory) (parts more : List Part) (ss : List Step) (ws : List Wire) (names : List Name)
    → StepsMean f ms parts names ss ws → StepsMean f ms (parts ++ more) names ss ws
steps_keep f ms parts more [] [] names h = tt
steps_keep f ms parts more [] (w ∷ ws) names h = absurd h
steps_keep f ms parts more (s ∷ ss) [] names h = absurd h
steps_keep f ms parts more (s ∷ ss) (w ∷ ws) names h = (step_keeps f ms names parts more s w.right h.0, steps_keep f ms parts more ss ws (names ++ w.name ∷ []) h.1)

-- one more step
pub steps_push : (f : Name → ℕ) (ms : List Memory) (parts : List Part) (s : Step) (w : Wire) (ss : List Step) (ws : List Wire)
    (names : List Name) → StepsMean f ms parts names ss ws
    → StepMeans f ms parts (names ++ map (λ w. w.name) ws) s w.right → StepsMean f ms parts names (ss ++ s ∷ []) (ws ++ w ∷ [])
steps_push f ms parts s w [] [] names h m = (subst (λ (l : List Name). StepMeans f ms parts l s w.right) (append-nil names) m, tt)
steps_push f ms parts s w [] (x ∷ ws) names h m = absurd h
steps_push f ms parts s w (t ∷ ss) [] names h m = absurd h
steps_push f ms parts s w (t ∷ ss) (x ∷ ws) names h m = (
  h.0,
  steps_push f ms parts s w ss ws (names ++ x.name ∷ []) h.1
      (subst (λ (l : List Name). StepMeans f ms parts l s w.right) (sym (append_assoc names (x.name ∷ []) (map (λ w. w.name) ws))) m),
)
