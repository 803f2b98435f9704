-- A netlist carries the taint of another where it does so in each cycle.
use Rattle.sap_lemmas.proofs.Common.{◌≡◌, ℕ, List, [], ◌∷◌, map, Option, Some, None, sym, ◌∙◌, ap, subst, refl, option_map}
use Rattle.sap_maps.specs.Prelude.{Name, Valuation, find}
use Rattle.sap_net.specs.Prelude.{Net, operand_value, Holds, width_of, IsNetlist, IsWithin, IsValuation, written, Begins, InputsFit, InputsAre, IsCycle, IsRunAfter, observed, value_after, cell_after}
use Rattle.sap_net.specs.declared.parts.Input.{Input}
use Rattle.sap_net.specs.declared.parts.Operand.{Operand}
use Rattle.sap_net.specs.declared.parts.Memory.{Memory}
use Rattle.sap_net.proofs.Observed.{observed_registers, observed_memories}
use Rattle.sap_net.proofs.NamesLemmas.{found_of, found_among}
use Rattle.sap_taint.specs.TagNames.{name_of_tag, HasRoomForTags}
use Rattle.sap_taint.specs.Tags.{Tags, operand_tag, TagsHold, written_tag}
use Rattle.sap_taint.specs.Runs.{TaggedNumber, numbers_of, TagsBegin, TagsGiven, IsTaintedCycle, IsTaintedRunAfter, observed_with_tags, value_tag_after, memory_tag_after}
use Rattle.sap_taint.specs.Alike.{Equal, AreRelated, RunsRelated}
use Rattle.sap_taint.specs.TaggedForm.{tagged_inputs, HasTaggedForm}
use Rattle.sap_taint.proofs.Apart.{stays_apart}
use Rattle.sap_taint.proofs.Found.{at_named}
use Rattle.sap_taint.specs.Carries.{woven, TaggedFit, read_off, observed_in, CarriesTaint, TakesTags}

abbrev pub tags_in : Valuation → Tags
tags_in v = (read_off v).tags

abbrev BeforeIsValuation : Net → Option Valuation → Type 0
BeforeIsValuation m None = Unit {0}
BeforeIsValuation m (Some p) = IsValuation m p

-- What code that makes m from n has to show, part by part.
pub record CarriesCycle (w : ℕ) (n m : Net) : Type 0 where
  pub form : HasTaggedForm w n m
  -- start numbers
  pub first : (u : Valuation) → Begins m None u → Begins n None u × TagsBegin n None (tags_in u)
  -- the edge
  pub later : (p u : Valuation) → IsValuation m p → Begins m (Some p) u → Begins n (Some p) u × TagsBegin n (Some (read_off p)) (tags_in u)
  -- wires
  pub wires : (u : Valuation) → IsValuation m u → Holds (width_of n) u n.wires × TagsHold (tags_in u) n.wires

-- inputs
inputs_fit : (w : ℕ) (is : List Input) (xs : List TaggedNumber) → TaggedFit w is xs → InputsFit (tagged_inputs w is) (woven xs)
inputs_fit w [] [] a = tt
inputs_fit w [] (x ∷ xs) a = absurd a
inputs_fit w (i ∷ is) [] a = absurd a
inputs_fit w (i ∷ is) (x ∷ xs) a = (a.0.0, (a.0.1, inputs_fit w is xs a.1))

pub takes_tags : (w : ℕ) (n m : Net) → HasTaggedForm w n m → TakesTags w n m
takes_tags w n m form [] a = tt
takes_tags w n m form (xs ∷ xss) a = (rw form.inputs (inputs_fit w n.inputs xs a.0), takes_tags w n m form xss a.1)

inputs_read : (w : ℕ) (is : List Input) (xs : List TaggedNumber) (u : Valuation) → InputsAre u (tagged_inputs w is) (woven xs)
    → InputsAre u is (numbers_of xs) × TagsGiven (tags_in u) is xs
inputs_read w [] [] u a = (tt, tt)
inputs_read w [] (x ∷ xs) u a = absurd a
inputs_read w (i ∷ is) [] u a = absurd a
inputs_read w (i ∷ is) (x ∷ xs) u a =
    let r = inputs_read w is xs u a.1.1 in ((a.0, r.0), (a.1.0, r.1))

within_read : (w : ℕ) (n m : Net) → HasTaggedForm w n m → (u : Valuation) → IsWithin m u → IsWithin n u
within_read w n m form u a =
    record { value = λ x k h. a.value x k (form.values x k h).0; cell = λ x s h i. a.cell x s (form.shapes x s h).0 i }

valuation_read : (w : ℕ) (n m : Net) → CarriesCycle w n m → (u : Valuation) → IsValuation m u → IsValuation n u
valuation_read w n m c u a = record { within = within_read w n m c.form u a.within; equations = (c.wires u a).0 }

given_read : (w : ℕ) (n m : Net) → HasTaggedForm w n m → (xs : List TaggedNumber) (u : Valuation) → InputsAre u m.inputs (woven xs)
    → InputsAre u n.inputs (numbers_of xs) × TagsGiven (tags_in u) n.inputs xs
given_read w n m form xs u a =
    inputs_read w n.inputs xs u (subst (λ (is : List Input). InputsAre u is (woven xs)) form.inputs a)

cycle_read : (w : ℕ) (n m : Net) → CarriesCycle w n m → (p : Option Valuation) (xs : List TaggedNumber) (u : Valuation) → BeforeIsValuation m p → IsCycle m p (woven xs) u
    → IsTaintedCycle n (option_map read_off p) xs (read_off u)
cycle_read w n m c None xs u before a =
    let b = c.first u a.begins in
    let g = given_read w n m c.form xs u a.given in
    record {
      runs = record { begins = b.0; given = g.0; valuation = valuation_read w n m c u a.valuation };
      begins = b.1;
      given = g.1;
      wires = (c.wires u a.valuation).1;
    }
cycle_read w n m c (Some p) xs u before a =
    let b = c.later p u before a.begins in
    let g = given_read w n m c.form xs u a.given in
    record {
      runs = record { begins = b.0; given = g.0; valuation = valuation_read w n m c u a.valuation };
      begins = b.1;
      given = g.1;
      wires = (c.wires u a.valuation).1;
    }

runs_read : (w : ℕ) (n m : Net) → CarriesCycle w n m → (xss : List (List TaggedNumber)) (p : Option Valuation) (us : List Valuation) → BeforeIsValuation m p
    → IsRunAfter m p (map woven xss) us → IsTaintedRunAfter n (option_map read_off p) xss (map read_off us)
runs_read w n m c [] p [] before a = tt
runs_read w n m c [] p (u ∷ us) before a = absurd a
runs_read w n m c (xs ∷ xss) p [] before a = absurd a
runs_read w n m c (xs ∷ xss) p (u ∷ us) before a =
    (cycle_read w n m c p xs u before a.0, runs_read w n m c xss (Some u) us a.0.valuation a.1)

value_seen : (n m : Net) (p : Valuation) (x : Name) (o : Option Operand) → find (map (λ r. (r.name, r.next)) n.registers) x ≡ o
    → Begins n (Some p) (observed m p) × TagsBegin n (Some (read_off p)) (tags_in (observed m p))
    → (o ≡ None → (find (map (λ r. (r.name, r.next)) m.registers) x ≡ None) × (find (map (λ r. (r.name, r.next)) m.registers) (name_of_tag x) ≡ None))
    → ((observed m p).value x ≡ value_after p x o) × ((observed m p).value (name_of_tag x) ≡ value_tag_after (tags_in p) x o)
value_seen n m p x None e b s = (ap (value_after p x) (s refl).0, ap (value_after p (name_of_tag x)) (s refl).1)
value_seen n m p x (Some next) e b s = (
  at_named (λ y o. (observed m p).value y ≡ operand_value p o) (λ r. r.name) (λ r. r.next) n.registers b.0.0 x next e,
  at_named (λ y o. (tags_in (observed m p)).value y ≡ operand_tag (tags_in p) o) (λ r. r.name) (λ r. r.next) n.registers b.1.0 x next e,
)

memory_seen : (n m : Net) (p : Valuation) (x : Name) (k : Memory) → find (map (λ m. (m.name, m)) n.memories) x ≡ Some k
    → Begins n (Some p) (observed m p) × TagsBegin n (Some (read_off p)) (tags_in (observed m p))
    → ((i : ℕ) → (observed m p).cell x i ≡ written p k i) × ((observed m p).value (name_of_tag x) ≡ written_tag p (tags_in p) k)
memory_seen n m p x k e b = (
  at_named (λ y k. (i : ℕ) → (observed m p).cell y i ≡ written p k i) (λ m. m.name) (λ m. m) n.memories b.0.1 x k e,
  at_named (λ y k. (tags_in (observed m p)).memory y ≡ written_tag p (tags_in p) k) (λ m. m.name) (λ m. m) n.memories b.1.1 x k e,
)

seen_one : (w : ℕ) (n m : Net) → CarriesCycle w n m → IsNetlist n → HasRoomForTags n → IsNetlist m → (p : Valuation) → IsValuation m p
    → AreRelated Equal n (read_off (observed m p)) (observed_with_tags n (read_off p))
seen_one w n m c old free rules p a =
    let b = c.later p (observed m p) a (observed_registers m rules p, observed_memories m rules p) in
    record {
      value = λ x k h. value_seen n m p x (find (map (λ r. (r.name, r.next)) n.registers) x) refl b (stays_apart w n m old free c.form x k h);
      memory = λ x s h.
          let f = found_of (λ m. m.name) (λ m. m) n.memories x (found_among (λ m. m.name) (λ m. (m.width, m.depth)) n.memories x s h) in
          let g = memory_seen n m p x f.0 f.1 b in
          (λ i. g.0 i ∙ sym (ap (cell_after p x i) f.1), g.1 ∙ sym (ap (memory_tag_after (read_off p) x) f.1));
    }

all_seen : (w : ℕ) (n m : Net) → CarriesCycle w n m → IsNetlist n → HasRoomForTags n → IsNetlist m → (xss : List (List TaggedNumber)) (p : Option Valuation) (us : List Valuation)
    → IsRunAfter m p (map woven xss) us → RunsRelated Equal n (observed_in m us) (map (λ u. observed_with_tags n (read_off u)) us)
all_seen w n m c old free rules [] p [] a = tt
all_seen w n m c old free rules [] p (u ∷ us) a = absurd a
all_seen w n m c old free rules (xs ∷ xss) p [] a = absurd a
all_seen w n m c old free rules (xs ∷ xss) p (u ∷ us) a = (seen_one w n m c old free rules u a.0.valuation, all_seen w n m c old free rules xss (Some u) us a.1)

pub carries_taint : (w : ℕ) (n m : Net) → IsNetlist n → HasRoomForTags n → IsNetlist m → CarriesCycle w n m → CarriesTaint w n m
carries_taint w n m old free rules c =
    record {
      form = c.form;
      runs = λ xss us run. runs_read w n m c xss None us tt run;
      seen = λ xss us run. all_seen w n m c old free rules xss None us run;
    }
