-- The wires of the texts so far, and what a list of texts comes to.
use Rattle.sap_lemmas.proofs.Common.{◌≡◌, ◌≢◌, ℕ, zero, suc, ◌+◌, ◌<◌, ◌≤◌, Bool, ◌||◌, true, false, List, [], ◌∷◌, ◌++◌, length, take, Some, bytes_eq, slice_get, Result, Ok, Err, refl, sym, ap, ◌∙◌, subst, inl, inr, ◌⊎◌, arith, IfErr, OnOk, IsErrOf, IsOkUnless, AllZip, list_any, cases_order, same_Some, none-some, slice_get_within}
use Rattle.std.proofs.Common.{Vec}
use Rattle.std.specs.Global.{Global}
use Rattle.sap_system.specs.Wires.{Surroundings, FirstLinkFault, KeepsWires, Stands, number_of_code}
use Rattle.sap_system.specs.declared.file.WireText.{WireText}
use Rattle.sap_system.specs.declared.link_fault.LinkCode.{LinkCode}
use Rattle.sap_system.specs.declared.link_fault.LinkFault.{LinkFault}
use Rattle.sap_system.specs.declared.link_fault.LinkFault.TheVariants.{Rule, Memory}
use Rattle.sap_system.proofs.LinkAnswered.{one_link_fault, none_where_kept}
use Rattle.sap_link.specs.Systems.{Wire}
use Rattle.sap_wiring.specs.Wiring.{IsWireOf, is_fed}

abbrev pub feeds : List WireText → List ℕ → Bool
feeds texts name = list_any (λ (w : WireText). bytes_eq w.to name) texts

-- what holds once k texts have been tested
pub record Tested (u : Surroundings) (texts : List WireText) (k : ℕ) (ws : List Wire) (keys : List (Vec ℕ Global)) : Type 0 where
  pub wires : AllZip (IsWireOf u) (take k texts) ws
  pub fed : (name : List ℕ) → is_fed keys name ≡ feeds (take k texts) name
  pub kept : (code : LinkCode) (j : ℕ) → j < k → ¬ Stands u texts code j

zip_more : (u : Surroundings) (texts : List WireText) (k : ℕ) (t : WireText) (ws : List Wire) (w : Wire) → slice_get texts k ≡ Some t
    → AllZip (IsWireOf u) (take k texts) ws → IsWireOf u t w → AllZip (IsWireOf u) (take (suc k) texts) (ws ++ w ∷ [])
zip_more u [] k t ws w at all is = absurd (none-some t at)
zip_more u (s ∷ ts) zero t [] w at all is = (subst (λ (x : WireText). IsWireOf u x w) (sym (same_Some s t at)) is, tt)
zip_more u (s ∷ ts) zero t (v ∷ ws) w at all is = absurd all
zip_more u (s ∷ ts) (suc k) t [] w at all is = absurd all
zip_more u (s ∷ ts) (suc k) t (v ∷ ws) w at all is = (all.0, zip_more u ts k t ws w at all.1 is)

or_same : (a b c d : Bool) → b ≡ (c || d) → (a || b) ≡ ((a || c) || d)
or_same true b c d h = refl
or_same false b c d h = h

or_false : (b : Bool) → (b || false) ≡ (false || b)
or_false true = refl
or_false false = refl

feeds_next : (texts : List WireText) (k : ℕ) (t : WireText) (name : List ℕ) → slice_get texts k ≡ Some t
    → feeds (take (suc k) texts) name ≡ (feeds (take k texts) name || bytes_eq t.to name)
feeds_next [] k t name at = absurd (none-some t at)
feeds_next (s ∷ ts) zero t name at = or_false (bytes_eq s.to name) ∙ ap (λ (x : WireText). bytes_eq x.to name) (same_Some s t at)
feeds_next (s ∷ ts) (suc k) t name at = or_same (bytes_eq s.to name) _ _ _ (feeds_next ts k t name at)

module _ (u : Surroundings) (texts : List WireText) (k : ℕ) where
  -- one more that keeps the rules
  pub tested_next : (t : WireText) (ws new : List Wire) (w : Wire) (fed keys : List (Vec ℕ Global)) → slice_get texts k ≡ Some t → Tested u texts k ws fed
      → ((text : WireText) → slice_get texts k ≡ Some text → IsWireOf u text w) → ((code : LinkCode) → ¬ Stands u texts code k)
      → new ≡ ws ++ w ∷ [] → ((name : List ℕ) → is_fed keys name ≡ (is_fed fed name || bytes_eq t.to name)) → Tested u texts (suc k) new keys
  tested_next t ws new w fed keys at h is none more feed = record {
    wires = subst (AllZip (IsWireOf u) (take (suc k) texts)) (sym more) (zip_more u texts k t ws w at h.wires (is t at));
    fed = λ name. feed name ∙ ap (λ b. b || bytes_eq t.to name) (h.fed name) ∙ sym (feeds_next texts k t name at);
    kept = λ code j low. elim (cases_order j k) [
      | inl e ↦ subst (λ i. ¬ Stands u texts code i) (sym e) (none code)
      | inr apart ↦ elim apart [ inl less ↦ h.kept code j less | inr more ↦ absurd (omega (arith, low, more)) ]
    ];
  }

  -- the first that doesn't
  pub first_fault : (ws : List Wire) (fed : List (Vec ℕ Global)) → Tested u texts k ws fed → (code : LinkCode) → Stands u texts code k
      → ((other : LinkCode) → number_of_code other < number_of_code code → ¬ Stands u texts other k) → FirstLinkFault u texts (Rule code (k + 1))
  first_fault ws fed h code here lower = (k, record { here = here; none_earlier = h.kept; none_lower = lower }, refl)

-- all of them
pub all_kept : (u : Surroundings) (texts : List WireText) (k : ℕ) (ws : List Wire) (fed : List (Vec ℕ Global)) → length texts ≤ k → Tested u texts k ws fed → KeepsWires u texts
all_kept u texts k ws fed high h code j s = h.kept code j (let low = slice_get_within texts j s.wire s.is_wire in omega (arith, low, high)) s

cases_memory : (f : LinkFault) → (f ≡ Memory) ⊎ (f ≢ Memory)
cases_memory (Rule code n) = inr (λ e. cc)
cases_memory Memory = inl refl

-- a list of texts has one answer, want of memory aside
module _ {A : Type 0} (u : Surroundings) (texts : List WireText) (r : Result A LinkFault) (refused : IfErr r (λ f. f ≢ Memory → FirstLinkFault u texts f)) where
  pub valid_answer : KeepsWires u texts → IsOkUnless r Memory
  valid_answer keeps = by_result r refused
    where
      by_result : (s : Result A LinkFault) → IfErr s (λ f. f ≢ Memory → FirstLinkFault u texts f) → IsOkUnless s Memory
      by_result (Ok x) h = tt
      by_result (Err f) h = elim (cases_memory f) [ inl e ↦ e | inr ne ↦ absurd (none_where_kept u texts f keeps (h ne)) ]

  pub exact_answer : OnOk r (KeepsWires u texts) → (f : LinkFault) → FirstLinkFault u texts f → IsErrOf r f ⊎ IsErrOf r Memory
  exact_answer kept f first = by_result r refused kept
    where
      by_result : (s : Result A LinkFault) → IfErr s (λ g. g ≢ Memory → FirstLinkFault u texts g) → OnOk s (KeepsWires u texts) → IsErrOf s f ⊎ IsErrOf s Memory
      by_result (Ok x) h k = absurd (none_where_kept u texts f k first)
      by_result (Err g) h k = elim (cases_memory g) [ inl e ↦ inr (ap Err e) | inr ne ↦ inl (ap Err (one_link_fault u texts g f (h ne) first)) ]
