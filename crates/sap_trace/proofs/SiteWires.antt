-- The wires of check sites and their places.
use Rattle.sap_lemmas.proofs.Common.{◌≡◌, ◌≢◌, ℕ, zero, suc, ◌+◌, ◌<◌, List, [], ◌∷◌, ◌++◌, Option, Some, None, length, map, bytes_eq, get_or, length-append, refl, sym, ◌∙◌, subst, arith, inl, inr, AllByRecursion, cases_Bool, cases_lt, equal_of_bytes_eq}
use Rattle.sap_tree.specs.Syntax.{DesignTree}
use Rattle.sap_lattice.specs.Levels.{Levels}
use Rattle.sap_check.specs.Sites.{sites_of}
use Rattle.sap_maps.specs.Prelude.{Name, Scope, find}
use Rattle.sap_net.specs.Prelude.{Net, IsNetlist, readable, refused_name, refused_level_name}
use Rattle.sap_net.specs.declared.parts.Wire.{Wire}
use Rattle.sap_cycle.specs.Running.{value_names, IsPlaceOf}
use Rattle.sap_cycle.proofs.Distinct.{wires_readable}
use Rattle.sap_trace.specs.Seen.{HasSiteWires, AreReadable, ArePlaced}

wire_has : (sc : Scope) (list : List Wire) → AllByRecursion (λ w. find sc w.name ≡ Some w.width) list → (x : Name) (u : ℕ)
    → find {X = ℕ} (map (λ w. (w.name, w.width)) list) x ≡ Some u
    → find sc x ≡ Some u
wire_has sc [] all x u h = absurd (cc)
wire_has sc (w ∷ list) all x u h = elim (cases_Bool (bytes_eq w.name x)) [
  | inl t ↦ (let e : Some w.width ≡ Some u = rw t at h in subst (λ (n : Name). find sc n ≡ Some u) (equal_of_bytes_eq w.name x t) (all.0 ∙ e))
  | inr f ↦ wire_has sc list all.1 x u (rw f at h)
]

there : (o : Option ℕ) (u : ℕ) → o ≡ Some u → o ≢ None
there o u e n = cc (e, n)

pub sites_readable : (ls : Levels) (d : DesignTree) (n : Net) → IsNetlist n → HasSiteWires ls d n → AreReadable n (length (sites_of d))
sites_readable ls d n net has = record {
  refused = λ k p q. there _ _ (wire_has (readable n) n.wires (wires_readable n net) (refused_name k) _ (has k p q).0);
  levels = λ k p q. there _ _ (wire_has (readable n) n.wires (wires_readable n net) (refused_level_name k) _ (has k p q).1);
}

pub placed_none : (n : Net) (names : ℕ → Name) → ArePlaced n names 0 []
placed_none n names = record { count_is = refl; within = λ k l. absurd (omega arith); named = λ k l. absurd (omega arith) }

at_front : (ks : List ℕ) (k i : ℕ) → i < length ks → get_or (ks ++ k ∷ []) i 0 ≡ get_or ks i 0
at_front [] k i l = absurd (omega arith)
at_front (j ∷ ks) k zero l = refl
at_front (j ∷ ks) k (suc i) l = at_front ks k i (omega arith)

at_end : (ks : List ℕ) (k i : ℕ) → i ≡ length ks → get_or (ks ++ k ∷ []) i 0 ≡ k
at_end [] k zero e = refl
at_end [] k (suc i) e = absurd (omega arith)
at_end (j ∷ ks) k zero e = absurd (omega arith)
at_end (j ∷ ks) k (suc i) e = at_end ks k i (omega arith)

module _ (n : Net) (names : ℕ → Name) (count : ℕ) (ks : List ℕ) (h : ArePlaced n names count ks) (k : ℕ) (named : IsPlaceOf n (names (count + 1)) k)
    (within : k < length (value_names n)) where
  count_grows : length (ks ++ k ∷ []) ≡ count + 1
  count_grows = let a = length-append ks (k ∷ []) in let b : length ks ≡ count = h.count_is in omega arith

  -- one place more
  placed_more : ArePlaced n names (count + 1) (ks ++ k ∷ [])
  placed_more = record {
    count_is = count_grows;
    within = λ i l. elim (cases_lt i count) [
      | inl m ↦
          let b : length ks ≡ count = h.count_is in
          subst (λ (j : ℕ). j < length (value_names n)) (sym (at_front ks k i (omega arith))) (h.within i m)
      | inr g ↦
          let b : length ks ≡ count = h.count_is in
          subst (λ (j : ℕ). j < length (value_names n)) (sym (at_end ks k i (omega arith))) within
    ];
    named = λ i l. elim (cases_lt i count) [
      | inl m ↦
          let b : length ks ≡ count = h.count_is in
          subst (λ (j : ℕ). IsPlaceOf n (names (i + 1)) j) (sym (at_front ks k i (omega arith))) (h.named i m)
      | inr g ↦
          let b : length ks ≡ count = h.count_is in
          let e : i ≡ count = omega arith in
          subst (λ (j : ℕ). IsPlaceOf n (names (i + 1)) j) (sym (at_end ks k i (omega arith)))
          (subst (λ (j : ℕ). IsPlaceOf n (names (j + 1)) k) (sym e) named)
    ];
  }

pub placed_push : (n : Net) (names : ℕ → Name) (count : ℕ) (ks new : List ℕ) (k : ℕ) → ArePlaced n names count ks → IsPlaceOf n (names (count + 1)) k → k < length (value_names n)
    → new ≡ ks ++ k ∷ [] → ArePlaced n names (count + 1) new
placed_push n names count ks new k h named within e =
    subst (λ (js : List ℕ). ArePlaced n names (count + 1) js) (sym e) (placed_more n names count ks h k named within)

pub placed_all : (n : Net) (names : ℕ → Name) (k count : ℕ) (ks : List ℕ) → k ≡ count → ArePlaced n names k ks → ArePlaced n names count ks
placed_all n names k count ks e h = subst (λ (j : ℕ). ArePlaced n names j ks) e h
