-- The wires of texts: one list of them, and in the system of the designs that the parts declare.
use Rattle.sap_lemmas.proofs.Common.{◌≡◌, ℕ, zero, suc, ◌<◌, Bool, true, false, ◌&&◌, List, [], ◌∷◌, length, Option, Some, None, option_map, slice_get, nat_eq, refl, sym, ap, ap₂, ◌∙◌, subst, inl, inr, arith, AllZip, AllByRecursion, cases_Bool, Decides-eqb, same_Some, none-some, slice_get-map, slice_get_within, get_or_from_slice_get}
use Rattle.sap_tree.specs.Syntax.{DesignTree}
use Rattle.sap_lattice.specs.Levels.{Levels}
use Rattle.sap_lattice.proofs.KeptLemmas.{order_of-count}
use Rattle.sap_lattice.proofs.NameLemmas.{place_cases}
use Rattle.sap_names.specs.Entities.{entities_of, number_of, what_is, find as find_entity}
use Rattle.sap_names.specs.declared.entity.Entity.{Entity}
use Rattle.sap_names.specs.declared.kind.Declared.{Declared}
use Rattle.sap_names.specs.declared.kind.Declared.TheVariants as what
use Rattle.sap_meaning.specs.Program.{entity, kind_is_input, kind_is_register}
use Rattle.sap_resolved.specs.Fill.{program_of}
use Rattle.sap_resolved.specs.Worlds.{world_of}
use Rattle.sap_resolved.proofs.Lookup.{Stands, Numbered, numbered, entities_match}
use Rattle.sap_resolved.proofs.premises.Lookups.{number_at}
use Rattle.sap_system.specs.Wires.{NamedPart, Surroundings, Names, KeepsWires}
use Rattle.sap_system.specs.declared.file.WireText.{WireText}
use Rattle.sap_system.specs.declared.link_fault.LinkCode.TheVariants.{K7}
use Rattle.sap_link.specs.Systems.{Endpoint, endpoint, same_endpoint, Wire, System, IsPart, part, world, feeding, Connects, FedOnce}
use Rattle.sap_link.specs.Designs.{linked}
use Rattle.sap_wiring.specs.Laws.{OneWiring, AreOfDesigns, WiresOfTextsFit}
use Rattle.sap_wiring.specs.Wiring.{IsEndpoint, IsLevelOf, IsWireOf, PartsNamed}
use Rattle.sap_wiring.proofs.Naming.{endpoint_same}

-- one list

level_same : (u : Surroundings) (o : Option (List ℕ)) (l m : Option ℕ) → IsLevelOf u o l → IsLevelOf u o m → l ≡ m
level_same u None l m a b = a ∙ sym b
level_same u (Some name) l m a b = a.2 ∙ ap Some (same_Some a.0 b.0 (sym a.1 ∙ b.1)) ∙ sym b.2

wire_same : (u : Surroundings) → PartsNamed u → (t : WireText) (w v : Wire) → IsWireOf u t w → IsWireOf u t v → w ≡ v
wire_same u named t w v a b =
    let from : w.from ≡ v.from = endpoint_same u named t.from _ _ w.from v.from a.from b.from in
    let to : w.to ≡ v.to = endpoint_same u named t.to _ _ w.to v.to a.to b.to in
    let level : w.level ≡ v.level = level_same u t.level w.level v.level a.level b.level in
    λ i. record { from = from i; to = to i; level = level i }

pub one_wiring : OneWiring
one_wiring u named [] [] [] a b = refl
one_wiring u named [] [] (v ∷ vs) a b = absurd b
one_wiring u named [] (w ∷ ws) vs a b = absurd a
one_wiring u named (t ∷ ts) [] vs a b = absurd a
one_wiring u named (t ∷ ts) (w ∷ ws) [] a b = absurd b
one_wiring u named (t ∷ ts) (w ∷ ws) (v ∷ vs) a b =
    ap₂ (λ (x : Wire) (xs : List Wire). x ∷ xs) (wire_same u named t w v a.0 b.0) (one_wiring u named ts ws vs a.1 b.1)

-- in the system of the designs

design_at : (ps : List NamedPart) (ds : List DesignTree) → AllZip (λ (p : NamedPart) (d : DesignTree). p.entities ≡ entities_of d) ps ds
    → (i : ℕ) (p : NamedPart) → slice_get ps i ≡ Some p → (d : DesignTree) × (slice_get ds i ≡ Some d) × (p.entities ≡ entities_of d)
design_at [] ds a i p at = absurd (none-some p at)
design_at (q ∷ ps) [] a i p at = absurd a
design_at (q ∷ ps) (d ∷ ds) a zero p at = (d, refl, ap (λ (x : NamedPart). x.entities) (sym (same_Some q p at)) ∙ a.0)
design_at (q ∷ ps) (d ∷ ds) a (suc i) p at = design_at ps ds a.1 i p at

entity_of_what : (o : Option Entity) (d : Declared) → option_map (λ (e : Entity). e.what) o ≡ Some d → (e : Entity) × (o ≡ Some e) × (e.what ≡ d)
entity_of_what None d h = absurd (none-some d h)
entity_of_what (Some e) d h = (e, refl, same_Some e.what d h)

-- what is declared of a name stands at its number in the design's world
stands_for : (ls : Levels) (d : DesignTree) (name : List ℕ) (x : Declared) (n : ℕ) → what_is (entities_of d) name ≡ Some x → number_of (entities_of d) name ≡ Some n
    → Stands x (entity (world_of ls d) n)
stands_for ls d name x n is number =
    let (e, here, same) = entity_of_what (find_entity (entities_of d) name) x is in
    let r : Numbered (entities_of d) (world_of ls d).entities name e = numbered (entities_of d) (world_of ls d).entities (entities_match ls d) name e here in
    let place : r.number ≡ n = same_Some r.number n (sym r.is ∙ number) in
    subst (λ (m : ℕ). Stands x (entity (world_of ls d) m)) place (subst (λ (y : Declared). Stands y (entity (world_of ls d) r.number)) same r.same.what)

record Placed (y : System) (x : Declared) (e : Endpoint) : Type 0 where
  is_part : IsPart y e.part
  stands : Stands x (entity (world y e.part) e.entity)

module _ (ls : Levels) (designs : List DesignTree) (u : Surroundings) (h : AreOfDesigns ls designs u) where
  placed : (wires : List Wire) (text : List ℕ) (x : Declared) (e : Endpoint) → IsEndpoint u text x e → Placed (linked ls designs wires) x e
  placed wires text x e at =
      let (d, here, same) = design_at u.parts designs h.parts e.part at.names.part at.names.is_part in
      let y : System = linked ls designs wires in
      let there : slice_get y.parts e.part ≡ Some (program_of ls d) = slice_get-map (program_of ls) designs e.part ∙ ap (λ o. option_map (program_of ls) o) here in
      let it : part y e.part ≡ program_of ls d = get_or_from_slice_get y.parts e.part (program_of ls d) _ there in
      record {
        is_part = slice_get_within y.parts e.part (program_of ls d) there;
        stands = subst (λ p. Stands x (entity p.world e.entity)) (sym it) (
            stands_for ls d at.entity x e.entity
            (ap (λ es. what_is es at.entity) (sym same) ∙ at.names.stands_for)
            (ap (λ es. number_of es at.entity) (sym same) ∙ at.number)
            );
      }

  level_fits : (o : Option (List ℕ)) (l : Option ℕ) → IsLevelOf u o l → (t : ℕ) → l ≡ Some t → t < length ls.names
  level_fits None l at t is = absurd (none-some t (sym at ∙ is))
  level_fits (Some name) l at t is =
      let same : at.0 ≡ t = same_Some at.0 t (sym at.2 ∙ is) in
      let low = (place_cases u.levels name (Some at.0) (sym at.1)).0 in
      subst (λ (k : ℕ). k < length ls.names) same (subst (λ (names : List (List ℕ)). at.0 < length names) h.levels low)

  connects : (all : List Wire) (t : WireText) (w : Wire) → IsWireOf u t w → Connects (linked ls designs all) w
  connects all t w is =
      let from = placed all t.from (what.Register is.width) w.from is.from in
      let to = placed all t.to (what.Input is.width) w.to is.to in
      record {
        from_part = from.is_part;
        register = ap kind_is_register from.stands.0;
        to_part = to.is_part;
        input = ap kind_is_input to.stands.0;
        widths = from.stands.1 ∙ sym to.stands.1;
        level = λ k at. subst (λ n. k < n) (sym (order_of-count ls)) (level_fits t.level w.level is.level k at);
      }

  each_connects : (all : List Wire) (texts : List WireText) (wires : List Wire) → AllZip (IsWireOf u) texts wires → AllByRecursion (Connects (linked ls designs all)) wires
  each_connects all [] [] a = tt
  each_connects all [] (w ∷ ws) a = absurd a
  each_connects all (t ∷ ts) [] a = absurd a
  each_connects all (t ∷ ts) (w ∷ ws) a = (connects all t w a.0, each_connects all ts ws a.1)

-- one and the same input
record SameInput (u : Surroundings) (s t : WireText) : Type 0 where
  input_part : ℕ
  input : List ℕ
  width : ℕ
  there : Names u s.to input_part input (what.Input width)
  here : Names u t.to input_part input (what.Input width)

abbrev Apart : Surroundings → List WireText → Type 0
Apart u texts = (j k : ℕ) (s t : WireText) → j < k → slice_get texts j ≡ Some s → slice_get texts k ≡ Some t → ¬ SameInput u s t

apart : (u : Surroundings) (texts : List WireText) → KeepsWires u texts → Apart u texts
apart u texts kept j k s t low first second same = kept K7 k (record {
  wire = t;
  is_wire = second;
  breaks = record {
    earlier = j;
    before = low;
    other = s;
    is_other = first;
    part = same.input_part;
    entity = same.input;
    width = same.width;
    there = same.there;
    here = same.here;
  };
})

numbers_same : (es : List Entity) (a b : List ℕ) (n : ℕ) → number_of es a ≡ Some n → number_of es b ≡ Some n → a ≡ b
numbers_same es a b n x y = sym (number_at es a n x) ∙ number_at es b n y

same_input : (u : Surroundings) (s t : WireText) (w v : Wire) → IsWireOf u s w → IsWireOf u t v → v.to ≡ w.to → SameInput u s t
same_input u s t w v a b same =
    let parts : a.to.names.part ≡ b.to.names.part = same_Some a.to.names.part b.to.names.part
    (sym a.to.names.is_part ∙ ap (λ (e : Endpoint). slice_get u.parts e.part) (sym same) ∙ b.to.names.is_part) in
    let number : number_of b.to.names.part.entities a.to.entity ≡ Some v.to.entity =
    ap (λ (p : NamedPart). number_of p.entities a.to.entity) (sym parts) ∙ a.to.number ∙ ap (λ (e : Endpoint). Some e.entity) (sym same) in
    let input : b.to.entity ≡ a.to.entity = numbers_same b.to.names.part.entities b.to.entity a.to.entity v.to.entity b.to.number number in
    let stands : what_is b.to.names.part.entities a.to.entity ≡ Some (what.Input b.width) = ap (λ l. what_is b.to.names.part.entities l) (sym input) ∙ b.to.names.stands_for in
    let declared : what.Input a.width ≡ what.Input b.width = same_Some (what.Input a.width) (what.Input b.width)
    (sym a.to.names.stands_for ∙ ap (λ (p : NamedPart). what_is p.entities a.to.entity) parts ∙ stands) in
    record {
      input_part = w.to.part;
      input = a.to.entity;
      width = a.width;
      there = a.to.names;
      here = subst (λ (x : Declared). Names u t.to w.to.part a.to.entity x) (sym declared) (
          subst (λ (l : List ℕ). Names u t.to w.to.part l (what.Input b.width)) input (
          subst (λ (e : Endpoint). Names u t.to e.part b.to.entity (what.Input b.width)) same b.to.names
          )
          );
    }

endpoints_equal : (a b : Endpoint) → same_endpoint a b ≡ true → a ≡ b
endpoints_equal a b h = by_parts (nat_eq a.part b.part) refl h
  where
    by_parts : (t : Bool) → nat_eq a.part b.part ≡ t → (t && nat_eq a.entity b.entity) ≡ true → a ≡ b
    by_parts true e k = ap₂ endpoint ((Decides-eqb a.part b.part).0 e) ((Decides-eqb a.entity b.entity).0 k)
    by_parts false e k = absurd (let no : false ≡ true = k in cc)

unfed : (u : Surroundings) (s : WireText) (w : Wire) → IsWireOf u s w → (ts : List WireText) (ws : List Wire) → AllZip (IsWireOf u) ts ws
    → ((k : ℕ) (t : WireText) → slice_get ts k ≡ Some t → ¬ SameInput u s t) → feeding ws w.to ≡ None
unfed u s w is [] [] a other = refl
unfed u s w is [] (v ∷ vs) a other = absurd a
unfed u s w is (t ∷ ts) [] a other = absurd a
unfed u s w is (t ∷ ts) (v ∷ vs) a other = elim (cases_Bool (same_endpoint v.to w.to)) [
  | inl equal ↦ absurd (other 0 t refl (same_input u s t w v is a.0 (endpoints_equal v.to w.to equal)))
  | inr differ ↦ rw differ (unfed u s w is ts vs a.1 (λ k r at. other (suc k) r at))
]

fed_once : (u : Surroundings) (texts : List WireText) (wires : List Wire) → AllZip (IsWireOf u) texts wires → Apart u texts → FedOnce wires
fed_once u [] [] a h = tt
fed_once u [] (w ∷ ws) a h = absurd a
fed_once u (t ∷ ts) [] a h = absurd a
fed_once u (t ∷ ts) (w ∷ ws) a h = (
  unfed u t w a.0 ts ws a.1 (λ k r at. h 0 (suc k) t r (omega arith) refl at),
  fed_once u ts ws a.1 (λ j k s r low first second. h (suc j) (suc k) s r (omega (arith, low)) first second),
)

pub wires_of_texts_fit : WiresOfTextsFit
wires_of_texts_fit ls designs u h texts wires kept a = record {
  each = each_connects ls designs u h wires texts wires a;
  once = fed_once u texts wires a (apart u texts kept);
}
