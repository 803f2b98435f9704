-- The wires of tags read what is there.
use Rattle.sap_lemmas.proofs.Common.{◌≡◌, ℕ, ◌+◌, ◌^◌, Bool, List, [], ◌∷◌, ◌++◌, map, Some, None, true, false, ◌||◌, ap, ap₂, sym, ◌∙◌, subst, refl, inl, inr, arith, bytes_eq, AllByRecursion, cases_Bool, or_right, map-append, neither_left, neither_right, or_false, all_append, bytes_eq_same, equal_of_bytes_eq, bytes_eq_apart_back}
use Rattle.sap_maps.specs.Prelude.{Name, Scope, find}
use Rattle.sap_maps.proofs.Scopes.{found_here}
use Rattle.sap_net.specs.Prelude.{Net, is_among, AreDistinct, Shapes, IsOperand, AreOperands, IsRight, AreWires, readable_after, shapes, names_of}
use Rattle.sap_net.specs.declared.parts.Operand.{Operand}
use Rattle.sap_net.specs.declared.parts.Operand.TheVariants.{Named, Constant}
use Rattle.sap_net.specs.declared.parts.Right.{Right}
use Rattle.sap_net.specs.declared.parts.Right.TheVariants.{Copy, One, Two, Choose, Concat, Slice, Cell}
use Rattle.sap_net.specs.declared.parts.Wire.{Wire}
use Rattle.sap_net.proofs.NamesLemmas.{among_append, among_neither, among_here, apart_by_membership}
use Rattle.sap_net.proofs.RulesLemmas.{wires_both, readable_kept}
use Rattle.sap_taint.specs.TagNames.{name_of_tag}
use Rattle.sap_taint_pass.specs.Tainted.{operands_of, tags_of, tags_read, joins, joined, help_for, tag_wires, help_for_wires}
use Rattle.sap_taint_pass.proofs.Numbered.{some_names, numbered, other_number, numbers_both}
use Rattle.sap_taint_pass.proofs.JoinWires.{AreTags, HelpingNew, joined_are_wires, joined_names}
use Rattle.sap_taint_pass.proofs.Setting.{Setting, IsDeclared, tags_apart, help_apart_tag, tag_no_memory, help_no_memory}

-- names that no wire has are found as before
pub readable_other : (ws : List Wire) (sc : Scope) (y : Name) → is_among y (names_of ws) ≡ false → find (readable_after sc ws) y ≡ find sc y
readable_other [] sc y h = refl
readable_other (w ∷ ws) sc y h =
    readable_other ws ((w.name, w.width) ∷ sc) y (neither_right (bytes_eq y w.name) _ h)
    ∙ rw (bytes_eq_apart_back y w.name (neither_left (bytes_eq y w.name) _ h)) refl

abbrev pub AreWide : (w : ℕ) → List Wire → Type 0
AreWide w ws = AllByRecursion (λ x. x.width ≡ w) ws

-- the names of wires of one width are found with it
pub readable_new : (ms : Shapes) (w : ℕ) (ws : List Wire) (sc : Scope) → AreWires ms sc ws → AreWide w ws → (y : Name) → is_among y (names_of ws) ≡ true
    → find (readable_after sc ws) y ≡ Some w
readable_new ms w [] sc a wide y h = absurd (cc)
readable_new ms w (x ∷ ws) sc a wide y h =
    elim (cases_Bool (bytes_eq y x.name)) [
      | inl t ↦
          readable_kept ms ws ((x.name, x.width) ∷ sc) a.4 y w
          (subst (λ (z : Name). find ((x.name, x.width) ∷ sc) z ≡ Some w) (sym (equal_of_bytes_eq y x.name t)) (found_here x.name x.width sc ∙ ap (λ u. Some u) wide.0))
      | inr f ↦ readable_new ms w ws ((x.name, x.width) ∷ sc) a.4 wide.1 y (rw f at h)
    ]

joins_wide : (helping : ℕ → Name) (w k : ℕ) (x t : Name) (ts : List Name) → AreWide w (joins helping w k x t ts)
joins_wide helping w k x t (a ∷ (b ∷ ts)) = (refl, joins_wide helping w (k + 1) x (helping k) (b ∷ ts))
joins_wide helping w k x t _ = (refl, tt)

joined_wide : (helping : ℕ → Name) (w k : ℕ) (x : Name) (ts : List Name) → AreWide w (joined helping w k x ts)
joined_wide helping w k x [] = (refl, tt)
joined_wide helping w k x (t ∷ ts) = joins_wide helping w k x t ts

pub tag_wires_wide : (helping : ℕ → Name) (w k : ℕ) (ws : List Wire) → AreWide w (tag_wires helping w k ws)
tag_wires_wide helping w k [] = tt
tag_wires_wide helping w k (x ∷ ws) =
    all_append (λ (y : Wire). y.width ≡ w) (joined helping w k (name_of_tag x.name) (tags_read x)) (tag_wires helping w (k + help_for (tags_read x)) ws)
    (joined_wide helping w k (name_of_tag x.name) (tags_read x)) (tag_wires_wide helping w (k + help_for (tags_read x)) ws)

-- their names are helping ones and those of tags

pub names_both : (ws xs : List Wire) → names_of (ws ++ xs) ≡ names_of ws ++ names_of xs
names_both ws xs = map-append (λ w. w.name) ws xs

turned : (a t b u : Bool) → ((a || t) || (b || u)) ≡ ((a || b) || (t || u))
turned true t b u = refl
turned false true true u = refl
turned false true false u = refl
turned false false b u = refl

pub tag_wires_names : (helping : ℕ → Name) (w k : ℕ) (ws : List Wire) (y : Name)
    → is_among y (names_of (tag_wires helping w k ws)) ≡ (is_among y (some_names helping k (help_for_wires ws)) || is_among y (map name_of_tag (names_of ws)))
tag_wires_names helping w k [] y = refl
tag_wires_names helping w k (x ∷ ws) y =
    let c = help_for (tags_read x) in
    let t = name_of_tag x.name in
    let here = joined helping w k t (tags_read x) in
    let rest = tag_wires helping w (k + c) ws in
    ap (is_among y) (names_both here rest)
    ∙ among_append y (names_of here) (names_of rest)
    ∙ ap₂ (λ p q. p || q)
    (ap (is_among y) (joined_names helping w k t (tags_read x)) ∙ among_append y (some_names helping k c) (t ∷ [])
    ∙ ap (λ q. is_among y (some_names helping k c) || q) (or_false (bytes_eq y t)))
    (tag_wires_names helping w (k + c) ws y)
    ∙ turned (is_among y (some_names helping k c)) (bytes_eq y t) (is_among y (some_names helping (k + c) (help_for_wires ws))) (is_among y (map name_of_tag (names_of ws)))
    ∙ ap (λ p. p || (bytes_eq y t || is_among y (map name_of_tag (names_of ws))))
    (sym (among_append y (some_names helping k c) (some_names helping (k + c) (help_for_wires ws))) ∙ ap (is_among y) (sym (numbers_both helping k c (help_for_wires ws))))

pub not_helping : (helping : ℕ → Name) (k count : ℕ) (y : Name) → ((i : ℕ) → bytes_eq (helping i) y ≡ false) → is_among y (some_names helping k count) ≡ false
not_helping helping k count y h =
    elim (cases_Bool (is_among y (some_names helping k count))) [
      | inl t ↦ absurd (
          let r = numbered helping k count y t in
          let e : bytes_eq (helping r.0) y ≡ true = subst (λ (z : Name). bytes_eq z y ≡ true) r.3 (bytes_eq_same y) in
          let f = h r.0 in
          cc)
      | inr f ↦ f
    ]

-- the tags of what can be read are there
pub record Tagged (w : ℕ) (ms : Shapes) (sn sm : Scope) : Type 0 where
  pub value : (y : Name) (u : ℕ) → find sn y ≡ Some u → find sm (name_of_tag y) ≡ Some w
  pub memory : (y : Name) (s : ℕ × ℕ) → find ms y ≡ Some s → find sm (name_of_tag y) ≡ Some w

operand_tags : (w : ℕ) (ms : Shapes) (sn sm : Scope) → Tagged w ms sn sm → (u : ℕ) (o : Operand) (os : List Operand) → IsOperand sn u o
    → AreTags sm w (tags_of os) → AreTags sm w (tags_of (o ∷ os))
operand_tags w ms sn sm a u (Named x) os h rest = (a.value x u h, rest)
operand_tags w ms sn sm a u (Constant v n) os h rest = rest

all_tags : (w : ℕ) (ms : Shapes) (sn sm : Scope) → Tagged w ms sn sm → (u : ℕ) (os : List Operand) → AreOperands sn u os → AreTags sm w (tags_of os)
all_tags w ms sn sm a u [] h = tt
all_tags w ms sn sm a u (o ∷ os) h = operand_tags w ms sn sm a h.0 o os h.3 (all_tags w ms sn sm a h.1 os h.4)

right_tags : (w : ℕ) (ms : Shapes) (sn sm : Scope) → Tagged w ms sn sm → (u : ℕ) (r : Right) → IsRight ms sn u r → AreTags sm w (tags_of (operands_of r))
right_tags w ms sn sm t u (Copy a) h = operand_tags w ms sn sm t u a [] h tt
right_tags w ms sn sm t u (One op a) h = operand_tags w ms sn sm t h.0 a [] h.2 tt
right_tags w ms sn sm t u (Two op a b) h = operand_tags w ms sn sm t h.0 a (b ∷ []) h.4 (operand_tags w ms sn sm t h.1 b [] h.5 tt)
right_tags w ms sn sm t u (Choose c a b) h =
    operand_tags w ms sn sm t 1 c (a ∷ b ∷ []) h.0 (operand_tags w ms sn sm t u a (b ∷ []) h.1 (operand_tags w ms sn sm t u b [] h.2 tt))
right_tags w ms sn sm t u (Concat os) h = all_tags w ms sn sm t u os h.1
right_tags w ms sn sm t u (Slice x hi lo) h = (t.value x h.0 h.2, tt)
right_tags w ms sn sm t u (Cell m i) h = (t.memory m (u, 2 ^ h.0) h.1, operand_tags w ms sn sm t h.0 i [] h.2 tt)

-- Where the tags of wires begin: `sn` is what the wires read in the netlist without tags, `sm` what theirs read.
pub record Stands (helping : ℕ → Name) (w : ℕ) (n : Net) (sn sm : Scope) (k : ℕ) (ws : List Wire) : Type 0 where
  pub tagged : Tagged w (shapes n) sn sm
  pub help : HelpingNew helping sm k
  pub later : (x : Name) → is_among x (names_of ws) ≡ true → find sm (name_of_tag x) ≡ None
  pub declared : (x : Name) → is_among x (names_of ws) ≡ true → IsDeclared n x
  pub distinct : AreDistinct (names_of ws)

here_fits : (helping : ℕ → Name) (w : ℕ) (n : Net) → Setting helping w n → (sn sm : Scope) (k : ℕ) (x : Wire) (ws : List Wire)
    → Stands helping w n sn sm k (x ∷ ws) → IsRight (shapes n) sn x.width x.right
    → AreWires (shapes n) sm (joined helping w k (name_of_tag x.name) (tags_read x))
here_fits helping w n s sn sm k x ws a right =
    let declared = a.declared x.name (among_here x.name (names_of ws)) in
    joined_are_wires helping s.names.apart (shapes n) (help_no_memory helping w n s) w s.wide sm k (name_of_tag x.name) (tags_read x) a.help
    (λ i. help_apart_tag helping w n s i x.name declared) (a.later x.name (among_here x.name (names_of ws))) (tag_no_memory helping w n s x.name declared)
    (right_tags w (shapes n) sn sm a.tagged x.width x.right right)

one_on : (helping : ℕ → Name) (w : ℕ) (n : Net) → Setting helping w n → (sn sm : Scope) (k : ℕ) (x : Wire) (ws : List Wire) → Stands helping w n sn sm k (x ∷ ws)
    → AreWires (shapes n) sm (joined helping w k (name_of_tag x.name) (tags_read x))
    → Stands helping w n ((x.name, x.width) ∷ sn) (readable_after sm (joined helping w k (name_of_tag x.name) (tags_read x))) (k + help_for (tags_read x)) ws
one_on helping w n s sn sm k x ws a fits =
    let c = help_for (tags_read x) in
    let t = name_of_tag x.name in
    let here = joined helping w k t (tags_read x) in
    let names = joined_names helping w k t (tags_read x) in
    let declared = a.declared x.name (among_here x.name (names_of ws)) in
    let kept = readable_kept (shapes n) here sm fits in
    let new : find (readable_after sm here) t ≡ Some w =
    readable_new (shapes n) w here sm fits (joined_wide helping w k t (tags_read x)) t
    (ap (is_among t) names ∙ among_append t (some_names helping k c) (t ∷ []) ∙ or_right (is_among t (some_names helping k c)) _ (among_here t [])) in
    let past = λ (z : Name) (m : is_among z (names_of ws) ≡ true). or_right (bytes_eq z x.name) (is_among z (names_of ws)) m in
    let others = λ (y : Name) (p : is_among y (some_names helping k c) ≡ false) (q : bytes_eq y t ≡ false).
    readable_other here sm y (ap (is_among y) names ∙ among_neither y (some_names helping k c) (t ∷ []) p (rw q refl)) in
    record {
      tagged = record {
        value = λ y u h. elim (cases_Bool (bytes_eq x.name y)) [
          | inl e ↦ subst (λ (z : Name). find (readable_after sm here) (name_of_tag z) ≡ Some w) (equal_of_bytes_eq x.name y e) new
          | inr f ↦ kept (name_of_tag y) w (a.tagged.value y u (rw f at h))
        ];
        memory = λ y q h. kept (name_of_tag y) w (a.tagged.memory y q h);
      };
      help = λ i h. others (helping i) (other_number helping s.names.apart k c i (inr h)) (help_apart_tag helping w n s i x.name declared) ∙ a.help i (omega arith);
      later = λ z m.
          let dz = a.declared z (past z m) in
          let apart : bytes_eq z x.name ≡ false = bytes_eq_apart_back x.name z (apart_by_membership x.name z (names_of ws) a.distinct.0 m) in
          others (name_of_tag z) (not_helping helping k c (name_of_tag z) (λ i. help_apart_tag helping w n s i z dz)) (tags_apart helping w n s z x.name dz declared apart)
          ∙ a.later z (past z m);
      declared = λ z m. a.declared z (past z m);
      distinct = a.distinct.1;
    }

pub tag_wires_fit : (helping : ℕ → Name) (w : ℕ) (n : Net) → Setting helping w n → (ws : List Wire) (sn sm : Scope) (k : ℕ)
    → Stands helping w n sn sm k ws → AreWires (shapes n) sn ws
    → AreWires (shapes n) sm (tag_wires helping w k ws)
tag_wires_fit helping w n s [] sn sm k a rules = tt
tag_wires_fit helping w n s (x ∷ ws) sn sm k a rules =
    let here = joined helping w k (name_of_tag x.name) (tags_read x) in
    let fits = here_fits helping w n s sn sm k x ws a rules.3 in
    wires_both (shapes n) here (tag_wires helping w (k + help_for (tags_read x)) ws) sm fits
    (tag_wires_fit helping w n s ws ((x.name, x.width) ∷ sn) (readable_after sm here) (k + help_for (tags_read x)) (one_on helping w n s sn sm k x ws a fits) rules.4)
