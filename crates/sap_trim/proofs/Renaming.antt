-- A walk over wires that differ and fold no further only renames what they read.
use Rattle.sap_lemmas.proofs.Common.{◌≡◌, ℕ, List, [], ◌∷◌, ◌++◌, Some, None, Bool, true, false, sym, ap, ◌∙◌, subst, refl, inl, inr, if◌then◌else◌, bytes_eq, AllByRecursion, cases_Bool, all_append, all_follow, equal_of_bytes_eq}
use Rattle.sap_maps.specs.Prelude.{Name, Scope, find}
use Rattle.sap_maps.proofs.Scopes.{apart, found_behind}
use Rattle.sap_net.specs.Prelude.{Net, is_among, first_readable, shapes, IsNetlist, Shapes, IsOperand, IsRight, AreWires, readable_after, Puts}
use Rattle.sap_net.specs.declared.parts.Operand.{Operand}
use Rattle.sap_net.specs.declared.parts.Operand.TheVariants.{Named}
use Rattle.sap_net.specs.declared.parts.Right.{Right}
use Rattle.sap_net.specs.declared.parts.Right.TheVariants.{Copy, One, Two, Choose, Concat, Slice, Cell}
use Rattle.sap_net.specs.declared.parts.Wire.{Wire}
use Rattle.sap_net.proofs.RulesLemmas.{Grows}
use Rattle.sap_share.specs.Differing.{DiffersFrom, AllDiffer}
use Rattle.sap_share.specs.Keys.{key}
use Rattle.sap_share.specs.Rights.{rights}
use Rattle.sap_share.proofs.Decoding.{key_is}
use Rattle.sap_fold.specs.Folding.{settled}
use Rattle.sap_fold.specs.Gives.{TakenApart}
use Rattle.sap_fold.specs.Settled.{IsSettled, is_copy}
use Rattle.sap_fold.specs.Wires.{Adds, AddsNew, Provides}
use Rattle.sap_fold.proofs.Provided.{wires_first}
use Rattle.sap_fold.proofs.Sees.{right_grows}
use Rattle.sap_fold.proofs.Settling.{settled_itself}
use Rattle.sap_trim.specs.Folded.{IsFolded}
use Rattle.sap_trim.specs.Names.{port_names, lasting_names}
use Rattle.sap_trim.specs.Needed.{is_needed, needed, needed_wires}
use Rattle.sap_trim.specs.Reads.{edge_reads}
use Rattle.sap_trim.specs.Replaced.{Stands, replaced}
use Rattle.sap_trim.specs.Walked.{State, Begins, StandForThemselves, Steps, Settles, Walked}
use Rattle.sap_trim.proofs.Follows.{Follows, begins_follow, first_itself, follows_step, settles_fold, taken_apart}
use Rattle.sap_trim.proofs.Read.{Copies, bound_other}
use Rattle.sap_trim.proofs.Renamed.{Renames, AgreeIn, calculated_renamed, folded_renamed, replaced_agrees, replaced_apart}

-- A new wire is an old one with its names replaced, and that one differs from the wires to come.
record Origin (ms : Shapes) (so : Scope) (e : Stands) (ahead : List Wire) (h : Wire) : Type 0 where
  old : Wire
  width : old.width ≡ h.width
  right : replaced e old.right ≡ h.right
  fits : IsRight ms so old.width old.right
  differs : DiffersFrom old ahead

-- What holds along the walk.
record Renaming (taken : Name → Bool) (ms : Shapes) (so sc : Scope) (ahead : List Wire) (s : State) : Type 0 where
  follows : Follows taken ms so sc s
  renames : Renames so s.stands
  origins : AllByRecursion (Origin ms so s.stands ahead) s.wires

provides_adds : (taken : Name → Bool) (ws : List Wire) (next u : ℕ) (r : Right) (o : Operand) (after : List Wire) (na : ℕ)
    → is_copy r ≡ false → Provides taken ws next u r o after na → (x : Name) × (o ≡ Named x) × Adds taken ws next u r x after na
provides_adds taken ws next u (Copy p) o after na h a = absurd (cc)
provides_adds taken ws next u (One op p) o after na h a = a
provides_adds taken ws next u (Two op p q) o after na h a = a
provides_adds taken ws next u (Choose c p q) o after na h a = a
provides_adds taken ws next u (Concat os) o after na h a = a
provides_adds taken ws next u (Slice x hi lo) o after na h a = a
provides_adds taken ws next u (Cell m i) o after na h a = a

-- no new wire has the right side that comes next
none_there : (ms : Shapes) (so : Scope) (e : Stands) (w : Wire) (ahead ws : List Wire) (n : Name) → Renames so e
    → IsRight ms so w.width w.right → AllByRecursion (Origin ms so e (w ∷ ahead)) ws → find (rights ws) (key w.width (replaced e w.right)) ≡ Some n → ⊥
none_there ms so e w ahead [] n r i a h = absurd (cc)
none_there ms so e w ahead (x ∷ ws) n r i a h =
    elim (cases_Bool (bytes_eq (key x.width x.right) (key w.width (replaced e w.right)))) [
      | inl t ↦
          let o = a.0 in
          let k = key_is x.width w.width x.right (replaced e w.right) (equal_of_bytes_eq (key x.width x.right) (key w.width (replaced e w.right)) t) in
          let same : o.old.right ≡ w.right = replaced_apart so e r ms o.old.width w.width o.old.right w.right o.fits i (o.right ∙ k.1) in
          o.differs.0 (sym (o.width ∙ k.0)) (sym same)
      | inr f ↦ none_there ms so e w ahead ws n r i a.1 (rw f at h)
    ]

-- a step
record Stepped (taken : Name → Bool) (ms : Shapes) (so sc : Scope) (w : Wire) (ahead : List Wire) (s t : State) : Type 0 where
  copies : Copies taken s w t
  renaming : Renaming taken ms ((w.name, w.width) ∷ so) sc ahead t

new_name : (taken : Name → Bool) (ms : Shapes) (sc : Scope) (ws : List Wire) (next u : ℕ) (r : Right) (n : Name) (after : List Wire) (na : ℕ)
    → AddsNew taken ws next u r n after na → AreWires ms sc after → find (readable_after sc ws) n ≡ None
new_name taken ms sc ws next u r n after na a f =
    (wires_first ms ws (record { name = n; width = u; right = r } ∷ []) sc (subst (AreWires ms sc) a.wires f)).1.1

-- one more name that stands for a new one
renames_more : (so sn : Scope) (e f : Stands) (x n : Name) (u : ℕ) → Renames so e
    → ((y : Name) (t : ℕ) → find so y ≡ Some t → (o : Operand) × (e y ≡ Some o) × IsOperand sn t o) → find sn n ≡ None → Puts e x (Named n) f → Renames ((x, u) ∷ so) f
renames_more so sn e f x n u r finds new b =
    let here : (y : Name) → bytes_eq x y ≡ true → f y ≡ Some (Named n) = λ y t. b y ∙ rw t refl in
    let before : (y : Name) → bytes_eq x y ≡ false → f y ≡ e y = λ y t. b y ∙ rw t refl in
    let fresh : (y z : Name) (t : ℕ) → find so y ≡ Some t → e y ≡ Some (Named z) → Some (Named n) ≡ Some (Named z) → ⊥ = λ y z t h i j.
    let g = finds y t h in
    let k : Some g.0 ≡ Some (Named z) = sym g.1 ∙ i in
    let l : g.0 ≡ Named z = cc in
    let m : n ≡ z = cc in
    let found : find sn z ≡ Some t = subst (λ (o : Operand). IsOperand sn t o) l g.2 in
    let gone : find sn z ≡ None = subst (λ (a : Name). find sn a ≡ None) m new in
    let bad : Some t ≡ None = sym found ∙ gone in
    absurd (cc) in
    record {
      named = λ y t h.
          elim (cases_Bool (bytes_eq x y)) [
            | inl q ↦ (n, here y q)
            | inr q ↦ let g = r.named y t (rw q at h) in (g.0, before y q ∙ g.1)
          ];
      apart = λ y z t k m h g i j.
          elim (cases_Bool (bytes_eq x y)) [
            | inl p ↦
                elim (cases_Bool (bytes_eq x z)) [
                  | inl q ↦ sym (equal_of_bytes_eq x y p) ∙ equal_of_bytes_eq x z q
                  | inr q ↦ absurd (fresh z m k (rw q at g) (sym (before z q) ∙ j) (sym (here y p) ∙ i))
                ]
            | inr p ↦
                elim (cases_Bool (bytes_eq x z)) [
                  | inl q ↦ absurd (fresh y m t (rw p at h) (sym (before y p) ∙ i) (sym (here z q) ∙ j))
                  | inr q ↦ r.apart y z t k m (rw p at h) (rw q at g) (sym (before y p) ∙ i) (sym (before z q) ∙ j)
                ]
          ];
    }

origin_more : (ms : Shapes) (so sd : Scope) (e f : Stands) (w : Wire) (ahead : List Wire) → Grows so sd → AgreeIn so e f → (h : Wire)
    → Origin ms so e (w ∷ ahead) h → Origin ms sd f ahead h
origin_more ms so sd e f w ahead g a h o =
    record {
      old = o.old;
      width = o.width;
      right = replaced_agrees so e f a ms o.old.width o.old.right o.fits ∙ o.right;
      fits = right_grows ms so sd g o.old.width o.old.right o.fits;
      differs = o.differs.1;
    }

step_renames : (taken : Name → Bool) (ms : Shapes) (so sc : Scope) (w : Wire) (ahead : List Wire) (s t : State) → TakenApart taken ms sc
    → Renaming taken ms so sc (w ∷ ahead) s → AreWires ms so (w ∷ ahead) → IsSettled w → is_copy w.right ≡ false → DiffersFrom w ahead
    → Settles taken s w t → Stepped taken ms so sc w ahead s t
step_renames taken ms so sc w ahead s t free k a z calculated differs step =
    let e = s.stands in
    let rr = replaced e w.right in
    let stays : settled w.width rr ≡ rr = settled_itself w.width rr (folded_renamed so e k.renames ms w.width w.width w.right a.3 z) in
    let c : Copies taken s w t = subst (λ (r : Right). Steps taken s w.name w.width r t) stays step in
    let adds = provides_adds taken s.wires s.next w.width rr c.operand t.wires t.next (calculated_renamed so e k.renames ms w.width w.right a.3 calculated) c.provides in
    let n = adds.0 in
    let new : AddsNew taken s.wires s.next w.width rr n t.wires t.next = elim (adds.2) [
      | inl there ↦ absurd (none_there ms so e w ahead s.wires n k.renames a.3 k.origins there.found)
      | inr q ↦ q
    ] in
    let sd = (w.name, w.width) ∷ so in
    let follows = follows_step taken ms so sc s t w free k.follows a.0 a.3 (settles_fold taken s t w step) in
    let fresh = new_name taken ms sc s.wires s.next w.width rr n t.wires t.next new follows.fits in
    let binds : Puts e w.name (Named n) t.stands = subst (λ (o : Operand). Puts e w.name o t.stands) adds.1 c.binds in
    let grows : Grows so sd = found_behind so w.name w.width a.1 in
    let agree : AgreeIn so e t.stands = λ x u h. bound_other e t.stands w.name c.operand c.binds x (apart so w.name x u a.1 h) in
    let x : Wire = record { name = n; width = w.width; right = rr } in
    let last : Origin ms sd t.stands ahead x = record {
      old = w;
      width = refl;
      right = replaced_agrees so e t.stands agree ms w.width w.right a.3;
      fits = right_grows ms so sd grows w.width w.right a.3;
      differs = differs;
    } in
    record {
      copies = c;
      renaming = record {
        follows = follows;
        renames = renames_more so (readable_after sc s.wires) e t.stands w.name n w.width k.renames k.follows.finds fresh binds;
        origins = subst (AllByRecursion (Origin ms sd t.stands ahead)) (sym new.wires)
            (all_append (Origin ms sd t.stands ahead) s.wires (x ∷ [])
            (all_follow (Origin ms so e (w ∷ ahead)) (Origin ms sd t.stands ahead) s.wires (origin_more ms so sd e t.stands w ahead grows agree) k.origins) (last, tt));
      };
    }

-- copies are only replaced

copy_settled : (e : Stands) (u : ℕ) (r : Right) → is_copy r ≡ true → settled u (replaced e r) ≡ replaced e r
copy_settled e u (Copy a) h = refl
copy_settled e u _ h = absurd (cc)

copies_copy : (taken : Name → Bool) (ws : List Wire) (s t : State) → AllByRecursion (λ w. is_copy w.right ≡ true) ws → Walked (Settles taken) s ws t → Walked (Copies taken) s ws t
copies_copy taken [] s t a k = k
copies_copy taken (w ∷ ws) s t a k =
    (k.0, subst (λ (r : Right). Steps taken s w.name w.width r k.0) (copy_settled s.stands w.width w.right a.0) k.1, copies_copy taken ws k.0 t a.1 k.2)

walk_copies : (taken : Name → Bool) (ms : Shapes) (sc : Scope) (ws cs : List Wire) (so : Scope) (s t : State) → TakenApart taken ms sc
    → Renaming taken ms so sc ws s → AreWires ms so (ws ++ cs) → AllByRecursion IsSettled ws
    → AllByRecursion (λ w. is_copy w.right ≡ false) ws → AllDiffer ws → AllByRecursion (λ w. is_copy w.right ≡ true) cs
    → Walked (Settles taken) s (ws ++ cs) t → Walked (Copies taken) s (ws ++ cs) t
walk_copies taken ms sc [] cs so s t free r a z c d b k = copies_copy taken cs s t b k
walk_copies taken ms sc (w ∷ ws) cs so s t free r a z c d b k =
    let first : AreWires ms so (w ∷ ws) = (wires_first ms (w ∷ ws) cs so a).0 in
    let p = step_renames taken ms so sc w ws s k.0 free r first z.0 c.0 d.0 k.1 in
    (k.0, p.copies, walk_copies taken ms sc ws cs ((w.name, w.width) ∷ so) k.0 t free p.renaming a.4 z.1 c.1 d.1 b k.2)

-- the needed ones of two lists

abbrev kept_first : (P E : List Name) (ws cs : List Wire) → List Wire
kept_first P E [] cs = []
kept_first P E (w ∷ ws) cs =
    if is_needed P E w (needed P E (ws ++ cs)) then w ∷ kept_first P E ws cs else kept_first P E ws cs

needed_parts : (P E : List Name) (ws cs : List Wire) → needed P E (ws ++ cs) ≡ kept_first P E ws cs ++ needed P E cs
needed_parts P E [] cs = refl
needed_parts P E (w ∷ ws) cs =
    elim (cases_Bool (is_needed P E w (needed P E (ws ++ cs)))) [
      | inl t ↦ rw t (ap (λ (xs : List Wire). w ∷ xs) (needed_parts P E ws cs))
      | inr f ↦ rw f (needed_parts P E ws cs)
    ]

first_all : (Q : Wire → Type 0) (P E : List Name) (ws cs : List Wire) → AllByRecursion Q ws → AllByRecursion Q (kept_first P E ws cs)
first_all Q P E [] cs a = tt
first_all Q P E (w ∷ ws) cs a =
    elim (cases_Bool (is_needed P E w (needed P E (ws ++ cs)))) [
      | inl t ↦ rw t (a.0, first_all Q P E ws cs a.1)
      | inr f ↦ rw f (first_all Q P E ws cs a.1)
    ]

first_differ : (P E : List Name) (ws cs : List Wire) → AllDiffer ws → AllDiffer (kept_first P E ws cs)
first_differ P E [] cs a = tt
first_differ P E (w ∷ ws) cs a =
    elim (cases_Bool (is_needed P E w (needed P E (ws ++ cs)))) [
      | inl t ↦ rw t (first_all (λ x. x.width ≡ w.width → x.right ≡ w.right → ⊥) P E ws cs a.0, first_differ P E ws cs a.1)
      | inr f ↦ rw f (first_differ P E ws cs a.1)
    ]

needed_all : (Q : Wire → Type 0) (P E : List Name) (ws : List Wire) → AllByRecursion Q ws → AllByRecursion Q (needed P E ws)
needed_all Q P E [] a = tt
needed_all Q P E (w ∷ ws) a =
    elim (cases_Bool (is_needed P E w (needed P E ws))) [
      | inl t ↦ rw t (a.0, needed_all Q P E ws a.1)
      | inr f ↦ rw f (needed_all Q P E ws a.1)
    ]

-- the beginning

themselves_named : (n : Net) (s : State) → StandForThemselves n s → (x : Name) (u : ℕ) → find (first_readable n) x ≡ Some u → s.stands x ≡ Some (Named x)
themselves_named n s b x u h = b x ∙ first_itself n x u h

first_named : (n : Net) (s : State) → StandForThemselves n s → (x z : Name) (u : ℕ) → find (first_readable n) x ≡ Some u → s.stands x ≡ Some (Named z) → x ≡ z
first_named n s b x z u h i =
    let e : Some (Named x) ≡ Some (Named z) = sym (themselves_named n s b x u h) ∙ i in
    cc

begins_renaming : (taken : Name → Bool) (n : Net) (ahead : List Wire) (s : State) → IsNetlist n → Begins n s → StandForThemselves n s
    → Renaming taken (shapes n) (first_readable n) (first_readable n) ahead s
begins_renaming taken n ahead s rules b i =
    let sc = first_readable n in
    record {
      follows = begins_follow taken n rules s b;
      renames = record {
        named = λ x u h. (x, themselves_named n s i x u h);
        apart = λ x y u t z h g p q. first_named n s i x z u h p ∙ sym (first_named n s i y z t g q);
      };
      origins = subst (AllByRecursion (Origin (shapes n) sc s.stands ahead)) (sym b.wires) tt;
    }

pub settles_copy : (n : Net) (taken : Name → Bool) (s t : State) → IsNetlist n → ((x : Name) → taken x ≡ is_among x (lasting_names n))
    → Begins n s → StandForThemselves n s → IsFolded n → AreWires (shapes n) (first_readable n) (needed_wires n)
    → Walked (Settles taken) s (needed_wires n) t → Walked (Copies taken) s (needed_wires n) t
settles_copy n taken s t rules is b i f fits k =
    let ms = shapes n in
    let sc = first_readable n in
    let P = port_names n in
    let E = edge_reads n in
    let ws = kept_first P E f.helping f.copies in
    let cs = needed P E f.copies in
    let parts : needed_wires n ≡ ws ++ cs = ap (needed P E) f.wires ∙ needed_parts P E f.helping f.copies in
    subst (λ (xs : List Wire). Walked (Copies taken) s xs t) (sym parts)
    (walk_copies taken ms sc ws cs sc s t (taken_apart n rules taken is) (begins_renaming taken n ws s rules b i) (subst (AreWires ms sc) parts fits)
    (first_all IsSettled P E f.helping f.copies f.settled) (first_all (λ w. is_copy w.right ≡ false) P E f.helping f.copies f.calculated)
    (first_differ P E f.helping f.copies f.differ)
    (needed_all (λ w. is_copy w.right ≡ true) P E f.copies f.copied) (subst (λ (xs : List Wire). Walked (Settles taken) s xs t) parts k))
