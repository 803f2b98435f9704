-- What holds along a walk: the new wires fit, each old name stands for an operand over them, and has its number.
use Rattle.sap_lemmas.proofs.Common.{◌≡◌, ℕ, ◌^◌, ◌<◌, List, [], ◌∷◌, ◌++◌, map, filter, Option, Some, Bool, true, false, sym, ap, ◌∙◌, subst, refl, inl, inr, arith, append_assoc, append-nil, ◌⊎◌, unwrap_or, bytes_eq, AllByRecursion, cases_Bool, or_parts, all_follow, all_of_map, all_second, bytes_eq_apart_back, equal_of_bytes_eq}
use Rattle.sap_net.proofs.RulesLemmas.{readable_kept, values_found, Grows, operand_grows}
use Rattle.sap_net.proofs.NamesLemmas.{among_behind, among_front, found_among, not_found}
use Rattle.sap_maps.proofs.ScopeLemmas.{found_second}
use Rattle.sap_maps.specs.Prelude.{Name, Valuation, Scope, find, Agree}
use Rattle.sap_net.specs.Prelude.{is_among, Net, Shapes, IsWidth, IsOperand, IsRight, AreWires, IsRegister, readable_after, operand_value, right_value, Holds, input_names, register_names, memory_names, first_readable, readable, shapes, is_input, IsNetlist, Puts, WidthsAre}
use Rattle.sap_net.specs.declared.parts.Port.{Port}
use Rattle.sap_net.specs.declared.parts.Input.{Input}
use Rattle.sap_net.specs.declared.parts.Register.{Register}
use Rattle.sap_net.specs.declared.parts.Memory.{Memory}
use Rattle.sap_net.specs.declared.parts.Operand.{Operand}
use Rattle.sap_net.specs.declared.parts.Operand.TheVariants.{Named, Constant}
use Rattle.sap_net.specs.declared.parts.Wire.{Wire}
use Rattle.sap_net.proofs.Settle.{CellsAgree}
use Rattle.sap_trim.specs.Names.{port_names, lasting_names}
use Rattle.sap_trim.specs.Replaced.{Stands, standing, replaced}
use Rattle.sap_fold.specs.Equals.{Over}
use Rattle.sap_fold.specs.Folding.{settled}
use Rattle.sap_fold.specs.Gives as wires
use Rattle.sap_fold.specs.Gives.{TakenApart, Provided}
use Rattle.sap_trim.specs.Stays.{KeepsStart}
use Rattle.sap_trim.specs.Walked.{State, Begins, SomeRegister, StartsAt, Settles, Folds, Walked, itself, themselves}
use Rattle.sap_fold.proofs.Lists.{none_among}
use Rattle.sap_trim.proofs.Replaced.{Finds, Means, stands_for, replaced_fits, replaced_same}
use Rattle.sap_fold.proofs.Provided.{grows_more, over_first}
use Rattle.sap_fold.proofs.Becoming.{becomes_equal, gives_becoming, gives_provided}
use Rattle.sap_fold.proofs.Settling.{settled_equals}

pub record Follows (taken : Name → Bool) (ms : Shapes) (so sc : Scope) (s : State) : Type 0 where
  pub fits : AreWires ms sc s.wires
  pub named : wires.Numbers taken s.wires s.next
  pub finds : Finds so (readable_after sc s.wires) s.stands

-- what was put in front of a scope stands for an operand, the others as before

finds_more : (so sc sd : Scope) (e f : Stands) (x : Name) (u : ℕ) (o : Operand) → Grows sc sd → Finds so sc e → IsOperand sd u o → Puts e x o f → Finds ((x, u) ∷ so) sd f
finds_more so sc sd e f x u o g h i b y t k =
    elim (cases_Bool (bytes_eq x y)) [
      | inl q ↦
          let r : Some u ≡ Some t = rw q at k in
          let w : u ≡ t = cc in
          let p : f y ≡ Some o = rw q at (b y) in
          (o, p, subst (λ (z : ℕ). IsOperand sd z o) w i)
      | inr d ↦
          let r = h y t (rw d at k) in
          let p : f y ≡ e y = rw d at (b y) in
          (r.0, p ∙ r.1, operand_grows sc sd g t r.0 r.2)
    ]

means_more : (so : Scope) (e f : Stands) (x : Name) (u : ℕ) (o : Operand) (v w : Valuation) → Means so e v w → v.value x ≡ operand_value w o
    → Puts e x o f → Means ((x, u) ∷ so) f v w
means_more so e f x u o v w h i b y t k =
    elim (cases_Bool (bytes_eq x y)) [
      | inl q ↦
          let p : f y ≡ Some o = rw q at (b y) in
          subst (λ (z : Name). v.value z ≡ operand_value w (standing f y)) (equal_of_bytes_eq x y q) (i ∙ sym (ap (operand_value w) (stands_for f y o p)))
      | inr d ↦
          let p : f y ≡ e y = rw d at (b y) in
          h y t (rw d at k) ∙ ap (λ (z : Option Operand). operand_value w (unwrap_or z (Constant 0 0))) (sym p)
    ]

-- a step

step_provided : (taken : Name → Bool) (ms : Shapes) (so sc : Scope) (s t : State) (w : Wire) → TakenApart taken ms sc
    → Follows taken ms so sc s → IsWidth w.width → IsRight ms so w.width w.right → (f : Folds taken s w t) → Provided taken ms sc s.wires w.width f.operand t.wires t.next
step_provided taken ms so sc s t w apart h i r f =
    f.gives.fits ms sc (record { apart = apart; named = h.named; fits = h.fits; wide = i }) (replaced_fits ms so (readable_after sc s.wires) s.stands h.finds w.width w.right r)

pub follows_step : (taken : Name → Bool) (ms : Shapes) (so sc : Scope) (s t : State) (w : Wire) → TakenApart taken ms sc
    → Follows taken ms so sc s → IsWidth w.width → IsRight ms so w.width w.right → Folds taken s w t → Follows taken ms ((w.name, w.width) ∷ so) sc t
follows_step taken ms so sc s t w apart h i r f =
    let p = step_provided taken ms so sc s t w apart h i r f in
    record {
      fits = p.fits;
      named = p.named;
      finds = finds_more so (readable_after sc s.wires) (readable_after sc t.wires) s.stands t.stands w.name w.width f.operand
          (grows_more ms sc s.wires t.wires p.more p.wires p.fits) h.finds p.operand f.binds;
    }

means_step : (taken : Name → Bool) (ms : Shapes) (so sc : Scope) (s t : State) (x : Wire) (wv ww : Name → ℕ) (v w : Valuation)
    → TakenApart taken ms sc → Follows taken ms so sc s → IsWidth x.width → IsRight ms so x.width x.right → Folds taken s x t
    → Means so s.stands v w → WidthsAre so wv → CellsAgree ms v w → Over ms sc t.wires ww w → v.value x.name ≡ right_value wv v x.right
    → Means ((x.name, x.width) ∷ so) t.stands v w
means_step taken ms so sc s t x wv ww v w apart h i r f m a c o e =
    let p = step_provided taken ms so sc s t x apart h i r f in
    let before = over_first ms sc s.wires t.wires p.more ww w p.wires o in
    let sn = readable_after sc s.wires in
    let fits = replaced_fits ms so sn s.stands h.finds x.width x.right r in
    let q : v.value x.name ≡ operand_value w f.operand =
    e ∙ replaced_same ms so sn s.stands wv ww v w h.finds m a before.wide c x.width x.right r
    ∙ f.gives.same ms sc ww w (record { apart = apart; named = h.named; fits = h.fits; wide = i }) fits o in
    means_more so s.stands t.stands x.name x.width f.operand v w m q f.binds

-- all steps

pub record Followed (taken : Name → Bool) (ms : Shapes) (so sc : Scope) (s t : State) : Type 0 where
  pub follows : Follows taken ms so sc t
  pub more : List Wire
  pub wires : t.wires ≡ s.wires ++ more

pub follows_walk : (taken : Name → Bool) (ms : Shapes) (sc : Scope) (ws : List Wire) (so : Scope) (s t : State) → TakenApart taken ms sc
    → Follows taken ms so sc s → AreWires ms so ws → Walked (Folds taken) s ws t → Followed taken ms (readable_after so ws) sc s t
follows_walk taken ms sc [] so s t apart h a e =
    record {
      follows = subst (λ (z : State). Follows taken ms so sc z) e h;
      more = [];
      wires = sym (ap (λ (z : State). z.wires) e) ∙ sym (append-nil s.wires);
    }
follows_walk taken ms sc (w ∷ ws) so s t apart h a k =
    let p = step_provided taken ms so sc s k.0 w apart h a.0 a.3 k.1 in
    let n = follows_step taken ms so sc s k.0 w apart h a.0 a.3 k.1 in
    let r = follows_walk taken ms sc ws ((w.name, w.width) ∷ so) k.0 t apart n a.4 k.2 in
    record {
      follows = r.follows;
      more = p.more ++ r.more;
      wires = r.wires ∙ ap (λ (ys : List Wire). ys ++ r.more) p.wires ∙ append_assoc s.wires p.more r.more;
    }

pub means_walk : (taken : Name → Bool) (ms : Shapes) (sc : Scope) (wv ww : Name → ℕ) (v w : Valuation) (ws : List Wire) (so : Scope)
    (s t : State) → TakenApart taken ms sc → Follows taken ms so sc s → Means so s.stands v w → AreWires ms so ws
    → WidthsAre (readable_after so ws) wv → CellsAgree ms v w → Over ms sc t.wires ww w → Holds wv v ws → Walked (Folds taken) s ws t → Means (readable_after so ws) t.stands v w
means_walk taken ms sc wv ww v w [] so s t apart h m a b c o e k = subst (λ (z : State). Means so z.stands v w) k m
means_walk taken ms sc wv ww v w (x ∷ ws) so s t apart h m a b c o e k =
    let n = follows_step taken ms so sc s k.0 x apart h a.0 a.3 k.1 in
    let sd = (x.name, x.width) ∷ so in
    let r = follows_walk taken ms sc ws sd k.0 t apart n a.4 k.2 in
    let before = over_first ms sc k.0.wires t.wires r.more ww w r.wires o in
    let wide : WidthsAre so wv = λ y u g. b y u (readable_kept ms (x ∷ ws) so a y u g) in
    let next = means_step taken ms so sc s k.0 x wv ww v w apart h a.0 a.3 k.1 m wide c before e.0 in
    means_walk taken ms sc wv ww v w ws sd k.0 t apart n next a.4 b c o e.1 k.2

-- a wire that is replaced and settled

pub settles_fold : (taken : Name → Bool) (s t : State) (w : Wire) → Settles taken s w t → Folds taken s w t
settles_fold taken s t w c =
    let r = replaced s.stands w.right in
    let f = settled w.width r in
    record {
      operand = c.operand;
      gives = gives_becoming taken s.wires s.next w.width r f c.operand s.wires s.next t.wires t.next
          (becomes_equal taken s.wires s.next w.width r f (settled_equals s.wires w.width r))
          (gives_provided taken s.wires s.next w.width f c.operand t.wires t.next c.provides);
      binds = c.binds;
    }

pub settles_walk : (taken : Name → Bool) (ws : List Wire) (s t : State) → Walked (Settles taken) s ws t → Walked (Folds taken) s ws t
settles_walk taken [] s t k = k
settles_walk taken (w ∷ ws) s t k = (k.0, settles_fold taken s k.0 w k.1, settles_walk taken ws k.0 t k.2)

-- the beginning

among_kept : (f : Port → Bool) (ps : List Port) (x : Name) → is_among x (map (λ p. p.name) ps) ≡ false → is_among x (map (λ p. p.name) (filter f ps)) ≡ false
among_kept f [] x h = refl
among_kept f (p ∷ ps) x h =
    let r = or_parts (bytes_eq x p.name) (is_among x (map (λ p. p.name) ps)) h in
    let q = r.0 in
    elim (cases_Bool (f p)) [
      | inl t ↦ rw (t, q) (among_kept f ps x r.1)
      | inr e ↦ rw e (among_kept f ps x r.1)
    ]

pub taken_apart : (n : Net) → IsNetlist n → (taken : Name → Bool) → ((x : Name) → taken x ≡ is_among x (lasting_names n)) → TakenApart taken (shapes n) (first_readable n)
taken_apart n rules taken is x h =
    let all = none_among x (port_names n) (register_names n ++ memory_names n) (sym (is x) ∙ h) in
    let rest = none_among x (register_names n) (memory_names n) all.1 in
    let inputs : is_among x (input_names n) ≡ false =
    subst (λ (ns : List Name). is_among x ns ≡ false) rules.inputs_are_ports (among_kept (λ p. is_input p.kind) n.ports x all.0) in (
      found_second (map (λ i. (i.name, i.width)) n.inputs) (map (λ r. (r.name, r.width)) n.registers) x
          (not_found (λ (i : Input). i.name) (λ i. i.width) n.inputs x inputs) ∙ not_found (λ (r : Register). r.name) (λ r. r.width) n.registers x rest.0,
      not_found {X = ℕ × ℕ} (λ (m : Memory). m.name) (λ m. (m.width, m.depth)) n.memories x rest.1,
    )

first_among : (n : Net) (x : Name) (u : ℕ) → find (first_readable n) x ≡ Some u → is_among x (input_names n ++ register_names n) ≡ true
first_among n x u h =
    elim (cases_Bool (is_among x (input_names n))) [
      | inl t ↦ among_front x (input_names n) (register_names n) t
      | inr f ↦
          let g = found_second (map (λ i. (i.name, i.width)) n.inputs) (map (λ r. (r.name, r.width)) n.registers) x
          (not_found (λ (i : Input). i.name) (λ i. i.width) n.inputs x f) in
          among_behind x (input_names n) (register_names n) (found_among (λ (r : Register). r.name) (λ r. r.width) n.registers x u (sym g ∙ h))
    ]

named : (ns : List Name) (x : Name) → is_among x ns ≡ true → find (map itself ns) x ≡ Some (Named x)
named [] x h = absurd (cc)
named (n ∷ ns) x h =
    elim (cases_Bool (bytes_eq n x)) [
      | inl t ↦ rw t (ap (λ (y : Name). Some (Named y)) (equal_of_bytes_eq n x t))
      | inr f ↦ rw f (named ns x (rw (bytes_eq_apart_back n x f) at h))
    ]

-- at first they stand for themselves
pub first_itself : (n : Net) (x : Name) (u : ℕ) → find (first_readable n) x ≡ Some u → find (themselves n) x ≡ Some (Named x)
first_itself n x u h = named (input_names n ++ register_names n) x (first_among n x u h)

-- registers that keep their starts have them
abbrev pub SettledIn : List Wire → List Register → Valuation → Type 0
SettledIn ws rs v = AllByRecursion (λ r. KeepsStart ws r → v.value r.name ≡ r.start) rs

abbrev HasStart : List Wire → List Register → Register → Type 0
HasStart ws rs r = (v : Valuation) → SettledIn ws rs v → KeepsStart ws r → v.value r.name ≡ r.start

each_settled : (ws : List Wire) (rs : List Register) → AllByRecursion (HasStart ws rs) rs
each_settled ws [] = tt
each_settled ws (r ∷ rs) = (
  λ v h. h.0,
  all_follow (HasStart ws rs) (HasStart ws (r ∷ rs)) rs (λ s h v k. h v k.1) (each_settled ws rs),
)

some_elim : (P : Register → Type 0) (G : Type 0) (rs : List Register) → AllByRecursion (λ r. P r → G) rs → SomeRegister P rs → G
some_elim P G [] a h = absurd h
some_elim P G (r ∷ rs) a (inl h) = a.0 h
some_elim P G (r ∷ rs) a (inr h) = some_elim P G rs a.1 h

registers_found : (n : Net) → IsNetlist n → AllByRecursion (λ r. find (first_readable n) r.name ≡ Some r.width) n.registers
registers_found n rules =
    all_of_map (λ (e : Name × ℕ). find (first_readable n) e.0 ≡ Some e.1) (λ (r : Register). (r.name, r.width)) n.registers
    (all_second {X = Name × ℕ} (λ (e : Name × ℕ). find (first_readable n) e.0 ≡ Some e.1)
    (map {B = Name × ℕ} (λ i. (i.name, i.width)) n.inputs) (map {B = Name × ℕ} (λ r. (r.name, r.width)) n.registers) (values_found (shapes n) (first_readable n) rules.values))

-- What a name stands for at first: itself, or a number that it always has.
record IsStart (n : Net) (x : Name) (u : ℕ) (o : Operand) : Type 0 where
  number : ℕ
  is : o ≡ Constant u number
  below : number < 2 ^ u
  kept : (v : Valuation) → SettledIn n.wires n.registers v → v.value x ≡ number

abbrev Begun : Net → Name → ℕ → Operand → Type 0
Begun n x u o = (o ≡ Named x) ⊎ IsStart n x u o

record IsKept (n : Net) (r : Register) : Type 0 where
  found : find (first_readable n) r.name ≡ Some r.width
  below : r.start < 2 ^ r.width
  kept : HasStart n.wires n.registers r

each_kept : (n : Net) (so : Scope) (rs : List Register) → AllByRecursion (λ r. find (first_readable n) r.name ≡ Some r.width) rs
    → AllByRecursion (IsRegister so) rs → AllByRecursion (HasStart n.wires n.registers) rs → AllByRecursion (IsKept n) rs
each_kept n so [] a b c = tt
each_kept n so (r ∷ rs) a b c = (record { found = a.0; below = b.0.0; kept = c.0 }, each_kept n so rs a.1 b.1 c.1)

begun_start : (n : Net) (x : Name) (u : ℕ) (p : Option Operand) (r : Register) → find (first_readable n) x ≡ Some u → IsKept n r
    → StartsAt n.wires x p r → (o : Operand) × (p ≡ Some o) × Begun n x u o
begun_start n x u p r h k s =
    let f : find (first_readable n) x ≡ Some r.width = subst (λ (y : Name). find (first_readable n) y ≡ Some r.width) s.1 k.found in
    let g : Some r.width ≡ Some u = sym f ∙ h in
    let w : r.width ≡ u = cc in (
      Constant r.width r.start,
      s.2,
      inr (
          record {
            number = r.start;
            is = ap (λ (z : ℕ). Constant z r.start) w;
            below = subst (λ (z : ℕ). r.start < 2 ^ z) w k.below;
            kept = λ v t. ap v.value (sym s.1) ∙ k.kept v t s.0;
          }
          ),
    )

begins_at : (n : Net) → IsNetlist n → (s : State) → Begins n s → (x : Name) (u : ℕ) → find (first_readable n) x ≡ Some u → (o : Operand) × (s.stands x ≡ Some o) × Begun n x u o
begins_at n rules s b x u h =
    let kept = each_kept n (readable n) n.registers (registers_found n rules) rules.nexts (each_settled n.wires n.registers) in
    elim (b.stands x) [
      | inl e ↦ let f : s.stands x ≡ Some (Named x) = e ∙ first_itself n x u h in (Named x, f, inl refl)
      | inr q ↦
          some_elim (StartsAt n.wires x (s.stands x)) ((o : Operand) × (s.stands x ≡ Some o) × Begun n x u o) n.registers
          (all_follow (IsKept n) (λ r. StartsAt n.wires x (s.stands x) r → (o : Operand) × (s.stands x ≡ Some o)
          × Begun n x u o) n.registers (λ r k. begun_start n x u (s.stands x) r h k) kept) q
    ]

begun_fits : (n : Net) (sc : Scope) (x : Name) (u : ℕ) (o : Operand) → find sc x ≡ Some u → Begun n x u o → IsOperand sc u o
begun_fits n sc x u o h (inl e) = subst (λ (p : Operand). IsOperand sc u p) (sym e) h
begun_fits n sc x u o h (inr k) = subst (λ (p : Operand). IsOperand sc u p) (sym k.is) (refl, k.below)

begun_same : (n : Net) (v w : Valuation) (x : Name) (u : ℕ) (o : Operand) → v.value x ≡ w.value x → SettledIn n.wires n.registers v → Begun n x u o → v.value x ≡ operand_value w o
begun_same n v w x u o h t (inl e) = h ∙ sym (ap (operand_value w) e)
begun_same n v w x u o h t (inr k) = k.kept v t ∙ sym (ap (operand_value w) k.is)

pub begins_follow : (taken : Name → Bool) (n : Net) → IsNetlist n → (s : State) → Begins n s → Follows taken (shapes n) (first_readable n) (first_readable n) s
begins_follow taken n rules s b =
    record {
      fits = subst (AreWires (shapes n) (first_readable n)) (sym b.wires) tt;
      named = record {
        small = subst (λ (k : ℕ). k < 2 ^ 64) (sym b.next) (omega arith);
        each = subst (λ (ws : List Wire). wires.Each taken ws s.next) (sym b.wires) tt;
      };
      finds = λ x u h.
          let a = begins_at n rules s b x u h in
          let found = subst (λ (ws : List Wire). find (readable_after (first_readable n) ws) x ≡ Some u) (sym b.wires) h in
          (a.0, a.1, begun_fits n (readable_after (first_readable n) s.wires) x u a.0 found a.2);
    }

pub begins_mean : (n : Net) → IsNetlist n → (s : State) (v w : Valuation) → Begins n s → Agree (first_readable n) v w
    → SettledIn n.wires n.registers v → Means (first_readable n) s.stands v w
begins_mean n rules s v w b a t x u h =
    let k = begins_at n rules s b x u h in
    begun_same n v w x u k.0 (a x u h) t k.2 ∙ sym (ap (operand_value w) (stands_for s.stands x k.0 k.1))

-- from cycle to cycle

pub settled_first : (ws : List Wire) (v : Valuation) (rs : List Register) → AllByRecursion (λ r. v.value r.name ≡ r.start) rs → SettledIn ws rs v
settled_first ws v rs a = all_follow (λ r. v.value r.name ≡ r.start) (λ r. KeepsStart ws r → v.value r.name ≡ r.start) rs (λ r h t. h) a

pub settled_next : (ws : List Wire) (widths : Name → ℕ) (p v : Valuation) (rs : List Register) → Holds widths p ws → SettledIn ws rs p
    → AllByRecursion (λ r. v.value r.name ≡ operand_value p r.next) rs → SettledIn ws rs v
settled_next ws widths p v [] h s a = tt
settled_next ws widths p v (r ∷ rs) h s a = (λ t. a.0 ∙ t widths p h (s.0 t), settled_next ws widths p v rs h s.1 a.1)
