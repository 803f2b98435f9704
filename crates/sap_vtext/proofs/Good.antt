-- What a file without a fault has, item by item.
use Rattle.sap_lemmas.proofs.Common.{◌≡◌, ℕ, ◌+◌, ◌^◌, ◌<◌, ◌≤◌, List, [], ◌∷◌, ◌++◌, true, false, cond, Some, None, refl, sym, ap, ◌∙◌, subst, inl, inr, arith, append_assoc, map, is_some, AllByRecursion, bytes_eq, or_parts, append-nil}
use Rattle.sap_net.specs.Names.{is_among, AreDistinct}
use Rattle.sap_vtext.specs.Items.{Mention, Operand, Item, Port, File}
use Rattle.sap_vtext.specs.Items as item
use Rattle.sap_text.specs.Best.{StandsIn}
use Rattle.sap_vtext.specs.Names.{Shape, memory, wire, Declaration, declarations, shape_in, Above, IsItemOf, shape_above, Setting, assign, Target, target_of, is_set, has_integer, known_above}
use Rattle.sap_vtext.specs.Widths.{shape_width, constant_fits, operand_width, parts_width, pairs, Differ}
use Rattle.sap_vtext.specs.Faults.{Use, as_value, uses, suits, constants, ranges, indexes, HasIndex, needs, V3, V4, V5, V6, V7, IsFaultless}
use Rattle.sap_vtext.specs.Faults as fault

pub record IsGoodUse (a : Above) (u : Use) : Type 0 where
  pub shape : Shape
  pub declared : shape_above a u.name.name ≡ Some shape
  pub suits : suits u.manner shape ≡ true
  pub assigned : (width : ℕ) → u.manner ≡ as_value → shape ≡ wire width → is_set assign u.name.name a.items ≡ true

abbrev pub IsGoodIndex : Above → Mention × Operand → Type 0
IsGoodIndex a p = (width b u : ℕ) → shape_above a (p.0).name ≡ Some (memory width (2 ^ b)) → operand_width (known_above a) p.1 ≡ Some u → u ≡ b

-- what some kinds of items have besides
abbrev pub IsFit : Above → Item → Type 0
IsFit a (item.memory range x last) = HasIndex (last.value + 1)
IsFit a (item.integer place) = has_integer a.items ≡ false
IsFit a (item.assign x (item.concat parts)) = (width : ℕ) → parts_width (known_above a) parts ≡ Some width → width ≤ 64
IsFit a (item.assign x (item.slice y high low)) = (shape : Shape) → shape_above a y.name ≡ Some shape → (low ≤ high) × (high < shape_width shape)
IsFit a (item.initial_cells place bound x value) =
    (has_integer a.items ≡ true) × ((width depth : ℕ) → shape_above a x.name ≡ Some (memory width depth) → bound.value ≡ depth)
IsFit a _ = Unit {0}

pub record IsGoodItem (a : Above) (x : Item) : Type 0 where
  pub fresh : (t : Target) → target_of x ≡ Some t → is_set t.setting t.name.name a.items ≡ false
  pub uses : AllByRecursion (IsGoodUse a) (uses x)
  pub ranges : AllByRecursion (λ n. n.value ≤ 63) (ranges x)
  pub constants : AllByRecursion (λ c. constant_fits c ≡ true) (constants x)
  pub pairs : AllByRecursion (λ p. Differ p → ⊥) (pairs (known_above a) x)
  pub indexes : AllByRecursion (IsGoodIndex a) (indexes x)
  pub fit : IsFit a x

-- the ports, and the items so far
abbrev pub above_of : List Port → List Item → Above
above_of ps xs = record { ports = ps; items = xs }

-- each item, behind those before it
abbrev pub AreGood : List Port → List Item → List Item → Type 0
AreGood ps before [] = Unit {0}
AreGood ps before (x ∷ xs) = IsGoodItem (above_of ps before) x × AreGood ps (before ++ (x ∷ [])) xs

abbrev pub IsSet : List Item → Declaration → Type 0
IsSet xs d = (s : Setting) → needs d.shape s ≡ true → is_set s d.name.name xs ≡ true

pub record IsGood (f : File) : Type 0 where
  pub names : AreDistinct (map (λ d. d.name.name) (declarations f.ports f.items))
  pub ports : AllByRecursion (λ p. p.range.value ≤ 63) f.ports
  pub items : AreGood f.ports [] f.items
  pub set : AllByRecursion (IsSet f.items) (declarations f.ports f.items)

-- Such a file has no fault.

good_at : (ps : List Port) (before xs ys : List Item) (x : Item) (zs : List Item) → AreGood ps before xs → xs ≡ ys ++ x ∷ zs → IsGoodItem (above_of ps (before ++ ys)) x
good_at ps before [] [] x zs h e = absurd (cc)
good_at ps before [] (y ∷ ys) x zs h e = absurd (cc)
good_at ps before (w ∷ xs) [] x zs h e =
    let same : w ≡ x = cc in
    subst (λ z. IsGoodItem (above_of ps z) x) (sym (append-nil before)) (subst (λ z. IsGoodItem (above_of ps before) z) same h.0)
good_at ps before (w ∷ xs) (y ∷ ys) x zs h e =
    let same : w ≡ y = cc in
    let rest : xs ≡ ys ++ x ∷ zs = cc in
    let found = good_at ps (before ++ (w ∷ [])) xs ys x zs h.1 rest in
    subst (λ z. IsGoodItem (above_of ps z) x) (append_assoc before (w ∷ []) ys ∙ ap (λ z. before ++ (z ∷ ys)) same) found

item_good : (f : File) (a : Above) (x : Item) → IsGood f → IsItemOf f a x → IsGoodItem a x
item_good f a x g h = subst (λ ps. IsGoodItem (above_of ps a.items) x) (sym h.ports) (good_at f.ports [] f.items a.items x h.below g.items h.items)

among_all : {A : Type 0} (P : A → Type 0) (x : A) (xs : List A) → AllByRecursion P xs → StandsIn x xs → P x
among_all P x [] h m = absurd m
among_all P x (y ∷ ys) h (inl e) = subst P (sym e) h.0
among_all P x (y ∷ ys) h (inr m) = among_all P x ys h.1 m

no_shape : (before after : List Declaration) (d : Declaration) → AreDistinct (map (λ e. e.name.name) (before ++ d ∷ after)) → shape_in before d.name.name ≡ None
no_shape [] after d h = refl
no_shape (e ∷ before) after d h =
    ap (λ b. cond b (Some e.shape) (shape_in before d.name.name)) (apart before h.0) ∙ no_shape before after d h.1 where
      apart : (ds : List Declaration) → is_among e.name.name (map (λ z. z.name.name) (ds ++ d ∷ after)) ≡ false → bytes_eq e.name.name d.name.name ≡ false
      apart [] q = (or_parts (bytes_eq e.name.name d.name.name) _ q).0
      apart (c ∷ ds) q = apart ds (or_parts (bytes_eq e.name.name c.name.name) _ q).1

v3_none : (f : File) → IsGood f → (p : ℕ) → V3 f p → ⊥
v3_none f g p (fault.declared_before before after d e s) =
    let none = no_shape before after d (subst (λ ds. AreDistinct (map (λ z. z.name.name) ds)) e g.names) in
    let some = ap is_some none in absurd (cc)
v3_none f g p (fault.second_integer {above = a} h e) = let w = (item_good f a _ g h).fit in absurd (cc)
v3_none f g p (fault.set_before {above = a} {x = x} t h e s m) = let w = (item_good f a x g h).fresh t e in absurd (cc)

v4_none : (f : File) → IsGood f → (p : ℕ) → V4 f p → ⊥
v4_none f g p (fault.undeclared {above = a} {x = x} u h m e) = let w = (among_all (IsGoodUse a) u (uses x) (item_good f a x g h).uses m).declared in absurd (cc)
v4_none f g p (fault.unassigned {above = a} {x = x} u {width = width} h m v e n) =
    let w = among_all (IsGoodUse a) u (uses x) (item_good f a x g h).uses m in
    let d = w.declared in
    let same : w.shape ≡ wire width = cc in
    let set = w.assigned width v same in absurd (cc)
v4_none f g p (fault.no_integer {above = a} h e) = let w = (item_good f a _ g h).fit.0 in absurd (cc)

v5_none : (f : File) → IsGood f → (p : ℕ) → V5 f p → ⊥
v5_none f g p (fault.wide_port q m w) = let small = among_all (λ z. z.range.value ≤ 63) q f.ports g.ports m in absurd (omega arith)
v5_none f g p (fault.wide_range {above = a} {x = x} n h m w) =
    let small = among_all (λ z. z.value ≤ 63) n (ranges x) (item_good f a x g h).ranges m in absurd (omega arith)
v5_none f g p (fault.unfit {above = a} {x = x} c h m e) =
    let fits = among_all (λ z. constant_fits z ≡ true) c (constants x) (item_good f a x g h).constants m in absurd (cc)
v5_none f g p (fault.widths_differ {above = a} {x = x} t q h e m d) = among_all (λ z. Differ z → ⊥) q (pairs (known_above a) x) (item_good f a x g h).pairs m d
v5_none f g p (fault.wide_concat {above = a} {width = width} h e w) = let small = (item_good f a _ g h).fit width e in absurd (omega arith)
v5_none f g p (fault.out_of_range {above = a} {shape = shape} h e w) = let fit = (item_good f a _ g h).fit shape e in absurd (w fit.0 fit.1)

v6_none : (f : File) → IsGood f → (p : ℕ) → V6 f p → ⊥
v6_none f g p (fault.unset d s m n e) =
    let set = among_all (IsSet f.items) d (declarations f.ports f.items) g.set m s n in absurd (cc)

v7_none : (f : File) → IsGood f → (p : ℕ) → V7 f p → ⊥
v7_none f g p (fault.no_depth {above = a} h w) = absurd (w (item_good f a _ g h).fit)
v7_none f g p (fault.other_bound {above = a} {width = width} {depth = depth} h e w) = absurd (w ((item_good f a _ g h).fit.1 width depth e))
v7_none f g p (fault.other_index {above = a} {x = x} m index {width = width} {b = b} {u = u} h n e v w) =
    absurd (w (among_all (IsGoodIndex a) (m, index) (indexes x) (item_good f a x g h).indexes n width b u e v))
v7_none f g p (fault.other_kind {above = a} {x = x} u {shape = shape} h m e s) =
    let w = among_all (IsGoodUse a) u (uses x) (item_good f a x g h).uses m in
    let d = w.declared in let t = w.suits in
    let same : w.shape ≡ shape = cc in absurd (cc)

pub good_faultless : (f : File) → IsGood f → IsFaultless f
good_faultless f g = record { v3 = v3_none f g; v4 = v4_none f g; v5 = v5_none f g; v6 = v6_none f g; v7 = v7_none f g }
