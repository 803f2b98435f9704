-- Declared names, each with what is picked from its shape.
use Rattle.sap_lemmas.proofs.Common.{◌≡◌, List, [], ◌∷◌, ◌++◌, Bool, true, false, cond, Option, Some, None, refl, sym, ap, ◌∙◌, subst, inl, inr, ⊎_elim, map, filter, is_some, AllByRecursion, bytes_eq, cases_Bool, equal_of_bytes_eq}
use Rattle.sap_vtext.proofs.FaultsLemmas.{all_alike}
use Rattle.sap_maps.specs.Prelude.{Name, find}
use Rattle.sap_net.specs.Names.{is_among, AreDistinct}
use Rattle.sap_text.specs.Best.{StandsIn}
use Rattle.sap_vtext.specs.Names.{Shape, Declaration, shape_in}
use Rattle.sap_vtext.proofs.NameLists.{keys, keys_map, AreNew, new_keys, found_key, found_among, among_mapped, NoneAmong, all_from}

abbrev pub declared_names : List Declaration → List Name
declared_names ds = map (λ d. d.name.name) ds

abbrev pub shapes_of : List Declaration → List (Name × Shape)
shapes_of ds = map (λ d. (d.name.name, d.shape)) ds

-- Shapes.

pub shape_found : (ds : List Declaration) (n : Name) → shape_in ds n ≡ find (shapes_of ds) n
shape_found [] n = refl
shape_found (d ∷ ds) n = ap (λ o. cond (bytes_eq d.name.name n) (Some d.shape) o) (shape_found ds n)

pub shape_known : (ds : List Declaration) (n : Name) → is_some (shape_in ds n) ≡ is_among n (declared_names ds)
shape_known ds n =
    ap is_some (shape_found ds n) ∙ found_key (shapes_of ds) n
    ∙ ap (λ ns. is_among n ns) (keys_map (λ (d : Declaration). d.name.name) (λ (d : Declaration). d.shape) ds)

pub no_shape : (ds : List Declaration) (n : Name) → is_among n (declared_names ds) ≡ false → shape_in ds n ≡ None
no_shape ds n h = by_shape (shape_in ds n) (shape_known ds n ∙ h) where
  by_shape : (o : Option Shape) → is_some o ≡ false → o ≡ None
  by_shape None e = refl
  by_shape (Some s) e = absurd (cc)

pub own_shape : (ds : List Declaration) → AreDistinct (declared_names ds) → (d : Declaration) → StandsIn d ds → shape_in ds d.name.name ≡ Some d.shape
own_shape ds h d m =
    let name = λ (e : Declaration). e.name.name in
    let shape = λ (e : Declaration). e.shape in
    let new : AreNew (shapes_of ds) = new_keys (shapes_of ds) (subst (λ ns. AreDistinct ns) (sym (keys_map name shape ds)) h) in
    let entry = λ (e : Declaration). (let p : Name × Shape = (e.name.name, e.shape) in p) in
    shape_found ds d.name.name ∙ found_among (shapes_of ds) new d.name.name d.shape (among_mapped entry d ds m)

-- a declaration that gives a name its shape
pub record Declares (ds : List Declaration) (n : Name) (s : Shape) : Type 0 where
  pub declaration : Declaration
  pub among : StandsIn declaration ds
  pub name : declaration.name.name ≡ n
  pub shape : declaration.shape ≡ s

pub declared_by : (ds : List Declaration) (n : Name) (s : Shape) → shape_in ds n ≡ Some s → Declares ds n s
declared_by [] n s e = absurd (cc)
declared_by (d ∷ ds) n s e =
    ⊎_elim
    (λ t. let q : Some d.shape ≡ Some s = rw t at e in
    let p : d.shape ≡ s = cc in
    record { declaration = d; among = inl refl; name = equal_of_bytes_eq d.name.name n t; shape = p })
    (λ t. let r = declared_by ds n s (rw t at e) in record { declaration = r.declaration; among = inr r.among; name = r.name; shape = r.shape })
    (cases_Bool (bytes_eq d.name.name n))

-- what stands above stays so below
pub shape_kept : (ds es : List Declaration) (n : Name) (s : Shape) → shape_in ds n ≡ Some s → shape_in (ds ++ es) n ≡ Some s
shape_kept [] es n s e = absurd (cc)
shape_kept (d ∷ ds) es n s e =
    ⊎_elim
    (λ t. let q : Some d.shape ≡ Some s = rw t at e in ap (λ b. cond b (Some d.shape) (shape_in (ds ++ es) n)) t ∙ q)
    (λ t. ap (λ b. cond b (Some d.shape) (shape_in (ds ++ es) n)) t ∙ shape_kept ds es n s (rw t at e))
    (cases_Bool (bytes_eq d.name.name n))

-- Entries.

abbrev pub add_entry : {X : Type 0} → Name → Option X → List (Name × X) → List (Name × X)
add_entry n None es = es
add_entry n (Some x) es = (n, x) ∷ es

abbrev pub entries : {X : Type 0} → (Shape → Option X) → List Declaration → List (Name × X)
entries pick [] = []
entries pick (d ∷ ds) = add_entry d.name.name (pick d.shape) (entries pick ds)

abbrev pub picked : {X : Type 0} → (Shape → Option X) → Option Shape → Option X
picked pick None = None
picked pick (Some s) = pick s

add_append : {X : Type 0} (n : Name) (o : Option X) (xs ys : List (Name × X)) → add_entry n o (xs ++ ys) ≡ add_entry n o xs ++ ys
add_append n None xs ys = refl
add_append n (Some x) xs ys = refl

pub entries_append : {X : Type 0} (pick : Shape → Option X) (ds es : List Declaration) → entries pick (ds ++ es) ≡ entries pick ds ++ entries pick es
entries_append pick [] es = refl
entries_append pick (d ∷ ds) es =
    ap (λ z. add_entry d.name.name (pick d.shape) z) (entries_append pick ds es) ∙ add_append d.name.name (pick d.shape) (entries pick ds) (entries pick es)

found_first : {X : Type 0} (m n : Name) (o : Option X) (es : List (Name × X)) → bytes_eq m n ≡ true → find es n ≡ None → find (add_entry m o es) n ≡ o
found_first m n None es t e = e
found_first m n (Some x) es t e = ap (λ b. cond b (Some x) (find es n)) t

found_later : {X : Type 0} (m n : Name) (o : Option X) (es : List (Name × X)) → bytes_eq m n ≡ false → find (add_entry m o es) n ≡ find es n
found_later m n None es t = refl
found_later m n (Some x) es t = ap (λ b. cond b (Some x) (find es n)) t

pub found_entry : {X : Type 0} (pick : Shape → Option X) (ds : List Declaration) → AreDistinct (declared_names ds) → (n : Name)
    → find (entries pick ds) n ≡ picked pick (shape_in ds n)
found_entry pick [] h n = refl
found_entry pick (d ∷ ds) h n =
    let rest = found_entry pick ds h.1 n in
    ⊎_elim
    (λ t. let none : shape_in ds n ≡ None = no_shape ds n (subst (λ z. is_among z (declared_names ds) ≡ false) (equal_of_bytes_eq d.name.name n t) h.0) in
    found_first d.name.name n (pick d.shape) (entries pick ds) t (rest ∙ ap (picked pick) none)
    ∙ sym (ap (λ b. picked pick (cond b (Some d.shape) (shape_in ds n))) t))
    (λ t. found_later d.name.name n (pick d.shape) (entries pick ds) t ∙ rest
    ∙ sym (ap (λ b. picked pick (cond b (Some d.shape) (shape_in ds n))) t))
    (cases_Bool (bytes_eq d.name.name n))

pub key_picked : {X : Type 0} (pick : Shape → Option X) (ds : List Declaration) → AreDistinct (declared_names ds) → (n : Name)
    → is_among n (keys (entries pick ds)) ≡ is_some (picked pick (shape_in ds n))
key_picked pick ds h n = sym (found_key (entries pick ds) n) ∙ ap is_some (found_entry pick ds h n)

add_distinct : {X : Type 0} (n : Name) (o : Option X) (es : List (Name × X)) → is_among n (keys es) ≡ false → AreDistinct (keys es) → AreDistinct (keys (add_entry n o es))
add_distinct n None es f h = h
add_distinct n (Some x) es f h = (f, h)

pub distinct_entries : {X : Type 0} (pick : Shape → Option X) (ds : List Declaration) → AreDistinct (declared_names ds) → AreDistinct (keys (entries pick ds))
distinct_entries pick [] h = tt
distinct_entries pick (d ∷ ds) h =
    add_distinct d.name.name (pick d.shape) (entries pick ds)
    (key_picked pick ds h.1 d.name.name ∙ ap (λ o. is_some (picked pick o)) (no_shape ds d.name.name h.0)) (distinct_entries pick ds h.1)

-- no shape gives both
abbrev pub AreApart : {X Y : Type 0} → (Shape → Option X) → (Shape → Option Y) → Type 0
AreApart p q = (s : Shape) → is_some (p s) ≡ true → is_some (q s) ≡ false

pub picked_apart : {X Y : Type 0} (p : Shape → Option X) (q : Shape → Option Y) → AreApart p q → (o : Option Shape) → is_some (picked p o) ≡ true → is_some (picked q o) ≡ false
picked_apart p q apart None e = refl
picked_apart p q apart (Some s) e = apart s e

pub entries_apart : {X Y : Type 0} (p : Shape → Option X) (q : Shape → Option Y) → AreApart p q → (ds : List Declaration) → AreDistinct (declared_names ds)
    → NoneAmong (keys (entries p ds)) (keys (entries q ds))
entries_apart p q apart ds h =
    let ps = keys (entries p ds) in
    all_from (λ x. is_among x (keys (entries q ds)) ≡ false) ps ps
    (λ x m. key_picked q ds h x ∙ picked_apart p q apart (shape_in ds x) (sym (key_picked p ds h x) ∙ m)) (λ x m. m)

-- The names of entries, in order.

added_key : {X : Type 0} (b : Bool) (n : Name) (o : Option X) (ns : List Name) (es : List (Name × X)) → b ≡ is_some o → ns ≡ keys es
    → cond b (n ∷ ns) ns ≡ keys (add_entry n o es)
added_key b n None ns es t e = ap (λ c. cond c (n ∷ ns) ns) t ∙ e
added_key b n (Some x) ns es t e = ap (λ c. cond c (n ∷ ns) ns) t ∙ ap (λ z. n ∷ z) e

filtered : {X : Type 0} (test : Name → Bool) (pick : Shape → Option X) (es : List Declaration)
    → AllByRecursion (λ d. test d.name.name ≡ is_some (pick d.shape)) es → filter test (declared_names es) ≡ keys (entries pick es)
filtered test pick [] a = refl
filtered test pick (d ∷ ds) a =
    added_key (test d.name.name) d.name.name (pick d.shape) (filter test (declared_names ds)) (entries pick ds) a.0 (filtered test pick ds a.1)

pub in_order : {X : Type 0} (pick : Shape → Option X) (ds : List Declaration) → AreDistinct (declared_names ds)
    → filter (λ x. is_among x (keys (entries pick ds))) (declared_names ds) ≡ keys (entries pick ds)
in_order pick ds h =
    filtered (λ x. is_among x (keys (entries pick ds))) pick ds
    (all_alike (λ d. is_among d.name.name (keys (entries pick ds)) ≡ is_some (pick d.shape)) ds
    (λ d m. key_picked pick ds h d.name.name ∙ ap (λ o. is_some (picked pick o)) (own_shape ds h d m)))
