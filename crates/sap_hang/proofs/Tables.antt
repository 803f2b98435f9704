-- Rows are the table of what hangs; which entities are dynamic registers and memories; and the numbers of entities.
use Rattle.sap_lemmas.proofs.Common.{◌≡◌, ◌∙◌, ◌+◌, ◌<◌, ◌≤◌, ℕ, zero, suc, Bool, true, false, List, [], ◌∷◌, ◌++◌, map, length, get_or, drop, refl, sym, ap, subst, add-one, append_assoc, Option, Some, None, slice_get, option_map, unwrap_or, ltb, ltb-true, ltb-false, drop_of_length-le, append-nil, drop_more, slice_get-map, slice_get_past, slice_get_read}
use Rattle.std.specs.Prelude.{reverse}
use Rattle.sap_tree.specs.Prelude.{tree_of, Point, points_of, states_points, DesignTree, touches, root_touches, fall_touches, is_dynamic_store, declares_dynamic, states_of}
use Rattle.sap_tree.specs.declared.syntax.Decl.{Decl}
use Rattle.sap_tree.specs.declared.syntax.State.{State}
use Rattle.sap_tree.specs.declared.version.Version.{Version}
use Rattle.sap_names.specs.Entities.{entities_of, entity_number}
use Rattle.sap_names.specs.declared.entity.Entity.{Entity}
use Rattle.sap_hang.specs.Hang.{IsHangTable, Rows, Table, bit_of, hangs, hangs_on_root, says, says_of_root, touches_entity, root_touches_entity}
use Rattle.sap_hang.specs.Rows.{row_of, rows_of}
use Rattle.sap_hang.specs.Sets.{has}
use Rattle.sap_hang.specs.Walks.{Adds, Stands, firsts_of, table_of, passing, touched_on}
use Rattle.sap_hang.specs.declared.set.Set.{Set}
use Rattle.sap_hang.proofs.Adds.{shown, stands_more, starts}
use Rattle.sap_hang.proofs.Numbers.{known}

-- lookups

pub row-at : (firsts : List ℕ) (rows : List Set) (p : ℕ) → slice_get (rows_of firsts rows) p ≡ option_map (λ (s : Set). map (λ (x : ℕ). has s x) firsts) (slice_get rows p)
row-at firsts rows p = slice_get-map (λ (s : Set). map (λ (x : ℕ). has s x) firsts) rows p

pub bit-at : (s : Set) (firsts : List ℕ) (x : ℕ) → slice_get (map (λ (y : ℕ). has s y) firsts) x ≡ option_map (λ (y : ℕ). has s y) (slice_get firsts x)
bit-at s firsts x = slice_get-map (λ (y : ℕ). has s y) firsts x

module _ (firsts : List ℕ) (rows : List Set) (table : Table) (point q x : ℕ) (is : rows_of firsts rows ≡ table.points) (at : point ≡ suc q) where
  told : says table point x ≡ bit_of (option_map (λ (s : Set). map (λ (y : ℕ). has s y) firsts) (slice_get rows q)) x
  told =
      ap (λ (n : ℕ). says table n x) at ∙ ap (λ (l : Rows). bit_of (slice_get l q) x) (sym is) ∙ ap (λ (o : Option (List Bool)). bit_of o x) (row-at firsts rows q)

  told_of : (row : Set) → true ≡ ltb q (length rows) → row ≡ get_or rows q row → says table point x ≡ unwrap_or (option_map (λ (y : ℕ). has row y) (slice_get firsts x)) false
  told_of row l h =
      told ∙ ap (λ (o : Option Set). bit_of (option_map (λ (s : Set). map (λ (y : ℕ). has s y) firsts) o) x)
      (slice_get_read rows (length rows) q row refl (ltb-true q (length rows) (sym l)) h)
      ∙ ap (λ (o : Option Bool). unwrap_or o false) (bit-at row firsts x)

  pub hung : (row : Set) (number : ℕ) (b : Bool) → true ≡ ltb q (length rows) → row ≡ get_or rows q row → true ≡ ltb x (length firsts) → number ≡ get_or firsts x number
      → b ≡ has row number → b ≡ says table point x
  hung row number b l h m k e =
      e ∙ sym (told_of row l h ∙ ap (λ (o : Option ℕ). unwrap_or (option_map (λ (y : ℕ). has row y) o) false)
      (slice_get_read firsts (length firsts) x number refl (ltb-true x (length firsts) (sym m)) k))

  pub no_entity : (row : Set) → true ≡ ltb q (length rows) → row ≡ get_or rows q row → false ≡ ltb x (length firsts) → false ≡ says table point x
  no_entity row l h m = sym (told_of row l h
      ∙ ap (λ (o : Option ℕ). unwrap_or (option_map (λ (y : ℕ). has row y) o) false) (slice_get_past firsts x (ltb-false x (length firsts) (sym m))))

  pub no_point : false ≡ ltb q (length rows) → false ≡ says table point x
  no_point l = sym (told ∙ ap (λ (o : Option Set). bit_of (option_map (λ (s : Set). map (λ (y : ℕ). has s y) firsts) o) x)
      (slice_get_past rows q (ltb-false q (length rows) (sym l))))

module _ (firsts : List ℕ) (root : Set) (table : Table) (x : ℕ) (is : row_of firsts root ≡ table.root) where
  told_of_root : says_of_root table x ≡ unwrap_or (option_map (λ (y : ℕ). has root y) (slice_get firsts x)) false
  told_of_root = ap (λ (l : List Bool). unwrap_or (slice_get l x) false) (sym is) ∙ ap (λ (o : Option Bool). unwrap_or o false) (bit-at root firsts x)

  pub root_hung : (number : ℕ) (b : Bool) → true ≡ ltb x (length firsts) → number ≡ get_or firsts x number → b ≡ has root number → b ≡ says_of_root table x
  root_hung number b m k e =
      e ∙ sym (told_of_root ∙ ap (λ (o : Option ℕ). unwrap_or (option_map (λ (y : ℕ). has root y) o) false)
      (slice_get_read firsts (length firsts) x number refl (ltb-true x (length firsts) (sym m)) k))

  pub root_no_entity : false ≡ ltb x (length firsts) → false ≡ says_of_root table x
  root_no_entity m = sym (told_of_root ∙ ap (λ (o : Option ℕ). unwrap_or (option_map (λ (y : ℕ). has root y) o) false)
      (slice_get_past firsts x (ltb-false x (length firsts) (sym m))))

-- a table

entity-at : (ds : List Decl) (q : Point) (o : Option Entity)
    → unwrap_or (option_map (λ (e : Entity). touches ds q.home q.command e.name.name) o) false ≡ touches_entity ds (Some q) o
entity-at ds q None = refl
entity-at ds q (Some e) = refl

point-at : (ds : List Decl) (es : List Entity) (o : Option Point) (x : ℕ)
    → bit_of (option_map (λ (q : Point). passing es (λ name. touches ds q.home q.command name)) o) x ≡ touches_entity ds o (slice_get es x)
point-at ds es None x = refl
point-at ds es (Some q) x =
    ap (λ (o : Option Bool). unwrap_or o false) (slice_get-map (λ (e : Entity). touches ds q.home q.command e.name.name) es x) ∙ entity-at ds q (slice_get es x)

serves : (d : DesignTree) (es : List Entity) (rows : Rows) → es ≡ entities_of d → rows ≡ touched_on es d.declarations (points_of d) → (q x : ℕ)
    → bit_of (slice_get rows q) x ≡ touches_entity d.declarations (slice_get (points_of d) q) (slice_get (entities_of d) x)
serves d es rows h e q x =
    ap (λ (l : Rows). bit_of (slice_get l q) x) e
    ∙ ap (λ (o : Option (List Bool)). bit_of o x) (slice_get-map (λ (p : Point). passing es (λ name. touches d.declarations p.home p.command name)) (points_of d) q)
    ∙ point-at d.declarations es (slice_get (points_of d) q) x
    ∙ ap (λ (l : List Entity). touches_entity d.declarations (slice_get (points_of d) q) (slice_get l x)) h

root-at : (d : DesignTree) (o : Option Entity) → unwrap_or (option_map (λ (e : Entity). root_touches d e.name.name) o) false ≡ root_touches_entity d o
root-at d None = refl
root-at d (Some e) = refl

serves_root : (d : DesignTree) (es : List Entity) (row : List Bool) → es ≡ entities_of d → row ≡ passing es (λ name. root_touches d name) → (x : ℕ)
    → unwrap_or (slice_get row x) false ≡ hangs_on_root d x
serves_root d es row h e x =
    ap (λ (l : List Bool). unwrap_or (slice_get l x) false) e
    ∙ ap (λ (o : Option Bool). unwrap_or o false) (slice_get-map (λ (k : Entity). root_touches d k.name.name) es x)
    ∙ root-at d (slice_get es x)
    ∙ ap (λ (l : List Entity). root_touches_entity d (slice_get l x)) h

says_hangs : (d : DesignTree) (table : Table)
    → ((q x : ℕ) → bit_of (slice_get table.points q) x ≡ touches_entity d.declarations (slice_get (points_of d) q) (slice_get (entities_of d) x))
    → (p x : ℕ) → says table p x ≡ hangs d p x
says_hangs d table h zero x = refl
says_hangs d table h (suc q) x = h q x

-- that of a design
module _ (v : Version) (ds : List Decl) (ss : List State) (declared : List Decl) (seen : List State) (es : List Entity) (firsts : List ℕ)
    (names : es ≡ entities_of (tree_of v ds ss)) (same : declared ≡ ds) (states : seen ≡ ss) (numbers : firsts ≡ firsts_of es) where
  rows_whole : (start sets rows : List Set) → start ≡ [] → rows ≡ reverse sets
      → table_of es sets ≡ touched_on es declared (states_points (states_of seen)) ++ table_of es start → rows_of firsts rows ≡ touched_on es ds (states_points (states_of ss))
  rows_whole start sets rows h0 hr h =
      ap (λ (l : List ℕ). rows_of l rows) numbers ∙ ap (λ (l : List Set). rows_of (firsts_of es) l) hr ∙ h
      ∙ ap (λ (l : List Set). touched_on es declared (states_points (states_of seen)) ++ table_of es l) h0
      ∙ append-nil (touched_on es declared (states_points (states_of seen)))
      ∙ ap (λ (l : List Decl). touched_on es l (states_points (states_of seen))) same
      ∙ ap (λ (l : List State). touched_on es ds (states_points (states_of l))) states

  root_whole : (root : Set) → Stands es (λ x. fall_touches declared (states_of seen) x) root → row_of firsts root ≡ passing es (λ x. fall_touches ds (states_of ss) x)
  root_whole root h =
      ap (λ (l : List ℕ). row_of l root) numbers ∙ shown es (λ x. fall_touches declared (states_of seen) x) root h es (known es)
      ∙ ap (λ (l : List Decl). passing es (λ x. fall_touches l (states_of seen) x)) same
      ∙ ap (λ (l : List State). passing es (λ x. fall_touches ds (states_of l) x)) states

  pub table_whole : (start sets rows : List Set) (root : Set) → start ≡ [] → rows ≡ reverse sets
      → table_of es sets ≡ touched_on es declared (states_points (states_of seen)) ++ table_of es start → Stands es (λ x. fall_touches declared (states_of seen) x) root
      → IsHangTable (tree_of v ds ss) (record { points = rows_of firsts rows; root = row_of firsts root })
  table_whole start sets rows root h0 hr h f =
      let d = tree_of v ds ss in
      record {
        points = says_hangs d (record { points = rows_of firsts rows; root = row_of firsts root }) (serves d es (rows_of firsts rows) names (rows_whole start sets rows h0 hr h));
        root = serves_root d es (row_of firsts root) names (root_whole root f);
      }

-- declarations from a place on

pub stores_start : (es : List Entity) (ds : List Decl) (n : ℕ) (s : Set) → length ds ≤ n → ((x : ℕ) → has s x ≡ false) → Stands es (λ x. is_dynamic_store (drop n ds) x) s
unfolding is_dynamic_store
stores_start es ds n s l e = subst (λ (z : List Decl). Stands es (λ x. is_dynamic_store z x) s) (sym (drop_of_length-le ds l))
    (starts es (λ x. is_dynamic_store [] x) s e (λ x. refl))

pub stores_step : (es : List Entity) (ds : List Decl) (n m : ℕ) (d : Decl) (s t : Set) → n < length ds → m ≡ n + 1 → d ≡ get_or ds n d
    → Stands es (λ x. is_dynamic_store (drop m ds) x) s
    → Adds es (λ x. declares_dynamic x d) s t → Stands es (λ x. is_dynamic_store (drop n ds) x) t
unfolding is_dynamic_store
stores_step es ds n m d s t l next e h a =
    let rest = drop m ds in
    let parts : drop n ds ≡ d ∷ rest = drop_more ds n d l ∙ ap (λ (k : ℕ). get_or ds n d ∷ drop k ds) (sym next) ∙ ap (λ (z : Decl). z ∷ rest) (sym e) in
    subst (λ (z : List Decl). Stands es (λ x. is_dynamic_store z x) t) (sym parts) (stands_more es (λ x. is_dynamic_store rest x) (λ x. declares_dynamic x d) s t h a)

-- numbers from an entity on

abbrev pub firsts_from : List Entity → List Entity → List ℕ
firsts_from all es = map (λ (e : Entity). entity_number all e.name.name) es

firsts-drop : (all es : List Entity) (n : ℕ) (name : List ℕ) → option_map (λ (e : Entity). e.name.name) (slice_get es n) ≡ Some name
    → firsts_from all (drop n es) ≡ entity_number all name ∷ firsts_from all (drop (n + 1) es)
firsts-drop all [] n name h = absurd (cc h)
firsts-drop all (e ∷ es) zero name h = ap (λ (o : Option (List ℕ)). entity_number all (unwrap_or o []) ∷ firsts_from all es) h
firsts-drop all (e ∷ es) (suc n) name h = let r = firsts-drop all es n name h in simp (add-one) (simp (add-one) at r)

pub firsts_step : (es : List Entity) (n : ℕ) (name : List ℕ) (number : ℕ) (old new all : List ℕ) → option_map (λ (e : Entity). e.name.name) (slice_get es n) ≡ Some name
    → number ≡ entity_number es name → new ≡ old ++ number ∷ [] → old ++ firsts_from es (drop n es) ≡ all → new ++ firsts_from es (drop (n + 1) es) ≡ all
firsts_step es n name number old new all h e k i =
    ap (λ (l : List ℕ). l ++ firsts_from es (drop (n + 1) es)) k
    ∙ append_assoc old (number ∷ []) (firsts_from es (drop (n + 1) es))
    ∙ ap (λ (x : ℕ). old ++ x ∷ firsts_from es (drop (n + 1) es)) e
    ∙ ap (λ (l : List ℕ). old ++ l) (sym (firsts-drop es es n name h)) ∙ i
