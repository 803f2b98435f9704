-- What is known when the ports and items above have been read.
use Rattle.sap_lemmas.proofs.Common.{◌≡◌, ◌∙◌, ℕ, List, [], ◌∷◌, ◌++◌, Bool, true, false, refl, ap, sym, append_assoc, flat_map-append, append-nil, map-append, list_any-append, Option, Some, None, if◌then◌else◌, ◌||◌, map, flat_map, option_or, bytes_eq, or_false}
use Rattle.sap_vtext.specs.Items.{Port, Item, File}
use Rattle.sap_vtext.specs.Items as item
use Rattle.sap_vtext.specs.Names.{Shape, Setting, Declaration, port_declaration, item_declarations, declarations, shape_in, Above, shape_above, is_set, is_target, target_of, is_integer, has_integer, Known, known_above}
use Rattle.sap_vjudge.specs.Known.{nothing_known, after_port, after_item, after_ports, after_items}
use Rattle.sap_vjudge.specs.Listed.{known_at_end}
use Rattle.sap_vjudge.proofs.Tabled.{alike, option_or-none}

abbrev pub under_item : Above → Item → Above
under_item a x = record { ports = a.ports; items = a.items ++ x ∷ [] }

abbrev pub ports_only : List Port → Above
ports_only ps = record { ports = ps; items = [] }

or_step : (b : Bool) (s : Shape) (o r : Option Shape) (t : Option Shape) → t ≡ option_or o r → (if b then Some s else t) ≡ option_or (if b then Some s else o) r
or_step true s o r t h = refl
or_step false s o r t h = h

none_or : (o : Option Shape) → o ≡ option_or None o
none_or o = refl

pub shape_in-append : (ds es : List Declaration) (n : List ℕ) → shape_in (ds ++ es) n ≡ option_or (shape_in ds n) (shape_in es n)
shape_in-append [] es n = none_or (shape_in es n)
shape_in-append (d ∷ ds) es n = or_step (bytes_eq d.name.name n) d.shape (shape_in ds n) (shape_in es n) _ (shape_in-append ds es n)

-- the declarations with one port more
port_declared : (ps : List Port) (p : Port) → declarations (ps ++ p ∷ []) [] ≡ declarations ps [] ++ port_declaration p ∷ []
port_declared ps p =
    append-nil (map port_declaration (ps ++ p ∷ [])) ∙ map-append port_declaration ps (p ∷ [])
    ∙ ap (λ (ds : List Declaration). ds ++ port_declaration p ∷ []) (sym (append-nil (map port_declaration ps)))

-- and with more items
pub items_declared : (ps : List Port) (xs ys : List Item) → declarations ps (xs ++ ys) ≡ declarations ps xs ++ flat_map item_declarations ys
items_declared ps xs ys =
    ap (λ (ds : List Declaration). map port_declaration ps ++ ds) (flat_map-append item_declarations xs ys)
    ∙ sym (append_assoc (map port_declaration ps) (flat_map item_declarations xs) (flat_map item_declarations ys))

pub item_declared : (a : Above) (x : Item) → declarations a.ports (a.items ++ x ∷ []) ≡ declarations a.ports a.items ++ item_declarations x
item_declared a x = items_declared a.ports a.items (x ∷ []) ∙ ap (λ (ds : List Declaration). declarations a.ports a.items ++ ds) (append-nil (item_declarations x))

after_port_above : (ps : List Port) (p : Port) → after_port (known_above (ports_only ps)) p ≡ known_above (ports_only (ps ++ p ∷ []))
after_port_above ps p =
    alike (after_port (known_above (ports_only ps)) p) (known_above (ports_only (ps ++ p ∷ [])))
    (λ n. sym (ap (λ (ds : List Declaration). shape_in ds n) (port_declared ps p) ∙ shape_in-append (declarations ps []) (port_declaration p ∷ []) n))
    (λ s n. refl) refl

item_known : (a : Above) (x : Item) (k : Known) → ((n : List ℕ) → k.shape n ≡ option_or (shape_above a n) (shape_in (item_declarations x) n))
    → ((s : Setting) (n : List ℕ) → k.set s n ≡ (is_set s n a.items || is_target s n (target_of x))) → k.integer ≡ (has_integer a.items || is_integer x)
    → k ≡ known_above (under_item a x)
item_known a x k shapes sets integers =
    alike k (known_above (under_item a x))
    (λ n. shapes n ∙ sym (ap (λ (ds : List Declaration). shape_in ds n) (item_declared a x) ∙ shape_in-append (declarations a.ports a.items) (item_declarations x) n))
    (λ s n. sets s n ∙ sym (list_any-append (λ y. is_target s n (target_of y)) a.items (x ∷ []) ∙ ap (λ (b : Bool). is_set s n a.items || b) (or_false _)))
    (integers ∙ sym (list_any-append is_integer a.items (x ∷ []) ∙ ap (λ (b : Bool). has_integer a.items || b) (or_false _)))

declaring : (a : Above) (x : Item) (k : Known) → ((n : List ℕ) → k.shape n ≡ option_or (shape_above a n) (shape_in (item_declarations x) n))
    → ((s : Setting) (n : List ℕ) → k.set s n ≡ is_set s n a.items) → k.integer ≡ has_integer a.items → target_of x ≡ None → is_integer x ≡ false
    → k ≡ known_above (under_item a x)
declaring a x k shapes sets integers target integer =
    item_known a x k shapes
    (λ s n. sets s n ∙ sym (ap (λ t. is_set s n a.items || is_target s n t) target ∙ or_false _))
    (integers ∙ sym (ap (λ (b : Bool). has_integer a.items || b) integer ∙ or_false _))

setting : (a : Above) (x : Item) (k : Known) → ((n : List ℕ) → k.shape n ≡ shape_above a n)
    → ((s : Setting) (n : List ℕ) → k.set s n ≡ (is_set s n a.items || is_target s n (target_of x))) → k.integer ≡ has_integer a.items
    → item_declarations x ≡ [] → is_integer x ≡ false
    → k ≡ known_above (under_item a x)
setting a x k shapes sets integers declared integer =
    item_known a x k
    (λ n. shapes n ∙ sym (ap (λ ds. option_or (shape_above a n) (shape_in ds n)) declared ∙ option_or-none _))
    sets
    (integers ∙ sym (ap (λ (b : Bool). has_integer a.items || b) integer ∙ or_false _))

or_true : (b : Bool) → true ≡ (b || true)
or_true true = refl
or_true false = refl

pub after_item_above : (a : Above) (x : Item) → after_item (known_above a) x ≡ known_above (under_item a x)
after_item_above a (item.wire range x) = declaring a (item.wire range x) (after_item (known_above a) (item.wire range x)) (λ n. refl) (λ s n. refl) refl refl refl
after_item_above a (item.register range x) = declaring a (item.register range x) (after_item (known_above a) (item.register range x)) (λ n. refl) (λ s n. refl) refl refl refl
after_item_above a (item.memory range x last) =
    declaring a (item.memory range x last) (after_item (known_above a) (item.memory range x last)) (λ n. refl) (λ s n. refl) refl refl refl
after_item_above a (item.integer place) =
    item_known a (item.integer place) (after_item (known_above a) (item.integer place)) (λ n. sym (option_or-none _)) (λ s n. sym (or_false _)) (or_true _)
after_item_above a (item.assign x right) = setting a (item.assign x right) (after_item (known_above a) (item.assign x right)) (λ n. refl) (λ s n. refl) refl refl refl
after_item_above a (item.initial x value) = setting a (item.initial x value) (after_item (known_above a) (item.initial x value)) (λ n. refl) (λ s n. refl) refl refl refl
after_item_above a (item.initial_cells place bound x value) =
    setting a (item.initial_cells place bound x value) (after_item (known_above a) (item.initial_cells place bound x value)) (λ n. refl) (λ s n. refl) refl refl refl
after_item_above a (item.always x next) = setting a (item.always x next) (after_item (known_above a) (item.always x next)) (λ n. refl) (λ s n. refl) refl refl refl
after_item_above a (item.always_cell condition x index value) =
    setting a (item.always_cell condition x index value) (after_item (known_above a) (item.always_cell condition x index value)) (λ n. refl) (λ s n. refl) refl refl refl

ports_above : (before ps : List Port) → after_ports (known_above (ports_only before)) ps ≡ known_above (ports_only (before ++ ps))
unfolding after_ports
ports_above before [] = ap (λ (l : List Port). known_above (ports_only l)) (sym (append-nil before))
ports_above before (p ∷ ps) =
    ap (λ (k : Known). after_ports k ps) (after_port_above before p) ∙ ports_above (before ++ p ∷ []) ps
    ∙ ap (λ (l : List Port). known_above (ports_only l)) (append_assoc before (p ∷ []) ps)

items_above : (a : Above) (xs : List Item) → after_items (known_above a) xs ≡ known_above (record { ports = a.ports; items = a.items ++ xs })
unfolding after_items
items_above a [] = ap (λ (l : List Item). let b : Above = record { ports = a.ports; items = l } in known_above b) (sym (append-nil a.items))
items_above a (x ∷ xs) =
    ap (λ (k : Known). after_items k xs) (after_item_above a x) ∙ items_above (under_item a x) xs
    ∙ ap (λ (l : List Item). let b : Above = record { ports = a.ports; items = l } in known_above b) (append_assoc a.items (x ∷ []) xs)

nothing_above : nothing_known ≡ known_above (ports_only [])
nothing_above = alike nothing_known (known_above (ports_only [])) (λ n. refl) (λ s n. refl) refl

pub after_ports_above : (ps : List Port) → after_ports nothing_known ps ≡ known_above (ports_only ps)
after_ports_above ps = ap (λ (k : Known). after_ports k ps) nothing_above ∙ ports_above [] ps

pub after_port_next : (ps : List Port) (p : Port) → after_port (known_above (ports_only ps)) p ≡ known_above (ports_only (ps ++ p ∷ []))
after_port_next ps p = after_port_above ps p

pub nothing_is : nothing_known ≡ known_above (ports_only [])
nothing_is = nothing_above

pub at_end : (f : File) → known_at_end f ≡ known_above (record { ports = f.ports; items = f.items })
at_end f = ap (λ (k : Known). after_items k f.items) (after_ports_above f.ports) ∙ items_above (ports_only f.ports) f.items
