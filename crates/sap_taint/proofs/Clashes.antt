-- There is room for tags, or exactly one first clash.
use Rattle.sap_lemmas.proofs.Common.{◌≡◌, List, [], ◌∷◌, ◌++◌, map, Option, Some, None, true, false, ◌⊎◌, ap, sym, ◌∙◌, subst, refl, inl, inr, if◌then◌else◌, bytes_eq, cases_Bool, or_right, or_cases, append-nil, append_assoc, map-append, neither_left, neither_right, some_unique, equal_of_bytes_eq}
use Rattle.sap_maps.specs.Maps.{Name}
use Rattle.sap_net.specs.Prelude.{Net, is_among, AreDistinct, IsNetlist}
use Rattle.sap_net.proofs.NamesLemmas.{among_here, among_append, among_front, among_behind}
use Rattle.sap_taint.specs.TagNames.{name_of_tag, with_tags, clashes, NoneClashes, IsClash, HasRoomForTags}
use Rattle.sap_taint.specs.Laws.{RoomOrClash, NoClashWithRoom, OneClash}

-- the names that no further tag can have
abbrev taken_names : Net → (earlier : List Name) → List Name
taken_names n earlier = n.module_name ∷ n.names ++ map name_of_tag earlier

taken_more : (n : Net) (earlier : List Name) (x : Name) → taken_names n (earlier ++ x ∷ []) ≡ taken_names n earlier ++ name_of_tag x ∷ []
taken_more n earlier x =
    ap (λ ts. (n.module_name ∷ n.names) ++ ts) (map-append name_of_tag earlier (x ∷ []))
    ∙ sym (append_assoc (n.module_name ∷ n.names) (map name_of_tag earlier) (name_of_tag x ∷ []))

still_taken : (n : Net) (earlier : List Name) (x y : Name) → is_among y (taken_names n earlier) ≡ true → is_among y (taken_names n (earlier ++ x ∷ [])) ≡ true
still_taken n earlier x y a =
    subst (λ ns. is_among y ns ≡ true) (sym (taken_more n earlier x)) (among_front y (taken_names n earlier) (name_of_tag x ∷ []) a)

now_taken : (n : Net) (earlier : List Name) (x : Name) → is_among (name_of_tag x) (taken_names n (earlier ++ x ∷ [])) ≡ true
now_taken n earlier x =
    subst (λ ns. is_among (name_of_tag x) ns ≡ true) (sym (taken_more n earlier x))
    (among_behind (name_of_tag x) (taken_names n earlier) (name_of_tag x ∷ []) (among_here (name_of_tag x) []))

-- no tag has a name that is taken
none_taken : (n : Net) (earlier xs : List Name) → NoneClashes n earlier xs → (y : Name) → is_among y (taken_names n earlier) ≡ true → is_among y (map name_of_tag xs) ≡ false
none_taken n earlier [] h y a = refl
none_taken n earlier (x ∷ xs) h y a =
    elim (cases_Bool (bytes_eq y (name_of_tag x))) [
      | inl t ↦ absurd (
          let g : is_among (name_of_tag x) (taken_names n earlier) ≡ true =
          subst (λ (z : Name). is_among z (taken_names n earlier) ≡ true) (equal_of_bytes_eq y (name_of_tag x) t) a in
          let f = h.0 in cc)
      | inr f ↦ rw f (none_taken n (earlier ++ x ∷ []) xs h.1 y (still_taken n earlier x y a))
    ]

all_tags_distinct : (n : Net) (earlier xs : List Name) → NoneClashes n earlier xs → AreDistinct (map name_of_tag xs)
all_tags_distinct n earlier [] h = tt
all_tags_distinct n earlier (x ∷ xs) h =
    (none_taken n (earlier ++ x ∷ []) xs h.1 (name_of_tag x) (now_taken n earlier x), all_tags_distinct n (earlier ++ x ∷ []) xs h.1)

neither : (y : Name) (xs : List Name) → is_among y xs ≡ false → is_among y (map name_of_tag xs) ≡ false → is_among y (with_tags xs) ≡ false
neither y [] a b = refl
neither y (x ∷ xs) a b =
    rw (neither_left (bytes_eq y x) _ a, neither_left (bytes_eq y (name_of_tag x)) _ b)
    (neither y xs (neither_right (bytes_eq y x) _ a) (neither_right (bytes_eq y (name_of_tag x)) _ b))

all_distinct : (xs : List Name) → AreDistinct xs → AreDistinct (map name_of_tag xs) → ((y : Name) → is_among y xs ≡ true → is_among y (map name_of_tag xs) ≡ false)
    → AreDistinct (with_tags xs)
all_distinct [] a b k = tt
all_distinct (x ∷ xs) a b k =
    let x_free = k x (among_here x xs) in
    let x_other = neither_left (bytes_eq x (name_of_tag x)) _ x_free in
    let x_behind = neither_right (bytes_eq x (name_of_tag x)) _ x_free in
    let tag_free : is_among (name_of_tag x) xs ≡ false = elim (cases_Bool (is_among (name_of_tag x) xs)) [
      | inl t ↦ absurd (
          let e = k (name_of_tag x) (or_right (bytes_eq (name_of_tag x) x) (is_among (name_of_tag x) xs) t) in
          let f = among_here (name_of_tag x) (map name_of_tag xs) in cc)
      | inr f ↦ f
    ] in (
      rw x_other (neither x xs a.0 x_behind),
      (
        neither (name_of_tag x) xs tag_free b.0,
        all_distinct xs a.1 b.1 (λ y h. neither_right (bytes_eq y (name_of_tag x)) _ (k y (or_right (bytes_eq y x) (is_among y xs) h))),
      ),
    )

pub room_of : (n : Net) → IsNetlist n → NoneClashes n [] n.names → HasRoomForTags n
room_of n rules h =
    let module_or_name = λ (y : Name) (a : is_among y (n.module_name ∷ n.names) ≡ true). among_front y (n.module_name ∷ n.names) [] a in
    record {
      distinct = all_distinct n.names rules.declared_once (all_tags_distinct n [] n.names h)
          (λ y a. none_taken n [] n.names h y (module_or_name y (or_right (bytes_eq y n.module_name) (is_among y n.names) a)));
      tag_names = none_taken n [] n.names h n.module_name (module_or_name n.module_name (among_here n.module_name n.names));
    }

-- one name more of which none clashes
pub one_more : (n : Net) (start earlier : List Name) (x : Name) → NoneClashes n start earlier → clashes n (start ++ earlier) x ≡ false → NoneClashes n start (earlier ++ x ∷ [])
one_more n start [] x a b = (subst (λ (ys : List Name). clashes n ys x ≡ false) (append-nil start) b, tt)
one_more n start (y ∷ ys) x a b =
    (a.0, one_more n (start ++ y ∷ []) ys x a.1 (subst (λ (zs : List Name). clashes n zs x ≡ false) (sym (append_assoc start (y ∷ []) ys)) b))

search : (n : Net) (earlier later : List Name) → NoneClashes n [] earlier → n.names ≡ earlier ++ later → NoneClashes n [] n.names ⊎ ((x : Name) × IsClash n x)
search n earlier [] a e = inl (subst (NoneClashes n []) (sym (e ∙ append-nil earlier)) a)
search n earlier (x ∷ later) a e =
    elim (cases_Bool (clashes n earlier x)) [
      | inl t ↦ inr (x, record { earlier = earlier; later = later; declared = e; taken = t; first = a })
      | inr f ↦ search n (earlier ++ x ∷ []) later (one_more n [] earlier x a f) (e ∙ sym (append_assoc earlier (x ∷ []) later))
    ]

pub room_or_clash : (n : Net) → IsNetlist n → RoomOrClash n
room_or_clash n rules =
    elim (search n [] n.names tt refl) [
      | inl a ↦ inl (room_of n rules a)
      | inr b ↦ inr b
    ]

-- what is no name of names with tags is none of the tags
none_of_tags : (y : Name) (xs : List Name) → is_among y (with_tags xs) ≡ false → is_among y (map name_of_tag xs) ≡ false
none_of_tags y [] h = refl
none_of_tags y (x ∷ xs) h =
    let g = neither_right (bytes_eq y x) _ h in
    rw (neither_left (bytes_eq y (name_of_tag x)) _ g) (none_of_tags y xs (neither_right (bytes_eq y (name_of_tag x)) _ g))

none_of_names : (y : Name) (xs : List Name) → is_among y (with_tags xs) ≡ false → is_among y xs ≡ false
none_of_names y [] h = refl
none_of_names y (x ∷ xs) h =
    rw (neither_left (bytes_eq y x) _ h) (none_of_names y xs (neither_right (bytes_eq y (name_of_tag x)) _ (neither_right (bytes_eq y x) _ h)))

-- where names with tags are distinct, the tags are, and no name is a tag's
pub tags_distinct : (xs : List Name) → AreDistinct (with_tags xs) → AreDistinct (map name_of_tag xs)
tags_distinct [] d = tt
tags_distinct (x ∷ xs) d = (none_of_tags (name_of_tag x) xs d.1.0, tags_distinct xs d.1.1)

pub apart_from_tags : (xs : List Name) → AreDistinct (with_tags xs) → (y : Name) → is_among y xs ≡ true → is_among y (map name_of_tag xs) ≡ false
apart_from_tags [] d y a = refl
apart_from_tags (x ∷ xs) d y a =
    elim (cases_Bool (bytes_eq y x)) [
      | inl t ↦ subst (λ (z : Name). is_among z (name_of_tag x ∷ map name_of_tag xs) ≡ false) (sym (equal_of_bytes_eq y x t))
          (rw (neither_left (bytes_eq x (name_of_tag x)) _ d.0) (none_of_tags x xs (neither_right (bytes_eq x (name_of_tag x)) _ d.0)))
      | inr f ↦ (
          let b : is_among y xs ≡ true = rw f at a in
          elim (cases_Bool (bytes_eq y (name_of_tag x))) [
            | inl t ↦ absurd (
                let g : is_among (name_of_tag x) xs ≡ true = subst (λ (z : Name). is_among z xs ≡ true) (equal_of_bytes_eq y (name_of_tag x) t) b in
                let h = none_of_names (name_of_tag x) xs d.1.0 in cc)
            | inr g ↦ rw g (apart_from_tags xs d.1.1 y b)
          ])
    ]

-- what stands behind some is none of them
earlier_apart : (ys zs : List Name) (x : Name) → AreDistinct (ys ++ x ∷ zs) → is_among x ys ≡ true → ⊥
earlier_apart [] zs x d a = cc
earlier_apart (y ∷ ys) zs x d a =
    elim (cases_Bool (bytes_eq x y)) [
      | inl t ↦ (
          let g : is_among x (ys ++ x ∷ zs) ≡ false = subst (λ (z : Name). is_among z (ys ++ x ∷ zs) ≡ false) (sym (equal_of_bytes_eq x y t)) d.0 in
          let h = among_behind x ys (x ∷ zs) (among_here x zs) in cc)
      | inr f ↦ earlier_apart ys zs x d.1 (rw f at a)
    ]

tag_of_declared : (n : Net) (x : Name) → (c : IsClash n x) → map name_of_tag n.names ≡ map name_of_tag c.earlier ++ name_of_tag x ∷ map name_of_tag c.later
tag_of_declared n x c = ap (map name_of_tag) c.declared ∙ map-append name_of_tag c.earlier (x ∷ c.later)

pub no_clash_with_room : (n : Net) → NoClashWithRoom n
no_clash_with_room n x c room =
    let e = tag_of_declared n x c in
    let own : is_among (name_of_tag x) (map name_of_tag n.names) ≡ true =
    rw e (among_behind (name_of_tag x) (map name_of_tag c.earlier) (name_of_tag x ∷ map name_of_tag c.later) (among_here (name_of_tag x) (map name_of_tag c.later))) in
    elim (or_cases (is_among (name_of_tag x) (n.module_name ∷ n.names)) (is_among (name_of_tag x) (map name_of_tag c.earlier))
    (sym (among_append (name_of_tag x) (n.module_name ∷ n.names) (map name_of_tag c.earlier)) ∙ c.taken)) [
      | inl a ↦ elim (or_cases (bytes_eq (name_of_tag x) n.module_name) (is_among (name_of_tag x) n.names) a) [
        | inl t ↦ (
            let g : is_among n.module_name (map name_of_tag n.names) ≡ true =
            subst (λ (z : Name). is_among z (map name_of_tag n.names) ≡ true) (equal_of_bytes_eq (name_of_tag x) n.module_name t) own in
            let h = room.tag_names in cc)
        | inr b ↦ (let h = apart_from_tags n.names room.distinct (name_of_tag x) b in cc)
      ]
      | inr b ↦
          earlier_apart (map name_of_tag c.earlier) (map name_of_tag c.later) (name_of_tag x)
          (subst AreDistinct e (tags_distinct n.names room.distinct)) b
    ]

-- the first of some names that clashes, found from the front
abbrev first_from : Net → (earlier : List Name) → List Name → Option Name
first_from n earlier [] = None
first_from n earlier (x ∷ xs) = if clashes n earlier x then Some x else first_from n (earlier ++ x ∷ []) xs

first_found : (n : Net) (start earlier later : List Name) (x : Name) → NoneClashes n start earlier → clashes n (start ++ earlier) x ≡ true
    → first_from n start (earlier ++ x ∷ later) ≡ Some x
first_found n start [] later x a b =
    let t : clashes n start x ≡ true = subst (λ (ys : List Name). clashes n ys x ≡ true) (append-nil start) b in rw t refl
first_found n start (y ∷ ys) later x a b =
    rw a.0 (first_found n (start ++ y ∷ []) ys later x a.1 (subst (λ (zs : List Name). clashes n zs x ≡ true) (sym (append_assoc start (y ∷ []) ys)) b))

is_first : (n : Net) (x : Name) → IsClash n x → first_from n [] n.names ≡ Some x
is_first n x c = ap (first_from n []) c.declared ∙ first_found n [] c.earlier c.later x c.first c.taken

pub one_clash : (n : Net) → OneClash n
one_clash n x y a b = some_unique (first_from n [] n.names) x y (is_first n x a) (is_first n y b)
