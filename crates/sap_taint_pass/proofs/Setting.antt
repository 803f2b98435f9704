-- Names of tags and of helping wires stay apart from declared ones and from each other.
use Rattle.sap_lemmas.proofs.Common.{◌≡◌, ℕ, Bool, List, [], ◌∷◌, map, None, true, false, ◌||◌, ap, sym, ◌∙◌, subst, refl, inl, inr, bytes_eq, cases_Bool, or_right, neither_right, bytes_eq_same, equal_of_bytes_eq, bytes_eq_apart_back}
use Rattle.sap_maps.specs.Prelude.{Name, find}
use Rattle.sap_net.specs.Prelude.{Net, is_among, IsWidth, IsNetlist, shapes}
use Rattle.sap_net.proofs.NamesLemmas.{apart_by_membership}
use Rattle.sap_taint.specs.TagNames.{name_of_tag, with_tags, HasRoomForTags}
use Rattle.sap_taint_pass.specs.Helping.{AreHelping}
use Rattle.sap_taint.proofs.Clashes.{tags_distinct}
use Rattle.sap_taint.proofs.Apart.{tag_among, one_tag_each, no_tag}
use Rattle.sap_build.proofs.Found.{AreDeclared, shapes_declared}

pub record Setting (helping : ℕ → Name) (w : ℕ) (n : Net) : Type 0 where
  pub wide : IsWidth w
  pub rules : IsNetlist n
  pub room : HasRoomForTags n
  pub names : AreHelping n helping

abbrev pub IsDeclared : Net → Name → Type 0
IsDeclared n x = is_among x n.names ≡ true

either_swapped : (a b c d : Bool) → (a || (b || (c || d))) ≡ ((a || c) || (b || d))
either_swapped true b c d = refl
either_swapped false true true d = refl
either_swapped false true false d = refl
either_swapped false false c d = refl

pub among_with_tags : (y : Name) (xs : List Name) → is_among y (with_tags xs) ≡ (is_among y xs || is_among y (map name_of_tag xs))
among_with_tags y [] = refl
among_with_tags y (x ∷ xs) =
    ap (λ q. bytes_eq y x || (bytes_eq y (name_of_tag x) || q)) (among_with_tags y xs)
    ∙ either_swapped (bytes_eq y x) (bytes_eq y (name_of_tag x)) (is_among y xs) (is_among y (map name_of_tag xs))

pub name_with_tags : (y : Name) (xs : List Name) → is_among y xs ≡ true → is_among y (with_tags xs) ≡ true
name_with_tags y xs h = among_with_tags y xs ∙ ap (λ q. q || is_among y (map name_of_tag xs)) h

pub tag_with_tags : (y : Name) (xs : List Name) → is_among y (map name_of_tag xs) ≡ true → is_among y (with_tags xs) ≡ true
tag_with_tags y xs h = among_with_tags y xs ∙ or_right (is_among y xs) (is_among y (map name_of_tag xs)) h

-- a tag is no declared name
pub tag_apart : (helping : ℕ → Name) (w : ℕ) (n : Net) → Setting helping w n → (x y : Name) → IsDeclared n x → IsDeclared n y → bytes_eq (name_of_tag x) y ≡ false
tag_apart helping w n s x y a b =
    elim (cases_Bool (bytes_eq (name_of_tag x) y)) [
      | inl t ↦ absurd (no_tag n s.room y x b a (sym (equal_of_bytes_eq (name_of_tag x) y t)))
      | inr f ↦ f
    ]

pub name_apart : (helping : ℕ → Name) (w : ℕ) (n : Net) → Setting helping w n → (x y : Name) → IsDeclared n x → IsDeclared n y → bytes_eq x (name_of_tag y) ≡ false
name_apart helping w n s x y a b = bytes_eq_apart_back (name_of_tag y) x (tag_apart helping w n s y x b a)

-- different names have different tags
pub tags_apart : (helping : ℕ → Name) (w : ℕ) (n : Net) → Setting helping w n → (x y : Name) → IsDeclared n x → IsDeclared n y
    → bytes_eq x y ≡ false → bytes_eq (name_of_tag x) (name_of_tag y) ≡ false
tags_apart helping w n s x y a b d =
    elim (cases_Bool (bytes_eq (name_of_tag x) (name_of_tag y))) [
      | inl t ↦ absurd (
          let e : x ≡ y = one_tag_each n.names (tags_distinct n.names s.room.distinct) x y a b (equal_of_bytes_eq (name_of_tag x) (name_of_tag y) t) in
          let g : bytes_eq x y ≡ true = subst (λ (z : Name). bytes_eq x z ≡ true) e (bytes_eq_same x) in
          cc)
      | inr f ↦ f
    ]

-- a helping name is neither
pub help_free : (helping : ℕ → Name) (w : ℕ) (n : Net) → Setting helping w n → (i : ℕ) → is_among (helping i) (with_tags n.names) ≡ false
help_free helping w n s i = neither_right (bytes_eq (helping i) n.module_name) _ (s.names.free i)

pub help_apart_tag : (helping : ℕ → Name) (w : ℕ) (n : Net) → Setting helping w n → (i : ℕ) (x : Name) → IsDeclared n x → bytes_eq (helping i) (name_of_tag x) ≡ false
help_apart_tag helping w n s i x a =
    apart_by_membership (helping i) (name_of_tag x) (with_tags n.names) (help_free helping w n s i)
    (tag_with_tags (name_of_tag x) n.names (tag_among x n.names a))

-- what is declared alone isn't found of a name that isn't
pub not_declared : {X : Type 0} (ns : List Name) (es : List (Name × X)) → AreDeclared ns es → (x : Name) → is_among x ns ≡ false → find es x ≡ None
not_declared ns [] d x h = refl
not_declared ns (e ∷ es) d x h = rw (bytes_eq_apart_back x e.0 (apart_by_membership x e.0 ns h d.0)) (not_declared ns es d.1 x h)

pub tag_undeclared : (helping : ℕ → Name) (w : ℕ) (n : Net) → Setting helping w n → (x : Name) → IsDeclared n x → is_among (name_of_tag x) n.names ≡ false
tag_undeclared helping w n s x a =
    elim (cases_Bool (is_among (name_of_tag x) n.names)) [
      | inl t ↦ absurd (no_tag n s.room (name_of_tag x) x t a refl)
      | inr f ↦ f
    ]

pub help_undeclared : (helping : ℕ → Name) (w : ℕ) (n : Net) → Setting helping w n → (i : ℕ) → is_among (helping i) n.names ≡ false
help_undeclared helping w n s i =
    elim (cases_Bool (is_among (helping i) n.names)) [
      | inl t ↦ (let e = name_with_tags (helping i) n.names t in let f = help_free helping w n s i in absurd (cc))
      | inr f ↦ f
    ]

-- a tag is no memory's name, and nor is a helping name
pub tag_no_memory : (helping : ℕ → Name) (w : ℕ) (n : Net) → Setting helping w n → (x : Name) → IsDeclared n x → find (shapes n) (name_of_tag x) ≡ None
tag_no_memory helping w n s x a = not_declared n.names (shapes n) (shapes_declared n s.rules) (name_of_tag x) (tag_undeclared helping w n s x a)

pub help_no_memory : (helping : ℕ → Name) (w : ℕ) (n : Net) → Setting helping w n → (i : ℕ) → find (shapes n) (helping i) ≡ None
help_no_memory helping w n s i = not_declared n.names (shapes n) (shapes_declared n s.rules) (helping i) (help_undeclared helping w n s i)
