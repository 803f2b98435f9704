-- The search for a clash, name by name.
use Rattle.sap_lemmas.proofs.Common.{◌≡◌, ◌<◌, ◌≤◌, ℕ, ◌+◌, suc, List, [], ◌∷◌, ◌++◌, map, length, take, drop, get_or, true, false, ap, sym, ◌∙◌, subst, arith, drop-cons, map-append, append_assoc, take-append-drop, take_all}
use Rattle.std.proofs.Math.Seq.{take-suc}
use Rattle.sap_maps.specs.Maps.{Name}
use Rattle.sap_net.specs.Prelude.{Net, IsNetlist}
use Rattle.sap_taint.specs.TagNames.{name_of_tag, clashes, NoneClashes, IsClash, HasRoomForTags}
use Rattle.sap_taint.proofs.Clashes.{room_of, one_more}

pub take_more : {X : Type 0} (xs : List X) (k : ℕ) (x : X) → k < length xs → x ≡ get_or xs k x → take (k + 1) xs ≡ take k xs ++ x ∷ []
take_more xs k x l e =
    let s : k + 1 ≡ suc k = omega arith in
    ap (λ j. take j xs) s ∙ take-suc xs k x l ∙ ap (λ y. take k xs ++ y ∷ []) (sym e)

pub parted : {X : Type 0} (xs : List X) (k : ℕ) (x : X) → k < length xs → x ≡ get_or xs k x → xs ≡ take k xs ++ x ∷ drop (suc k) xs
parted xs k x l e = sym (take-append-drop k xs) ∙ ap (λ ys. take k xs ++ ys) (drop-cons xs k x l ∙ ap (λ y. y ∷ drop (suc k) xs) (sym e))

pub is_clash : (n : Net) (ns : List Name) → ns ≡ n.names → (k : ℕ) (x : Name) → k < length ns → x ≡ get_or ns k x
    → NoneClashes n [] (take k ns) → clashes n (take k ns) x ≡ true → IsClash n x
is_clash n ns same k x l e none t =
    record { earlier = take k ns; later = drop (suc k) ns; declared = sym same ∙ parted ns k x l e; taken = t; first = none }

pub none_more : (n : Net) (ns : List Name) (k : ℕ) (x : Name) → k < length ns → x ≡ get_or ns k x → NoneClashes n [] (take k ns)
    → clashes n (take k ns) x ≡ false → NoneClashes n [] (take (k + 1) ns)
none_more n ns k x l e none f = subst (NoneClashes n []) (sym (take_more ns k x l e)) (one_more n [] (take k ns) x none f)

pub room_at_end : (n : Net) (ns : List Name) → IsNetlist n → ns ≡ n.names → (k : ℕ) → length ns ≤ k → NoneClashes n [] (take k ns) → HasRoomForTags n
room_at_end n ns rules same k l none = room_of n rules (subst (NoneClashes n []) (take_all k ns l ∙ same) none)

pub tags_more : (ns : List Name) (k : ℕ) (x : Name) → k < length ns → x ≡ get_or ns k x → (front : List Name)
    → (front ++ map name_of_tag (take k ns)) ++ name_of_tag x ∷ [] ≡ front ++ map name_of_tag (take (k + 1) ns)
tags_more ns k x l e front =
    append_assoc front (map name_of_tag (take k ns)) (name_of_tag x ∷ [])
    ∙ ap (λ ys. front ++ ys) (sym (map-append name_of_tag (take k ns) (x ∷ [])) ∙ ap (map name_of_tag) (sym (take_more ns k x l e)))
