-- The declarations of a dump.
use Rattle.sap_lemmas.proofs.Common.{◌≡◌, ℕ, ◌+◌, List, [], ◌∷◌, ◌++◌, true, false, ◌||◌, length, refl, sym, ap, ◌∙◌, subst, AllByRecursion, bytes_eq, digits_value, append-nil, map-append, neither_left, neither_right, bytes_eq_symmetric}
use Rattle.sap_maps.specs.Prelude.{Name, IsWidth}
use Rattle.sap_net.specs.Names.{is_name, is_among, AreDistinct}
use Rattle.sap_net.proofs.NamesLemmas.{among_append}
use Rattle.sap_wave.specs.Prelude.{identifier, numeral, declaring, IsVariable, names_of, declarations}
use Rattle.sap_wave.specs.declared.variable.Variable.{Variable}
use Rattle.sap_wave.proofs.Formed.{variable_plain, numeral_back}
use Rattle.sap_wave.proofs.Going.{Goes, goes_from}
use Rattle.sap_wave.proofs.Lists.{one_more_of, one_further}

-- a name that the ones behind it aren't is none of those before it
new_name : (xs : List Name) (y : Name) (ys : List Name) → AreDistinct (xs ++ (y ∷ ys)) → is_among y xs ≡ false
new_name [] y ys h = refl
new_name (x ∷ xs) y ys h =
    let both : (is_among x xs || is_among x (y ∷ ys)) ≡ false = sym (among_append x xs (y ∷ ys)) ∙ h.0 in
    let apart : bytes_eq x y ≡ false = neither_left (bytes_eq x y) (is_among x ys) (neither_right (is_among x xs) (is_among x (y ∷ ys)) both) in
    let e : bytes_eq y x ≡ false = bytes_eq_symmetric y x ∙ apart in
    rw e (new_name xs y ys h.1)

declared : (all done xs : List Variable) (k : ℕ) → all ≡ done ++ xs → k ≡ length done → AreDistinct (names_of all)
    → AllByRecursion (λ x. is_name x.name ≡ true) xs → AllByRecursion (λ x. IsWidth x.width) xs → Goes (declaring done) (declarations k xs) (declaring all)
declared all done [] k e l d n w = ap declaring (sym (append-nil done) ∙ sym e)
declared all done (x ∷ xs) k e l d n w =
    let back = numeral_back x.width in
    let names : names_of all ≡ names_of done ++ (x.name ∷ names_of xs) = ap names_of e ∙ map-append (λ (v : Variable). v.name) done (x ∷ xs) in
    let takes : IsVariable done (numeral x.width) (identifier k) x.name =
    record {
      numbered = ap identifier l;
      sized = subst IsWidth (sym back) w.0;
      named = n.0;
      new = new_name (names_of done) x.name (names_of xs) (subst AreDistinct names d);
    } in
    let same : declaring (done ++ (record { name = x.name; width = digits_value 10 (numeral x.width) } ∷ [])) ≡ declaring (done ++ (x ∷ [])) =
    ap (λ (z : ℕ). let v : Variable = record { name = x.name; width = z } in declaring (done ++ (v ∷ []))) back in
    let more : k + 1 ≡ length (done ++ (x ∷ [])) = ap (λ (z : ℕ). z + 1) l ∙ sym (one_more_of done x) in (
      variable_plain x.width k x.name n.0,
      takes,
      goes_from _ (declaring (done ++ (x ∷ []))) (declaring all) (declarations (k + 1) xs) same
          (declared all (done ++ (x ∷ [])) xs (k + 1) (e ∙ one_further done x xs) more d n.1 w.1),
    )

pub all_declared : (xs : List Variable) → AreDistinct (names_of xs) → AllByRecursion (λ x. is_name x.name ≡ true) xs
    → AllByRecursion (λ x. IsWidth x.width) xs → Goes (declaring []) (declarations 0 xs) (declaring xs)
all_declared xs d n w = declared xs [] xs 0 refl refl d n w
