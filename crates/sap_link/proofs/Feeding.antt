-- The wire that feeds an input.
use Rattle.std.proofs.Common.{◌≡◌, true, List, [], ◌∷◌, Some, None, refl, sym, ◌∙◌, ap, subst, inl, inr, arith}
use Rattle.std.specs.List.{AllByRecursion}
use Rattle.std.proofs.lemmas.Bool.{cases_Bool}
use Rattle.sap_link.specs.Systems.{Endpoint, same_endpoint, Wire, System, feeding, FedOnce, Connects}
use Rattle.sap_link.specs.Composites.{received, received_by, carried}
use Rattle.sap_link.specs.Laws.{FedInputsReceive}

pub same_is : (d e : Endpoint) → same_endpoint d e ≡ true → d ≡ e
same_is d e same = grind (arith, same)

pub same_self : (e : Endpoint) → same_endpoint e e ≡ true
same_self e = grind arith

some_is : {a b : Wire} → Some a ≡ Some b → a ≡ b
some_is e = cc

-- a wire that feeds is one of the wires, ..
pub found_fits : (y : System) (wires : List Wire) (e : Endpoint) → AllByRecursion (Connects y) wires → (w : Wire) → feeding wires e ≡ Some w → Connects y w
found_fits y [] e all w is = cc
found_fits y (v ∷ wires) e all w is =
    elim (cases_Bool (same_endpoint v.to e)) [
      | inl same ↦ let found : feeding (v ∷ wires) e ≡ Some v = rw same refl in subst (λ u. Connects y u) (some_is (sym found ∙ is)) all.0
      | inr other ↦ let later : feeding (v ∷ wires) e ≡ feeding wires e = rw other refl in found_fits y wires e all.1 w (sym later ∙ is)
    ]

-- .. and leads to the input
pub found_leads : (wires : List Wire) (e : Endpoint) (w : Wire) → feeding wires e ≡ Some w → w.to ≡ e
found_leads [] e w is = cc
found_leads (v ∷ wires) e w is =
    elim (cases_Bool (same_endpoint v.to e)) [
      | inl same ↦ let found : feeding (v ∷ wires) e ≡ Some v = rw same refl in ap (λ (u : Wire). u.to) (sym (some_is (sym found ∙ is))) ∙ same_is v.to e same
      | inr other ↦ let later : feeding (v ∷ wires) e ≡ feeding wires e = rw other refl in found_leads wires e w (sym later ∙ is)
    ]

-- what feeds among wires does so behind one that leads elsewhere
still_feeds : (v w : Wire) (wires : List Wire) → feeding wires v.to ≡ None → feeding wires w.to ≡ Some w → feeding (v ∷ wires) w.to ≡ Some w
still_feeds v w wires free feeds =
    elim (cases_Bool (same_endpoint v.to w.to)) [
      | inl same ↦ let e = same_is v.to w.to same in let none : feeding wires w.to ≡ None = subst (λ d. feeding wires d ≡ None) e free in cc
      | inr other ↦ rw other feeds
    ]

all_feed : (v : Wire) (wires some : List Wire) → feeding wires v.to ≡ None → AllByRecursion (λ w. feeding wires w.to ≡ Some w) some
    → AllByRecursion (λ w. feeding (v ∷ wires) w.to ≡ Some w) some
all_feed v wires [] free all = tt
all_feed v wires (w ∷ some) free all = (still_feeds v w wires free all.0, all_feed v wires some free all.1)

each_feeds : (wires : List Wire) → FedOnce wires → AllByRecursion (λ w. feeding wires w.to ≡ Some w) wires
each_feeds [] once = tt
each_feeds (w ∷ wires) once = (rw (same_self w.to) refl, all_feed w wires wires once.0 (each_feeds wires once.1))

pub fed_receive : FedInputsReceive
fed_receive y once states inputs = receive y.wires (each_feeds y.wires once)
  where
    receive : (some : List Wire) → AllByRecursion (λ w. feeding y.wires w.to ≡ Some w) some → AllByRecursion (λ w. received y states inputs w.to ≡ carried y states w) some
    receive [] all = tt
    receive (w ∷ some) all = (ap (received_by y states inputs w.to) all.0, receive some all.1)
