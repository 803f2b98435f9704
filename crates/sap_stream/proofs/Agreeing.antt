-- Inputs and streams that agree, place by place; and what answers fit.
use Rattle.std.proofs.Common.{◌≡◌, ℕ, ◌+◌, ◌-◌, ◌<◌, List, [], ◌∷◌, length, get_or, take, sym, ap₂, subst, ◌∙◌, arith}
use Rattle.std.specs.List.{AllZip}
use Rattle.std.proofs.lemmas.List.Elements.{AllZip-get_or, length_all_zip}
use Rattle.sap_lattice.specs.Order.{Order}
use Rattle.sap_meaning.specs.Prelude.{InputsAgree, StreamsAgree, Tagged}
use Rattle.sap_stream.specs.declared.apart.Apart.{Apart}
use Rattle.sap_stream.specs.declared.apart.Apart.TheVariants.{Lengths, At}
use Rattle.sap_stream.specs.Apart.{AreAlike, input_at, cycle_at, IsFirst, IsApartAt, IsApart}
use Rattle.sap_stream.specs.Laws.{AtMostOne}
use Rattle.sap_stream.proofs.Places.{from_places, firsts, only}

abbrev pub unset : Tagged
unset = record { number = 0; level = 0 }

module _ (o : Order) (l : ℕ) where
  zip_inputs : (xs ys : List Tagged) → InputsAgree o l xs ys → AllZip (AreAlike o l) xs ys
  zip_inputs [] [] h = tt
  zip_inputs [] (y ∷ ys) h = h
  zip_inputs (x ∷ xs) [] h = h
  zip_inputs (x ∷ xs) (y ∷ ys) h = (h.0, zip_inputs xs ys h.1)

  inputs_zip : (xs ys : List Tagged) → AllZip (AreAlike o l) xs ys → InputsAgree o l xs ys
  inputs_zip [] [] h = tt
  inputs_zip [] (y ∷ ys) h = h
  inputs_zip (x ∷ xs) [] h = h
  inputs_zip (x ∷ xs) (y ∷ ys) h = (h.0, inputs_zip xs ys h.1)

  zip_streams : (xs ys : List (List Tagged)) → StreamsAgree o l xs ys → AllZip (InputsAgree o l) xs ys
  zip_streams [] [] h = tt
  zip_streams [] (y ∷ ys) h = h
  zip_streams (x ∷ xs) [] h = h
  zip_streams (x ∷ xs) (y ∷ ys) h = (h.0, zip_streams xs ys h.1)

  streams_zip : (xs ys : List (List Tagged)) → AllZip (InputsAgree o l) xs ys → StreamsAgree o l xs ys
  streams_zip [] [] h = tt
  streams_zip [] (y ∷ ys) h = h
  streams_zip (x ∷ xs) [] h = h
  streams_zip (x ∷ xs) (y ∷ ys) h = (h.0, streams_zip xs ys h.1)

  -- inputs that are alike at each place agree
  pub inputs_agree : (xs ys : List Tagged) → length xs ≡ length ys → ((k : ℕ) → k < length xs → AreAlike o l (input_at xs k) (input_at ys k)) → InputsAgree o l xs ys
  inputs_agree xs ys e h = inputs_zip xs ys (from_places (AreAlike o l) unset xs ys e h)

  pub first_input : (xs ys : List Tagged) (i : ℕ) → length xs ≡ length ys → i < length xs → ((k : ℕ) → k < i → AreAlike o l (input_at xs k) (input_at ys k))
      → ¬ AreAlike o l (input_at xs i) (input_at ys i) → IsFirst o l xs ys i
  first_input xs ys i e a h unlike = record {
    in_first = a;
    in_second = omega arith;
    before = inputs_zip (take i xs) (take i ys) (firsts (AreAlike o l) unset xs ys i (omega arith) (omega arith) h);
    here = unlike;
  }

  no_agreement : (xs ys : List Tagged) (i : ℕ) → IsFirst o l xs ys i → ¬ InputsAgree o l xs ys
  no_agreement xs ys i f h = f.here (AllZip-get_or (AreAlike o l) xs ys i unset unset (zip_inputs xs ys h) f.in_first)

  same_input : (xs ys : List Tagged) (i j : ℕ) → IsFirst o l xs ys i → IsFirst o l xs ys j → i ≡ j
  same_input xs ys i j f g =
      only (AreAlike o l) unset xs ys i j f.in_first g.in_first (zip_inputs (take i xs) (take i ys) f.before) f.here
      (zip_inputs (take j xs) (take j ys) g.before) g.here

  pub streams_agree : (xs ys : List (List Tagged)) → length xs ≡ length ys → ((k : ℕ) → k < length xs → InputsAgree o l (get_or xs k []) (get_or ys k [])) → StreamsAgree o l xs ys
  streams_agree xs ys e h = streams_zip xs ys (from_places (InputsAgree o l) [] xs ys e h)

  -- the answer for the cycle at place k, which is told as k + 1
  pub first_cycle : (xs ys : List (List Tagged)) (k i : ℕ) → length xs ≡ length ys → k < length xs → ((j : ℕ) → j < k → InputsAgree o l (get_or xs j []) (get_or ys j []))
      → IsFirst o l (get_or xs k []) (get_or ys k []) i → IsApartAt o l xs ys (k + 1) i
  first_cycle xs ys k i e a h f =
      let same : k ≡ (k + 1) - 1 = omega arith in
      record {
        lengths = e;
        counted = omega arith;
        within = omega arith;
        before = subst (λ (n : ℕ). StreamsAgree o l (take n xs) (take n ys)) same
            (streams_zip (take k xs) (take k ys) (firsts (InputsAgree o l) [] xs ys k (omega arith) (omega arith) h));
        here = subst (λ (n : ℕ). IsFirst o l (get_or xs n []) (get_or ys n []) i) same f;
      }

  no_streams : (xs ys : List (List Tagged)) (cycle i : ℕ) → IsApartAt o l xs ys cycle i → ¬ StreamsAgree o l xs ys
  no_streams xs ys cycle i a h =
      let counted = a.counted in
      let within = a.within in
      let there : cycle - 1 < length xs = omega arith in
      no_agreement (cycle_at xs cycle) (cycle_at ys cycle) i a.here
      (AllZip-get_or (InputsAgree o l) xs ys (cycle - 1) [] [] (zip_streams xs ys h) there)

  same_cycle : (xs ys : List (List Tagged)) (c i d j : ℕ) → IsApartAt o l xs ys c i → IsApartAt o l xs ys d j → c ≡ d
  same_cycle xs ys c i d j a b =
      let in_c = a.counted in
      let in_d = b.counted in
      let end_c = a.within in
      let end_d = b.within in
      let e : c - 1 ≡ d - 1 =
      only (InputsAgree o l) [] xs ys (c - 1) (d - 1) (omega arith) (omega arith)
      (zip_streams (take (c - 1) xs) (take (c - 1) ys) a.before) (no_agreement (cycle_at xs c) (cycle_at ys c) i a.here)
      (zip_streams (take (d - 1) xs) (take (d - 1) ys) b.before) (no_agreement (cycle_at xs d) (cycle_at ys d) j b.here) in
      omega arith

  same_at : (xs ys : List (List Tagged)) (c i d j : ℕ) → IsApartAt o l xs ys c i → IsApartAt o l xs ys d j → At c i ≡ At d j
  same_at xs ys c i d j a b =
      let e = same_cycle xs ys c i d j a b in
      let here : IsFirst o l (cycle_at xs d) (cycle_at ys d) i = subst (λ (n : ℕ). IsFirst o l (cycle_at xs n) (cycle_at ys n) i) e a.here in
      ap₂ (λ (n m : ℕ). At n m) e (same_input (cycle_at xs d) (cycle_at ys d) i j here b.here)

  pub same_apart : (xs ys : List (List Tagged)) (a b : Apart) → IsApart o l xs ys a → IsApart o l xs ys b → a ≡ b
  same_apart xs ys (Lengths a b) (Lengths c d) f g = ap₂ (λ (n m : ℕ). Lengths n m) (f.0 ∙ sym g.0) (f.1 ∙ sym g.1)
  same_apart xs ys (Lengths a b) (At d j) f g = absurd (f.2 (f.0 ∙ g.lengths ∙ sym f.1))
  same_apart xs ys (At c i) (Lengths a b) f g = absurd (g.2 (g.0 ∙ f.lengths ∙ sym g.1))
  same_apart xs ys (At c i) (At d j) f g = same_at xs ys c i d j f g

  pub none_apart : (xs ys : List (List Tagged)) (a : Apart) → StreamsAgree o l xs ys → IsApart o l xs ys a → ⊥
  none_apart xs ys (Lengths a b) h f = f.2 (f.0 ∙ length_all_zip (InputsAgree o l) xs ys (zip_streams xs ys h) ∙ sym f.1)
  none_apart xs ys (At c i) h f = no_streams xs ys c i f h

pub at_most_one : AtMostOne
at_most_one = record { same = same_apart; none = none_apart }
