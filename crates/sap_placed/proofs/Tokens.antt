-- The tokens of a text stand one behind another.
use Rattle.std.proofs.Common.{◌≡◌, ◌<◌, ◌≤◌, ◌+◌, ◌-◌, inl, inr, ℕ, List, [], ◌∷◌, ◌++◌, length, length-take, take, drop, refl, sym, ap, subst, ◌∙◌, arith}
use Rattle.std.proofs.lemmas.List.{length-drop}
use Rattle.std.specs.Prelude.{map, ◌==◌}
use Rattle.std.specs.List.{AllByRecursion}
use Rattle.sap_lex.proofs.Places.{place_at-more}
use Rattle.sap_lex.proofs.Spelled.{by_test}
use Rattle.sap_lex.proofs.TokenTexts.{tokens_order}
use Rattle.sap_lex.specs.Lexing.{AreTokens, Reached, StandsAt, behind_sapper, is_sapper, is_two, keyed, later_token}
use Rattle.sap_lex.specs.Spelled.{AreInOrder}
use Rattle.sap_lex.specs.declared.token.Token.{Token}
use Rattle.sap_placed.specs.Placed.{LiesBefore, Rise}
use Rattle.sap_text.specs.Places.{next_place, place_after, place_at}
use Rattle.sap_text.specs.declared.place.Place.{Place}
use Rattle.sap_walk.specs.Reached.{start, blank, token}

-- a place behind more bytes is a later one

before_next : (p : Place) (b : ℕ) → LiesBefore p (next_place p b)
before_next p b = by_test (LiesBefore p) (b == 10) (λ h. inl (omega arith)) (λ h. inr (refl, omega arith))

before_later : (p q r : Place) → LiesBefore p q → LiesBefore q r → LiesBefore p r
before_later p q r (inl a) (inl b) = inl (omega arith)
before_later p q r (inl a) (inr b) = inl (let e = b.0 in omega arith)
before_later p q r (inr a) (inl b) = inl (let e = a.0 in omega arith)
before_later p q r (inr a) (inr b) = inr (a.0 ∙ b.0, (let x = a.1 in let y = b.1 in omega arith))

before_after : (p q : Place) (bytes : List ℕ) → LiesBefore p q → LiesBefore p (place_after q bytes)
before_after p q [] h = h
before_after p q (b ∷ bytes) h = before_after p (next_place q b) bytes (before_later p q (next_place q b) h (before_next q b))

after_some : (p : Place) (bytes : List ℕ) → 0 < length bytes → LiesBefore p (place_after p bytes)
after_some p [] h = absurd (omega arith)
after_some p (b ∷ bytes) h = before_after p (next_place p b) bytes (before_next p b)

places_before : (text : List ℕ) (n m : ℕ) → n < m → m ≤ length text → LiesBefore (place_at text n) (place_at text m)
places_before text n m l h =
    let some : 0 < length (take (m - n) (drop n text)) = omega (arith, length-take (m - n) (drop n text), length-drop n text) in
    let there : n + (m - n) ≡ m = omega arith in
    subst (LiesBefore (place_at text n)) (sym (place_at-more text n (m - n)) ∙ ap (place_at text) there)
    (after_some (place_at text n) (take (m - n) (drop n text)) some)

-- each token has the place of its first byte

HasPlace : List ℕ → Token → Type 0
HasPlace text t = t.place ≡ place_at text t.from

abbrev HavePlaces : List ℕ → List Token → Type 0
HavePlaces text ts = AllByRecursion (HasPlace text) ts

push_place : (text : List ℕ) (ts : List Token) (t : Token) → HavePlaces text ts → HasPlace text t → HavePlaces text (ts ++ t ∷ [])
push_place text [] t h g = (g, tt)
push_place text (u ∷ ts) t h g = (h.0, push_place text ts t h.1 g)

stands_place : (text : List ℕ) (n : ℕ) (t : Token) (len : ℕ) → StandsAt text n t len → HasPlace text t
unfolding HasPlace
stands_place text n t len s = s.place ∙ ap (place_at text) (sym s.from)

reached_places : (text : List ℕ) {n : ℕ} {ts : List Token} → Reached text n ts → HavePlaces text ts
reached_places text start = tt
reached_places text (blank len r b) = reached_places text r
reached_places text (token {n = n} {ts = ts} t len r s) = push_place text ts t (reached_places text r) (stands_place text n t len s)

later_places : (text : List ℕ) (ts : List Token) → HavePlaces text ts → HavePlaces text (map later_token ts)
unfolding HasPlace
later_places text [] h = tt
later_places text (t ∷ ts) h = (h.0, later_places text ts h.1)

behind_places : (text : List ℕ) (ts : List Token) → HavePlaces text ts → HavePlaces text (behind_sapper ts)
unfolding HasPlace
behind_places text [] h = tt
behind_places text (t ∷ ts) h = (by_test (λ (u : Token). u.place ≡ place_at text u.from) (is_two t) (λ e. h.0) (λ e. h.0), later_places text ts h.1)

keyed_places : (text : List ℕ) (ts : List Token) → HavePlaces text ts → HavePlaces text (keyed ts)
unfolding keyed HasPlace
keyed_places text [] h = tt
keyed_places text (t ∷ ts) h = by_test (HavePlaces text) (is_sapper t.kind) (λ e. (h.0, behind_places text ts h.1)) (λ e. h)

tokens_places : (text : List ℕ) (ts : List Token) → AreTokens text ts → HavePlaces text ts
tokens_places text ts a = subst (HavePlaces text) (sym a.keyed_are) (keyed_places text a.found (reached_places text a.reached))

-- so their places rise

ends_within : (from to : ℕ) (ts : List Token) → AreInOrder from to ts → from ≤ to
ends_within from to [] o = o
ends_within from to (t ∷ ts) o =
    let a = o.0 in let b = o.1 in let c = ends_within t.to to ts o.2 in
    omega arith

abbrev pub places_of : List Token → List Place
places_of ts = map (λ (t : Token). t.place) ts

before_all : (text : List ℕ) (n from : ℕ) (ts : List Token) → n < from → AreInOrder from (length text) ts → HavePlaces text ts
    → AllByRecursion (LiesBefore (place_at text n)) (places_of ts)
unfolding HasPlace
before_all text n from [] l o h = tt
before_all text n from (t ∷ ts) l o h =
    let a = o.0 in let b = o.1 in let c = ends_within t.to (length text) ts o.2 in
    (subst (LiesBefore (place_at text n)) (sym h.0) (places_before text n t.from (omega arith) (omega arith)), before_all text n t.to ts (omega arith) o.2 h.1)

rise_from : (text : List ℕ) (from : ℕ) (ts : List Token) → AreInOrder from (length text) ts → HavePlaces text ts → Rise (places_of ts)
unfolding HasPlace
rise_from text from [] o h = tt
rise_from text from (t ∷ ts) o h =
    (subst (λ p. AllByRecursion (LiesBefore p) (places_of ts)) (sym h.0) (before_all text t.from t.to ts o.1 o.2 h.1), rise_from text t.to ts o.2 h.1)

pub tokens_rise : (text : List ℕ) (ts : List Token) → AreTokens text ts → Rise (places_of ts)
tokens_rise text ts a = rise_from text 0 ts (tokens_order text ts a) (tokens_places text ts a)
