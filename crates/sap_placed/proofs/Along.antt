-- Things that stand along tokens, in their order.
use Rattle.std.proofs.Common.{◌≡◌, List, [], ◌∷◌, ◌++◌, sym, ap, subst, ◌∙◌}
use Rattle.std.specs.Prelude.{map}
use Rattle.std.specs.List.{AllByRecursion}
use Rattle.sap_lex.specs.declared.token.Kind.{Kind}
use Rattle.sap_lex.specs.declared.token.Token.{Token}
use Rattle.sap_parse.specs.Stages.{Stage, IsToken, front_place, here}
use Rattle.sap_parse.specs.declared.role.Role.{Role}
use Rattle.sap_placed.proofs.Tokens.{places_of}
use Rattle.sap_placed.specs.Placed.{LiesBefore, Rise}
use Rattle.sap_text.specs.declared.place.Place.{Place}

-- from the first tokens to those that are left, these stand at some of the tokens between, each at one behind that of the one before it
pub data Along {A : Type 0} (place : A → Place) : List Token → List A → List Token → Type 0 where
  stay : {ts : List Token} → Along place ts [] ts
  pass : {t : Token} {ts us : List Token} {xs : List A} → Along place ts xs us → Along place (t ∷ ts) xs us
  meet : {t : Token} {ts us : List Token} {x : A} {xs : List A} → place x ≡ t.place → Along place ts xs us → Along place (t ∷ ts) (x ∷ xs) us

-- between these stages
abbrev pub Between : {A : Type 0} (place : A → Place) → Stage → List A → Stage → Type 0
Between place p xs q = Along place p.left xs q.left

infixr 10 ◌then◌
pub ◌then◌ : {A : Type 0} {place : A → Place} {ts us vs : List Token} {xs ys : List A} → Along place ts xs us → Along place us ys vs → Along place ts (xs ++ ys) vs
stay then b = b
(pass a) then b = pass (a then b)
(meet e a) then b = meet e (a then b)

-- and none between the last two
infixr 10 ◌upto◌
pub ◌upto◌ : {A : Type 0} {place : A → Place} {ts us vs : List Token} {xs : List A} → Along place ts xs us → Along place us [] vs → Along place ts xs vs
stay upto b = b
(pass a) upto b = pass (a upto b)
(meet e a) upto b = meet e (a upto b)

-- no matter what stands there
pub passes : {A B : Type 0} {place : A → Place} {other : B → Place} {ts us : List Token} {xs : List A} → Along place ts xs us → Along other ts [] us
passes stay = stay
passes (pass a) = pass (passes a)
passes (meet e a) = pass (passes a)

pub mapped : {A B : Type 0} (f : A → B) (place : B → Place) {ts us : List Token} {xs : List A} → Along (λ x. place (f x)) ts xs us → Along place ts (map f xs) us
mapped f place stay = stay
mapped f place (pass a) = pass (mapped f place a)
mapped f place (meet e a) = meet e (mapped f place a)

-- single tokens

pub skips : {A : Type 0} {place : A → Place} {p q : Stage} {role : Role} {kind : Kind} → IsToken p role kind q → Between place p [] q
skips {place = place} {q = q} h = subst (λ ts. Along place ts [] q.left) (sym h.left) (pass stay)

pub meets : {A : Type 0} {place : A → Place} {p q : Stage} {role : Role} {kind : Kind} (x : A) → place x ≡ here p → IsToken p role kind q → Between place p (x ∷ []) q
meets {place = place} {q = q} x e h = subst (λ ts. Along place ts (x ∷ []) q.left) (sym h.left) (meet (e ∙ ap front_place h.left) stay)

-- the places of what stands along tokens rise as those of the tokens do

all_along : {A : Type 0} {place : A → Place} {ts us : List Token} {xs : List A} (P : Place → Type 0) → Along place ts xs us → AllByRecursion P (places_of ts)
    → AllByRecursion P (map place xs)
all_along P stay h = tt
all_along P (pass a) h = all_along P a h.1
all_along P (meet e a) h = (subst P (sym e) h.0, all_along P a h.1)

pub rise_along : {A : Type 0} {place : A → Place} {ts us : List Token} {xs : List A} → Along place ts xs us → Rise (places_of ts) → Rise (map place xs)
rise_along stay h = tt
rise_along (pass a) h = rise_along a h.1
rise_along {place = place} (meet {t = t} {xs = xs} e a) h =
    (subst (λ p. AllByRecursion (LiesBefore p) (map place xs)) (sym e) (all_along (LiesBefore t.place) a h.0), rise_along a h.1)
