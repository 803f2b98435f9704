-- The relations that runs keep: looking alike, equality, and equality with tags that are codes.
use Rattle.sap_lemmas.proofs.Common.{◌≡◌, ℕ, true, ap₂, ◌∙◌, refl, inl, inr, bit_or}
use Rattle.sap_lattice.specs.Prelude.{Order, Laws, Codes}
use Rattle.sap_meaning.specs.Agree.{Relation}
use Rattle.sap_taint.specs.Alike.{IsCode, AlikeWithin, Equal, is_within}
use Rattle.sap_taint.proofs.Keeps.{Keeps}
use Rattle.sap_taint.proofs.Within.{both_within, first_beyond, second_beyond, none_within}

alike_follow : (c : ℕ) (P Q : Type 0) (t u : ℕ) → (P → Q) → AlikeWithin c P t u → AlikeWithin c Q t u
alike_follow c P Q t u f (inl a) = inl (f a.0, a.1, a.2)
alike_follow c P Q t u f (inr b) = inr b

-- the second contents, where the first ones are the same
alike_second : (c : ℕ) (P Q : Type 0) (t u t' u' : ℕ) → P → t ≡ u → is_within t c ≡ true → AlikeWithin c Q t' u' → AlikeWithin c (P × Q) (bit_or t t') (bit_or u u')
alike_second c P Q t u t' u' p e w (inl a) = inl ((p, a.0), ap₂ bit_or e a.1, both_within t t' c w a.2)
alike_second c P Q t u t' u' p e w (inr b) = inr (second_beyond t t' c b.0, second_beyond u u' c b.1)

alike_joined : (c : ℕ) (P Q : Type 0) (t u t' u' : ℕ) → AlikeWithin c P t u → (P → AlikeWithin c Q t' u') → AlikeWithin c (P × Q) (bit_or t t') (bit_or u u')
alike_joined c P Q t u t' u' (inl a) f = alike_second c P Q t u t' u' a.0 a.1 a.2 (f a.0)
alike_joined c P Q t u t' u' (inr b) f = inr (first_beyond t t' c b.0, first_beyond u u' c b.1)

pub alike_keeps : (c : ℕ) → Keeps (AlikeWithin c)
alike_keeps c = record { plain = λ P p. inl (p, refl, none_within c); follow = alike_follow c; joined = alike_joined c }

pub equal_keeps : Keeps Equal
equal_keeps =
    record {
      plain = λ P p. (p, refl);
      follow = λ P Q t u f a. (f a.0, a.1);
      joined = λ P Q t u t' u' a f. ((a.0, (f a.0).0), ap₂ bit_or a.1 (f a.0).1);
    }

-- equal contents whose tags are one code
abbrev pub EqualCodes : Order → Relation
EqualCodes o Same t u = Same × (t ≡ u) × IsCode o t

pub code_joined : (o : Order) → Laws o → Codes o → (t u : ℕ) → IsCode o t → IsCode o u → IsCode o (bit_or t u)
code_joined o laws codes t u a b =
    (o.join a.0 b.0, laws.join_is_level a.0 b.0, codes.joined a.0 b.0 ∙ ap₂ bit_or a.2 b.2)

pub codes_keep : (o : Order) → Laws o → Codes o → Keeps (EqualCodes o)
codes_keep o laws codes =
    record {
      plain = λ P p. (p, refl, (o.bottom, laws.bottom_is_level, codes.of_bottom));
      follow = λ P Q t u f a. (f a.0, a.1, a.2);
      joined = λ P Q t u t' u' a f. ((a.0, (f a.0).0), ap₂ bit_or a.1 (f a.0).1, code_joined o laws codes t t' a.2 (f a.0).2);
    }
