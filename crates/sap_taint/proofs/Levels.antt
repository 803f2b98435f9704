-- From bits of tags to codes of levels, and what the laws of whole runs need besides.
use Rattle.sap_lemmas.proofs.Common.{◌≡◌, ℕ, List, [], ◌∷◌, map, sym, ap, ◌∙◌, refl, inl, inr, ◌<◌, AllByRecursion, None}
use Rattle.sap_lattice.specs.Prelude.{Order, Laws, Codes, code_of}
use Rattle.sap_meaning.specs.Prelude.{Relation, InputsAgree, StreamsAgree, LookAlike, Tagged}
use Rattle.sap_net.specs.Prelude.{Net, IsNetlist}
use Rattle.sap_taint.specs.Runs.{TaggedNumber, TaggedValuation, IsTaintedRun, observed_with_tags}
use Rattle.sap_taint.specs.Alike.{IsCode, AlikeWithin, Equal, is_within, RunsRelated, InputsRelated, StreamsRelated}
use Rattle.sap_taint.specs.Laws.{AreCoded, HasCodes, Throughout, OneTaint, CodesStayCodes, AlikeThroughout, AgreeThroughout, with_codes, stream_with_codes, AreLevels}
use Rattle.sap_taint.proofs.Keeps.{Keeps}
use Rattle.sap_taint.proofs.Keepers.{alike_keeps, equal_keeps, EqualCodes, codes_keep}
use Rattle.sap_taint.proofs.Cycles.{runs_related}
use Rattle.sap_taint.proofs.Observed.{all_seen_related}

-- related inputs give runs that are related throughout
pub throughout : (R : Relation) → Keeps R → (n : Net) → IsNetlist n → (xss yss : List (List TaggedNumber)) (cs ds : List TaggedValuation) → StreamsRelated R xss yss
    → IsTaintedRun n xss cs → IsTaintedRun n yss ds → Throughout R n cs ds
throughout R k n rules xss yss cs ds e a b =
    let r = runs_related R k n rules xss yss None None cs ds tt e a b in
    (r, all_seen_related R k n rules cs ds r)

inputs_equal : (xs : List TaggedNumber) → InputsRelated Equal xs xs
inputs_equal [] = tt
inputs_equal (x ∷ xs) = ((refl, refl), inputs_equal xs)

streams_equal : (xss : List (List TaggedNumber)) → StreamsRelated Equal xss xss
streams_equal [] = tt
streams_equal (xs ∷ xss) = (inputs_equal xs, streams_equal xss)

pub one_taint_of : (n : Net) → IsNetlist n → OneTaint n
one_taint_of n rules xss cs ds a b = throughout Equal equal_keeps n rules xss xss cs ds (streams_equal xss) a b

-- codes
inputs_code : (o : Order) (xs : List TaggedNumber) → AllByRecursion (λ x. IsCode o x.tag) xs → InputsRelated (EqualCodes o) xs xs
inputs_code o [] a = tt
inputs_code o (x ∷ xs) a = ((refl, refl, a.0), inputs_code o xs a.1)

streams_code : (o : Order) (xss : List (List TaggedNumber)) → AreCoded o xss → StreamsRelated (EqualCodes o) xss xss
streams_code o [] a = tt
streams_code o (xs ∷ xss) a = (inputs_code o xs a.0, streams_code o xss a.1)

codes_of : (o : Order) (n : Net) (cs : List TaggedValuation) → RunsRelated (EqualCodes o) n cs cs → AllByRecursion (HasCodes o n) cs
codes_of o n [] a = tt
codes_of o n (c ∷ cs) a =
    (record { value = λ x w h. (a.0.value x w h).2; memory = λ m s h. (a.0.memory m s h).2 }, codes_of o n cs a.1)

pub codes_stay : (o : Order) → Laws o → Codes o → (n : Net) → IsNetlist n → CodesStayCodes o n
codes_stay o laws codes n rules xss cs e a =
    let r = throughout (EqualCodes o) (codes_keep o laws codes) n rules xss xss cs cs (streams_code o xss e) a a in
    (codes_of o n cs r.0, codes_of o n (map (observed_with_tags n) cs) r.1)

pub alike_throughout : (n : Net) → IsNetlist n → AlikeThroughout n
alike_throughout n rules c xss yss cs ds e a b = throughout (AlikeWithin c) (alike_keeps c) n rules xss yss cs ds e a b

-- the code of a level is within that of l exactly where the level is at or below l
within_is_low : (o : Order) → Codes o → (l a t : ℕ) → code_of o a ≡ t → o.le a l ≡ is_within t (code_of o l)
within_is_low o codes l a t e = sym (codes.within a l) ∙ ap (λ n. is_within n (code_of o l)) e

agrees_at : (o : Order) → Codes o → (l : ℕ) (Same : Type 0) (t u : ℕ) → AlikeWithin (code_of o l) Same t u → IsCode o t → IsCode o u
    → LookAlike o (code_of o) l Same t u
agrees_at o codes l Same t u (inl a) x y = inl (a.0, a.1, (x.0, x.1, x.2, within_is_low o codes l x.0 t x.2 ∙ a.2))
agrees_at o codes l Same t u (inr b) x y =
    inr ((x.0, x.1, x.2, within_is_low o codes l x.0 t x.2 ∙ b.0), (y.0, y.1, y.2, within_is_low o codes l y.0 u y.2 ∙ b.1))

inputs_look : (o : Order) → Codes o → (l : ℕ) (xs ys : List Tagged) → InputsAgree o l xs ys → InputsRelated (AlikeWithin (code_of o l)) (with_codes o xs) (with_codes o ys)
inputs_look o codes l [] [] e = tt
inputs_look o codes l [] (y ∷ ys) e = absurd e
inputs_look o codes l (x ∷ xs) [] e = absurd e
inputs_look o codes l (x ∷ xs) (y ∷ ys) e = (
  elim e.0 [
    | inl a ↦ inl (a.0, ap (code_of o) a.1, codes.within x.level l ∙ a.2)
    | inr b ↦ inr (codes.within x.level l ∙ b.0, codes.within y.level l ∙ b.1)
  ],
  inputs_look o codes l xs ys e.1,
)

streams_look : (o : Order) → Codes o → (l : ℕ) (a b : List (List Tagged)) → StreamsAgree o l a b
    → StreamsRelated (AlikeWithin (code_of o l)) (stream_with_codes o a) (stream_with_codes o b)
streams_look o codes l [] [] e = tt
streams_look o codes l [] (y ∷ ys) e = absurd e
streams_look o codes l (x ∷ xs) [] e = absurd e
streams_look o codes l (x ∷ xs) (y ∷ ys) e = (inputs_look o codes l x y e.0, streams_look o codes l xs ys e.1)

inputs_coded : (o : Order) (xs : List Tagged) → AllByRecursion (λ x. x.level < o.count) xs → AllByRecursion (λ x. IsCode o x.tag) (with_codes o xs)
inputs_coded o [] a = tt
inputs_coded o (x ∷ xs) a = ((x.level, a.0, refl), inputs_coded o xs a.1)

streams_coded : (o : Order) (a : List (List Tagged)) → AreLevels o a → AreCoded o (stream_with_codes o a)
streams_coded o [] a = tt
streams_coded o (xs ∷ xss) a = (inputs_coded o xs a.0, streams_coded o xss a.1)

runs_agree_at : (o : Order) → Codes o → (l : ℕ) (n : Net) (cs ds : List TaggedValuation) → RunsRelated (AlikeWithin (code_of o l)) n cs ds
    → AllByRecursion (HasCodes o n) cs → AllByRecursion (HasCodes o n) ds → RunsRelated (LookAlike o (code_of o) l) n cs ds
runs_agree_at o codes l n [] [] r a b = tt
runs_agree_at o codes l n [] (d ∷ ds) r a b = absurd r
runs_agree_at o codes l n (c ∷ cs) [] r a b = absurd r
runs_agree_at o codes l n (c ∷ cs) (d ∷ ds) r a b = (
  record {
    value = λ x w h. agrees_at o codes l _ _ _ (r.0.value x w h) (a.0.value x w h) (b.0.value x w h);
    memory = λ m s h. agrees_at o codes l _ _ _ (r.0.memory m s h) (a.0.memory m s h) (b.0.memory m s h);
  },
  runs_agree_at o codes l n cs ds r.1 a.1 b.1,
)

pub agree_throughout : (o : Order) → Laws o → Codes o → (n : Net) → IsNetlist n → AgreeThroughout o n
agree_throughout o laws codes n rules l a b cs ds la lb e ra rb =
    let r = alike_throughout n rules (code_of o l) (stream_with_codes o a) (stream_with_codes o b) cs ds (streams_look o codes l a b e) ra rb in
    let ca = codes_stay o laws codes n rules (stream_with_codes o a) cs (streams_coded o a la) ra in
    let cb = codes_stay o laws codes n rules (stream_with_codes o b) ds (streams_coded o b lb) rb in
    (runs_agree_at o codes l n cs ds r.0 ca.0 cb.0, runs_agree_at o codes l n (map (observed_with_tags n) cs) (map (observed_with_tags n) ds) r.1 ca.1 cb.1)
