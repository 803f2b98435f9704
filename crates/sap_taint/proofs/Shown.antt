-- What follows for a netlist that carries the taint of another.
use Rattle.sap_lemmas.proofs.Common.{◌≡◌, ℕ, List, [], ◌∷◌, map, sym, ◌∙◌, ap, refl, inl, inr, AllByRecursion}
use Rattle.sap_lattice.specs.Prelude.{Order, Laws, Codes, code_of}
use Rattle.sap_maps.specs.Maps.{Valuation}
use Rattle.sap_meaning.specs.Prelude.{Relation, LookAlike}
use Rattle.sap_net.specs.Prelude.{Net, IsNetlist, SomeRun, OneRun}
use Rattle.sap_taint.specs.Runs.{TaggedValuation, observed_with_tags}
use Rattle.sap_taint.specs.Alike.{Equal, AreRelated, RunsRelated}
use Rattle.sap_taint.specs.Laws.{HasCodes}
use Rattle.sap_taint.specs.Carries.{woven, read_off, CarriesTaint, OneTaggedRun, ShowsTaint, TagsStayCodes, RunsWithTagsAgree}
use Rattle.sap_taint.proofs.CarriesCycle.{takes_tags}
use Rattle.sap_taint.proofs.Levels.{one_taint_of, agree_throughout, codes_stay}

-- a relation that holds of contents also holds of what follows from them
abbrev Follows : Relation → Type 1
Follows R = (P Q : Type 0) (t u : ℕ) → (P → Q) → R P t u → R Q t u

-- equal contents are related as these are
between_equals : (R : Relation) → Follows R → (n : Net) (c c' d d' : TaggedValuation) → AreRelated Equal n c c' → AreRelated Equal n d d'
    → AreRelated R n c' d' → AreRelated R n c d
between_equals R follow n c c' d d' e f r =
    record {
      value = λ x w h. let p = e.value x w h in let q = f.value x w h in
          rw (p.1, q.1) (follow _ _ _ _ (λ s. p.0 ∙ s ∙ sym q.0) (r.value x w h));
      memory = λ m s h. let p = e.memory m s h in let q = f.memory m s h in
          rw (p.1, q.1) (follow _ _ _ _ (λ s i. p.0 i ∙ s i ∙ sym (q.0 i)) (r.memory m s h));
    }

runs_between_equals : (R : Relation) → Follows R → (n : Net) (cs cs' ds ds' : List TaggedValuation) → RunsRelated Equal n cs cs' → RunsRelated Equal n ds ds'
    → RunsRelated R n cs' ds' → RunsRelated R n cs ds
runs_between_equals R k n [] [] [] [] e f r = tt
runs_between_equals R k n [] (c ∷ cs') ds ds' e f r = absurd e
runs_between_equals R k n (c ∷ cs) [] ds ds' e f r = absurd e
runs_between_equals R k n cs cs' [] (d ∷ ds') e f r = absurd f
runs_between_equals R k n cs cs' (d ∷ ds) [] e f r = absurd f
runs_between_equals R k n [] [] (d ∷ ds) (d' ∷ ds') e f r = absurd r
runs_between_equals R k n (c ∷ cs) (c' ∷ cs') [] [] e f r = absurd r
runs_between_equals R k n (c ∷ cs) (c' ∷ cs') (d ∷ ds) (d' ∷ ds') e f r =
    (between_equals R k n c c' d d' e.0 f.0 r.0, runs_between_equals R k n cs cs' ds ds' e.1 f.1 r.1)

agree_follow : (o : Order) (l : ℕ) → Follows (LookAlike o (code_of o) l)
agree_follow o l P Q t u f (inl a) = inl (f a.0, a.1, a.2)
agree_follow o l P Q t u f (inr b) = inr b

equal_follow : Follows Equal
equal_follow P Q t u f a = (f a.0, a.1)

runs_equal : (n : Net) (cs : List TaggedValuation) → RunsRelated Equal n cs cs
runs_equal n [] = tt
runs_equal n (c ∷ cs) = (record { value = λ x w h. (refl, refl); memory = λ m s h. (λ i. refl, refl) }, runs_equal n cs)

seen_map : (n : Net) (us : List Valuation) → map (λ u. observed_with_tags n (read_off u)) us ≡ map (observed_with_tags n) (map read_off us)
seen_map n [] = refl
seen_map n (u ∷ us) = ap (λ cs. observed_with_tags n (read_off u) ∷ cs) (seen_map n us)

pub one_tagged_run : (w : ℕ) (n m : Net) → SomeRun m → OneRun m → CarriesTaint w n m → OneTaggedRun w n m
one_tagged_run w n m some one carries xss fit =
    let r = some (map woven xss) (takes_tags w n m carries.form xss fit) in
    (r.0, r.1, λ vs run. one (map woven xss) r.0 vs r.1 run)

pub shows_taint : (w : ℕ) (n m : Net) → IsNetlist n → CarriesTaint w n m → ShowsTaint n m
shows_taint w n m rules carries xss us cs run tainted =
    let r = one_taint_of n rules xss (map read_off us) cs (carries.runs xss us run) tainted in
    let r' : RunsRelated Equal n (map (λ u. observed_with_tags n (read_off u)) us) (map (observed_with_tags n) cs) = rw (seen_map n us) r.1 in
    (r.0, runs_between_equals Equal equal_follow n _ _ _ _ (carries.seen xss us run) (runs_equal n (map (observed_with_tags n) cs)) r')

codes_between : (o : Order) (n : Net) (cs cs' : List TaggedValuation) → RunsRelated Equal n cs cs' → AllByRecursion (HasCodes o n) cs' → AllByRecursion (HasCodes o n) cs
codes_between o n [] [] e h = tt
codes_between o n [] (c ∷ cs') e h = tt
codes_between o n (c ∷ cs) [] e h = absurd e
codes_between o n (c ∷ cs) (c' ∷ cs') e h = (
  record {
    value = λ x w f. rw (e.0.value x w f).1 (h.0.value x w f);
    memory = λ m s f. rw (e.0.memory m s f).1 (h.0.memory m s f);
  },
  codes_between o n cs cs' e.1 h.1,
)

pub tags_stay_codes : (o : Order) → Laws o → Codes o → (w : ℕ) (n m : Net) → IsNetlist n → CarriesTaint w n m → TagsStayCodes o n m
tags_stay_codes o laws codes w n m rules carries xss us e run =
    let r = (codes_stay o laws codes n rules xss (map read_off us) e (carries.runs xss us run)).1 in
    codes_between o n _ _ (carries.seen xss us run) (rw (seen_map n us) r)

pub runs_with_tags_agree : (o : Order) → Laws o → Codes o → (w : ℕ) (n m : Net) → IsNetlist n → CarriesTaint w n m → RunsWithTagsAgree o n m
runs_with_tags_agree o laws codes w n m rules carries l a b us vs la lb e ra rb =
    let R = LookAlike o (code_of o) l in
    let r = (agree_throughout o laws codes n rules l a b (map read_off us) (map read_off vs) la lb e (carries.runs _ us ra) (carries.runs _ vs rb)) in
    let r' : RunsRelated R n (map (λ u. observed_with_tags n (read_off u)) us) (map (λ v. observed_with_tags n (read_off v)) vs) =
    rw (seen_map n us, seen_map n vs) r.1 in
    runs_between_equals R (agree_follow o l) n _ _ _ _ (carries.seen _ us ra) (carries.seen _ vs rb) r'
