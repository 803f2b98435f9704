-- Of the rules on a file at most one is the first that is broken.
use Rattle.sap_lemmas.proofs.Common.{◌≡◌, ◌≢◌, ℕ, List, refl, sym, ap, ◌∙◌, subst, inl, inr, ◌⊎◌, Result, Ok, Err, IfErr, IfOk, IsErrOf, IsOkUnless}
use Rattle.toml.specs.Data.{Members}
use Rattle.sap_lattice.specs.Prelude.{Levels, FirstBroken, KeepsAll}
use Rattle.sap_lattice.specs.declared.fault.LatFault.{LatFault}
use Rattle.sap_lattice.specs.declared.pair.Pair.{Pair}
use Rattle.sap_lattice.specs.declared.fault.LatFault.TheVariants as rule
use Rattle.sap_lattice.proofs.Answered.{none_broken, one_answer}
use Rattle.sap_latfile.specs.Document.{Lists}
use Rattle.sap_latfile.specs.LatticeFile.{FirstFault, IsDocument, IsFileOf, IsLatticeOfFile}
use Rattle.sap_latfile.specs.OneFault.{NotBoth, OneFault}
use Rattle.sap_latfile.specs.Wrapped.{wrapped}
use Rattle.sap_latfile.specs.declared.fault.LatFileFault.{LatFileFault}
use Rattle.sap_latfile.specs.declared.fault.LatFileFault.TheVariants.{NotToml, Shape, Rule, Memory}

-- bytes are one document, which lists one thing
one_document : (bytes : List ℕ) (d e : Members) → IsDocument bytes d → IsDocument bytes e → d ≡ e
one_document bytes d e (_, p) (_, q) = cc

one_file : (bytes : List ℕ) (names others : List (List ℕ)) (pairs more : List Pair) → IsFileOf bytes names pairs → IsFileOf bytes others more → (names ≡ others) × (pairs ≡ more)
one_file bytes names others pairs more f g =
    let same = one_document bytes g.document f.document g.is_document f.is_document in
    let lists : Lists f.document others more = subst (λ d. Lists d others more) same g.lists in
    let first = f.lists.levels in
    let second = lists.levels in
    let third = f.lists.below in
    let fourth = lists.below in
    (cc, cc)

-- what the fault of names and pairs says of the file
pub wrapped_first : (bytes : List ℕ) (names : List (List ℕ)) (pairs : List Pair) (fault : LatFault) → IsFileOf bytes names pairs
    → (fault ≢ rule.Memory → FirstBroken names pairs fault) → wrapped fault ≢ Memory → FirstFault bytes (wrapped fault)
wrapped_first bytes names pairs rule.Memory file broken ne = absurd (ne refl)
wrapped_first bytes names pairs (rule.Count n) file broken ne = (names, pairs, file, broken (λ e. cc))
wrapped_first bytes names pairs (rule.Bad p) file broken ne = (names, pairs, file, broken (λ e. cc))
wrapped_first bytes names pairs (rule.UnknownPair p) file broken ne = (names, pairs, file, broken (λ e. cc))
wrapped_first bytes names pairs (rule.Cycle a b) file broken ne = (names, pairs, file, broken (λ e. cc))
wrapped_first bytes names pairs (rule.NoJoin a b) file broken ne = (names, pairs, file, broken (λ e. cc))
wrapped_first bytes names pairs rule.NoLeast file broken ne = (names, pairs, file, broken (λ e. cc))

module _ (bytes : List ℕ) where
  -- a file that lists names and pairs has no fault but theirs
  file_fault : (f : LatFileFault) (names : List (List ℕ)) (pairs : List Pair) → IsFileOf bytes names pairs → FirstFault bytes f
      → (fault : LatFault) × (f ≡ Rule fault) × FirstBroken names pairs fault
  file_fault NotToml names pairs file first = absurd (first file.document file.is_document)
  file_fault Shape names pairs file first =
      let same = one_document bytes file.document first.document file.is_document first.is_document in
      absurd (first.other names pairs (subst (λ d. Lists d names pairs) same file.lists))
  file_fault (Rule fault) names pairs file (others, more, other_file, broken) =
      let same = one_file bytes others names more pairs other_file file in
      let P : List (List ℕ) → Type 0 = λ ns. FirstBroken ns pairs fault in
      let Q : List Pair → Type 0 = λ ps. FirstBroken others ps fault in
      (fault, refl, subst P same.0 (subst Q same.1 broken))
  file_fault Memory names pairs file first = absurd first

  same_fault : (f g : LatFileFault) → FirstFault bytes f → FirstFault bytes g → f ≡ g
  same_fault (Rule fault) g (names, pairs, file, broken) b =
      let (other, g_is, other_broken) = file_fault g names pairs file b in
      ap Rule (one_answer names pairs fault other broken other_broken) ∙ sym g_is
  same_fault f (Rule fault) a (names, pairs, file, broken) =
      let (other, f_is, other_broken) = file_fault f names pairs file a in
      f_is ∙ ap Rule (one_answer names pairs other fault other_broken broken)
  same_fault NotToml NotToml a b = refl
  same_fault NotToml Shape a b = absurd (a b.document b.is_document)
  same_fault Shape NotToml a b = absurd (b a.document a.is_document)
  same_fault Shape Shape a b = refl
  same_fault Memory g a b = absurd a
  same_fault f Memory a b = absurd b

  no_fault : (l : Levels) (f : LatFileFault) → IsLatticeOfFile bytes l → FirstFault bytes f → ⊥
  no_fault l f (names, pairs, file, lattice) first =
      let (fault, f_is, broken) = file_fault f names pairs file first in
      none_broken names pairs fault lattice.kept broken

  cases_memory : (f : LatFileFault) → (f ≡ Memory) ⊎ (f ≢ Memory)
  cases_memory NotToml = inr (λ e. cc)
  cases_memory Shape = inr (λ e. cc)
  cases_memory (Rule fault) = inr (λ e. cc)
  cases_memory Memory = inl refl

  pub valid_answer : (r : Result Levels LatFileFault) → IfErr r (λ f. f ≢ Memory → FirstFault bytes f)
      → (names : List (List ℕ)) (pairs : List Pair) → IsFileOf bytes names pairs → KeepsAll names pairs → IsOkUnless r Memory
  valid_answer (Ok l) refused names pairs file all = tt
  valid_answer (Err f) refused names pairs file all =
      elim (cases_memory f) [
        | inl e ↦ e
        | inr ne ↦
            let (fault, f_is, broken) = file_fault f names pairs file (refused ne) in
            absurd (none_broken names pairs fault all broken)
      ]

  pub exact_answer : (r : Result Levels LatFileFault) → IfOk r (λ l. IsLatticeOfFile bytes l)
      → IfErr r (λ f. f ≢ Memory → FirstFault bytes f) → (f : LatFileFault) → FirstFault bytes f → IsErrOf r f ⊎ IsErrOf r Memory
  exact_answer (Ok l) accepted refused f first = absurd (no_fault l f accepted first)
  exact_answer (Err g) accepted refused f first =
      elim (cases_memory g) [
        | inl e ↦ inr (ap Err e)
        | inr other ↦ inl (ap Err (same_fault g f (refused other) first))
      ]

pub one_fault : OneFault
one_fault bytes f g a b = same_fault bytes f g a b

pub not_both : NotBoth
not_both bytes l f is first = no_fault bytes l f is first
