-- Of the rules on a file at most one is the first that is broken.
use Rattle.sap_lemmas.proofs.Common.{◌≡◌, ◌≢◌, ℕ, ◌+◌, List, refl, sym, ap, ap₂, ◌∙◌, subst, inl, inr, ◌⊎◌, Result, Ok, Err, arith, cases_order, IfErr, IfOk, IsErrOf, IsOkUnless}
use Rattle.toml.specs.Data.{Members}
use Rattle.sap_lattice.specs.Rules.{IsFirst}
use Rattle.sap_latfile.specs.LatticeFile.{IsDocument}
use Rattle.sap_system.specs.Document.{Lists}
use Rattle.sap_system.specs.Laws.{NotBoth, OneFault, OneSystem}
use Rattle.sap_system.specs.Listing.{Listing, listing}
use Rattle.sap_system.specs.Rules.{BadCount, BadPart, FirstBroken, KeepsCount, KeepsParts}
use Rattle.sap_system.specs.SystemFile.{FirstFault, HasOtherShape, IsFileOf, IsSystemOfFile}
use Rattle.sap_system.specs.declared.fault.SysCode.TheVariants.{K1, K2, K3, K4}
use Rattle.sap_system.specs.declared.fault.SysFault.{SysFault}
use Rattle.sap_system.specs.declared.fault.SysFault.TheVariants.{Rule, Memory}
use Rattle.sap_system.specs.declared.file.Part.{Part}

-- the rules on parts

one_first : (P : ℕ → Type 0) (j k : ℕ) → IsFirst P j → IsFirst P k → j ≡ k
one_first P j k a b =
    elim (cases_order j k) [
      | inl e ↦ e
      | inr apart ↦ elim apart [ inl less ↦ absurd (b.none_before j less a.here) | inr more ↦ absurd (a.none_before k more b.here) ]
    ]

count_apart : (parts : List Part) → BadCount parts → KeepsCount parts → ⊥
count_apart parts bad keeps =
    elim bad [
      | inl low ↦ let some = keeps.some in absurd (omega arith)
      | inr high ↦ let few = keeps.few in absurd (omega arith)
    ]

one_broken : (parts : List Part) (f g : SysFault) → FirstBroken parts f → FirstBroken parts g → f ≡ g
one_broken parts (Rule K3 n) (Rule K3 m) (bad, is) (other, it) = ap (Rule K3) (is ∙ sym it)
one_broken parts (Rule K3 n) (Rule K4 m) (bad, is) (keeps, first) = absurd (count_apart parts bad keeps)
one_broken parts (Rule K4 n) (Rule K3 m) (keeps, first) (bad, is) = absurd (count_apart parts bad keeps)
one_broken parts (Rule K4 n) (Rule K4 m) (keeps, (j, first, is)) (other, (k, second, it)) =
    ap (Rule K4) (is ∙ ap (λ i. i + 1) (one_first (BadPart parts) j k first second) ∙ sym it)
one_broken parts (Rule K1 n) g a b = absurd a
one_broken parts (Rule K2 n) g a b = absurd a
one_broken parts Memory g a b = absurd a
one_broken parts f (Rule K1 n) a b = absurd b
one_broken parts f (Rule K2 n) a b = absurd b
one_broken parts f Memory a b = absurd b

none_broken : (parts : List Part) (f : SysFault) → KeepsParts parts → FirstBroken parts f → ⊥
none_broken parts (Rule K3 n) keeps (bad, is) = count_apart parts bad keeps.count
none_broken parts (Rule K4 n) keeps (count, (k, first, is)) = keeps.named k first.here
none_broken parts (Rule K1 n) keeps a = a
none_broken parts (Rule K2 n) keeps a = a
none_broken parts Memory keeps a = a

-- bytes are one document, which lists one thing

one_document : (bytes : List ℕ) (d e : Members) → IsDocument bytes d → IsDocument bytes e → d ≡ e
one_document bytes d e (_, p) (_, q) = cc

one_file : (bytes : List ℕ) (s t : Listing) → IsFileOf bytes s → IsFileOf bytes t → s ≡ t
one_file bytes s t f g =
    let same = one_document bytes g.document f.document g.is_document f.is_document in
    let lists : Lists f.document t = subst (λ d. Lists d t) same g.lists in
    let first = f.lists.parts in
    let second = lists.parts in
    let third = f.lists.wires in
    let fourth = lists.wires in
    let parts : s.parts ≡ t.parts = cc in
    let wires : s.wires ≡ t.wires = cc in
    ap₂ listing parts wires

pub one_system : OneSystem
one_system bytes s t a b = one_file bytes s t a.0 b.0

module _ (bytes : List ℕ) where
  no_shape : (s : Listing) → IsFileOf bytes s → HasOtherShape bytes → ⊥
  no_shape s file shape =
      let same = one_document bytes file.document shape.document file.is_document shape.is_document in
      shape.other s (subst (λ d. Lists d s) same file.lists)

  moved : (s t : Listing) (f : SysFault) → IsFileOf bytes s → IsFileOf bytes t → FirstBroken t.parts f → FirstBroken s.parts f
  moved s t f file other broken = subst (λ (r : Listing). FirstBroken r.parts f) (one_file bytes t s other file) broken

  -- a file that lists parts has no fault but theirs
  file_fault : (s : Listing) (f : SysFault) → IsFileOf bytes s → FirstFault bytes f → FirstBroken s.parts f
  file_fault s (Rule K1 n) file first = absurd (first.0 file.document file.is_document)
  file_fault s (Rule K2 n) file first = absurd (no_shape s file first.0)
  file_fault s (Rule K3 n) file (t, other, broken) = moved s t (Rule K3 n) file other broken
  file_fault s (Rule K4 n) file (t, other, broken) = moved s t (Rule K4 n) file other broken
  file_fault s Memory file (t, other, broken) = absurd broken

  same_fault : (f g : SysFault) → FirstFault bytes f → FirstFault bytes g → f ≡ g
  same_fault (Rule K1 n) (Rule K1 m) a b = ap (Rule K1) (a.1 ∙ sym b.1)
  same_fault (Rule K2 n) (Rule K2 m) a b = ap (Rule K2) (a.1 ∙ sym b.1)
  same_fault (Rule K1 n) (Rule K2 m) a b = absurd (a.0 b.0.document b.0.is_document)
  same_fault (Rule K2 n) (Rule K1 m) a b = absurd (b.0 a.0.document a.0.is_document)
  same_fault (Rule K3 n) g (s, file, broken) b = one_broken s.parts (Rule K3 n) g broken (file_fault s g file b)
  same_fault (Rule K4 n) g (s, file, broken) b = one_broken s.parts (Rule K4 n) g broken (file_fault s g file b)
  same_fault f (Rule K3 n) a (s, file, broken) = one_broken s.parts f (Rule K3 n) (file_fault s f file a) broken
  same_fault f (Rule K4 n) a (s, file, broken) = one_broken s.parts f (Rule K4 n) (file_fault s f file a) broken
  same_fault Memory g (s, file, broken) b = absurd broken
  same_fault f Memory a (s, file, broken) = absurd broken

  no_fault : (s : Listing) (f : SysFault) → IsSystemOfFile bytes s → FirstFault bytes f → ⊥
  no_fault s f (file, keeps) first = none_broken s.parts f keeps (file_fault s f file first)

  cases_memory : (f : SysFault) → (f ≡ Memory) ⊎ (f ≢ Memory)
  cases_memory (Rule code n) = inr (λ e. cc)
  cases_memory Memory = inl refl

  pub valid_answer : (r : Result Listing SysFault) → IfErr r (λ f. f ≢ Memory → FirstFault bytes f) → (s : Listing) → IsSystemOfFile bytes s → IsOkUnless r Memory
  valid_answer (Ok t) refused s is = tt
  valid_answer (Err f) refused s is = elim (cases_memory f) [ inl e ↦ e | inr ne ↦ absurd (no_fault s f is (refused ne)) ]

  pub exact_answer : (r : Result Listing SysFault) → IfOk r (λ s. IsSystemOfFile bytes s) → IfErr r (λ f. f ≢ Memory → FirstFault bytes f)
      → (f : SysFault) → FirstFault bytes f → IsErrOf r f ⊎ IsErrOf r Memory
  exact_answer (Ok s) accepted refused f first = absurd (no_fault s f accepted first)
  exact_answer (Err g) accepted refused f first =
      elim (cases_memory g) [
        | inl e ↦ inr (ap Err e)
        | inr other ↦ inl (ap Err (same_fault g f (refused other) first))
      ]

pub one_fault : OneFault
one_fault bytes f g a b = same_fault bytes f g a b

pub not_both : NotBoth
not_both bytes s f is first = no_fault bytes s f is first
