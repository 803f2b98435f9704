-- A text is a module, or has one fault.
use Rattle.sap_lemmas.proofs.Common.{◌≡◌, ◌≢◌, ◌≤◌, ℕ, List, refl, sym, ap, subst, ◌∙◌, arith, Result, Err, IsOkUnless, ◌==◌, if◌then◌else◌}
use Rattle.sap_vtext.specs.Faults.{IsFaultless}
use Rattle.sap_vtext.specs.Items.{File}
use Rattle.sap_vtext.specs.Modules.{IsModule, netlist_of}
use Rattle.sap_net.specs.Net.{Net}
use Rattle.sap_vjudge.specs.FirstFault.{IsFirstFault, IsJudgeFault, Stands, number}
use Rattle.sap_vjudge.specs.declared.code.Code.{Code}
use Rattle.sap_vjudge.specs.declared.code.Code.TheVariants as code
use Rattle.sap_vjudge.specs.declared.fault.JudgeFault.{JudgeFault}
use Rattle.sap_vjudge.specs.declared.fault.JudgeFault.TheVariants as j
use Rattle.sap_vparse.specs.Text.{IsReadFault, IsText}
use Rattle.sap_vlex.specs.declared.fault.ReadFault.{ReadFault}
use Rattle.sap_vlex.specs.declared.fault.ReadFault.TheVariants as r
use Rattle.sap_vread.specs.Codes.{code_of}
use Rattle.sap_vread.specs.ModuleFault.{IsModuleFault, no_token, unexpected, in_file}
use Rattle.sap_text.specs.Places.{place_at}
use Rattle.sap_vread.specs.declared.fault.ModCode.{ModCode}
use Rattle.sap_vread.specs.declared.fault.ModCode.TheVariants.{V1, V2}
use Rattle.sap_vread.specs.declared.fault.ModFault.{ModFault}
use Rattle.sap_vread.specs.declared.fault.ModFault.TheVariants.{Rule, Memory}
use Rattle.sap_text.specs.declared.place.Place.{Place}

-- a file has at most one first fault

coded : ℕ → Code
coded n = if n == 3 then code.V3 else (if n == 4 then code.V4 else (if n == 5 then code.V5 else (if n == 6 then code.V6 else code.V7)))

coded-number : (c : Code) → coded (number c) ≡ c
unfolding coded
coded-number code.V3 = refl
coded-number _ = refl

same_code : (c d : Code) → number c ≡ number d → c ≡ d
same_code c d e = sym (coded-number c) ∙ ap coded e ∙ coded-number d

between : (m n : ℕ) → m ≤ n → n ≤ m → m ≡ n
between m n h k = omega arith

same_place : (f : File) (c d : Code) (at to : ℕ) → IsFirstFault f c at → IsFirstFault f d to → at ≡ to
same_place f c d at to h k = between at to (h.earliest d to k.stands) (k.earliest c at h.stands)

one_first : (f : File) (c d : Code) (at : ℕ) → IsFirstFault f c at → IsFirstFault f d at → c ≡ d
one_first f c d at h k = same_code c d (between (number c) (number d) (h.lowest d k.stands) (k.lowest c h.stands))

same_fault : (text : List ℕ) (f : File) (c d : Code) (at to : ℕ) → IsFirstFault f c at → IsFirstFault f d to
    → ◌≡◌ {A = ModFault} (Rule (code_of c) (place_at text at)) (Rule (code_of d) (place_at text to))
same_fault text f c d at to h k =
    let here = same_place f c d at to h k in
    ap (λ n. Rule (code_of c) (place_at text n)) here ∙ ap (λ x. Rule (code_of x) (place_at text to)) (one_first f c d to (subst (λ n. IsFirstFault f c n) here h) k)

none_stands : (f : File) (c : Code) (at : ℕ) → IsFaultless f → Stands f c at → ⊥
none_stands f code.V3 at whole h = whole.v3 at h
none_stands f code.V4 at whole h = whole.v4 at h
none_stands f code.V5 at whole h = whole.v5 at h
none_stands f code.V6 at whole h = whole.v6 at h
none_stands f code.V7 at whole h = whole.v7 at h

-- the file of a module's text

pub text_of : (text : List ℕ) (n : Net) (m : IsModule text n) → IsText text m.file
text_of text n m = record { tokens = m.tokens; lexed = m.lexed; spelled = m.spelled }

pub module_of : (text : List ℕ) (f : File) (n : Net) → IsText text f → IsFaultless f → n ≡ netlist_of f → IsModule text n
module_of text f n t whole e = record { tokens = t.tokens; lexed = t.lexed; file = f; spelled = t.spelled; faultless = whole; netlist = sym e }

same_v1 : (a b : ℕ) → ◌≡◌ {A = ReadFault} (r.V1 a) (r.V1 b) → a ≡ b
same_v1 a b e = cc

same_v2 : (a b : ℕ) → ◌≡◌ {A = ReadFault} (r.V2 a) (r.V2 b) → a ≡ b
same_v2 a b e = cc

apart : (a b : ℕ) → ◌≡◌ {A = ReadFault} (r.V1 a) (r.V2 b) → ⊥
apart a b e = cc

abbrev OneFile : Type 0
OneFile = (text : List ℕ) (one other : File) → IsText text one → IsText text other → one ≡ other

abbrev OneReadFault : Type 0
OneReadFault = (text : List ℕ) (one other : ReadFault) → IsReadFault text one → IsReadFault text other → one ≡ other

abbrev NotBoth : Type 0
NotBoth = (text : List ℕ) (file : File) (fault : ReadFault) → IsText text file → IsReadFault text fault → ⊥

module _ (one_file : OneFile) (one_read : OneReadFault) (no_file : NotBoth) where
  pub one_fault : (text : List ℕ) (one other : ModFault) → IsModuleFault text one → IsModuleFault text other → one ≡ other
  one_fault text one other (no_token {at = a} h) (no_token {at = b} k) = ap (λ n. Rule V1 (place_at text n)) (same_v1 a b (one_read text _ _ h k))
  one_fault text one other (no_token {at = a} h) (unexpected {at = b} k) = absurd (apart a b (one_read text _ _ h k))
  one_fault text one other (no_token h) (in_file t k) = absurd (no_file text _ _ t h)
  one_fault text one other (unexpected {at = a} h) (no_token {at = b} k) = absurd (apart b a (one_read text _ _ k h))
  one_fault text one other (unexpected {at = a} h) (unexpected {at = b} k) = ap (λ n. Rule V2 (place_at text n)) (same_v2 a b (one_read text _ _ h k))
  one_fault text one other (unexpected h) (in_file t k) = absurd (no_file text _ _ t h)
  one_fault text one other (in_file t h) (no_token k) = absurd (no_file text _ _ t k)
  one_fault text one other (in_file t h) (unexpected k) = absurd (no_file text _ _ t k)
  one_fault text one other (in_file {file = f} {code = c} {at = a} t h) (in_file {file = g} {code = d} {at = b} u k) =
      same_fault text g c d a b (subst (λ x. IsFirstFault x c a) (one_file text f g t u) h) k

  pub not_both : (text : List ℕ) (net : Net) (fault : ModFault) → IsModule text net → IsModuleFault text fault → ⊥
  not_both text net fault m (no_token h) = no_file text _ _ (text_of text net m) h
  not_both text net fault m (unexpected h) = no_file text _ _ (text_of text net m) h
  not_both text net fault m (in_file {file = f} {code = c} {at = a} t h) =
      none_stands m.file c a m.faultless (subst (λ x. Stands x c a) (one_file text f m.file t (text_of text net m)) h.stands)

-- what a refusal says

pub told_v1 : (text : List ℕ) (fault : ReadFault) (at : ℕ) (p : Place) → fault ≡ r.V1 at → (fault ≢ r.Memory → IsReadFault text fault) → p ≡ place_at text at
    → IsModuleFault text (Rule V1 p)
told_v1 text fault at p is h e =
    subst (λ (q : Place). IsModuleFault text (Rule V1 q)) (sym e) (no_token (subst (λ (x : ReadFault). IsReadFault text x) is (h (λ memory. cc))))

pub told_v2 : (text : List ℕ) (fault : ReadFault) (at : ℕ) (p : Place) → fault ≡ r.V2 at → (fault ≢ r.Memory → IsReadFault text fault) → p ≡ place_at text at
    → IsModuleFault text (Rule V2 p)
told_v2 text fault at p is h e =
    subst (λ (q : Place). IsModuleFault text (Rule V2 q)) (sym e) (unexpected (subst (λ (x : ReadFault). IsReadFault text x) is (h (λ memory. cc))))

pub told_in_file : (text : List ℕ) (f : File) (fault : JudgeFault) (c : Code) (at : ℕ) (m : ModCode) (p : Place) → IsText text f → fault ≡ j.Rule c at
    → (fault ≢ j.Memory → IsJudgeFault f fault) → m ≡ code_of c → p ≡ place_at text at → IsModuleFault text (Rule m p)
told_in_file text f fault c at m p t is h i e =
    let first : IsFirstFault f c at = subst (λ (x : JudgeFault). IsJudgeFault f x) is (h (λ memory. cc)) in
    subst (λ (q : Place). IsModuleFault text (Rule m q)) (sym e) (subst (λ (x : ModCode). IsModuleFault text (Rule x (place_at text at))) (sym i) (in_file t first))

pub memory_alone : (text : List ℕ) (fault : ModFault) → (fault ≢ Memory → IsModuleFault text fault) → (IsModuleFault text fault → ⊥) → fault ≡ Memory
memory_alone text (Rule code place) h none = absurd (none (h (λ memory. cc)))
memory_alone text Memory h none = refl

pub unless : {T : Type 0} (o : Result T ModFault) (fault : ModFault) → o ≡ Err fault → fault ≡ Memory → IsOkUnless o Memory
unless o fault e m = subst (λ x. IsOkUnless x Memory) (sym (e ∙ ap (λ (y : ModFault). Err y) m)) refl
