-- The parts whose files were read so far.
use Rattle.sap_lemmas.proofs.Common.{◌≡◌, ◌+◌, ◌<◌, get_or, Bool, false, ℕ, zero, suc, List, [], ◌∷◌, ◌++◌, length, take, refl, sym, ◌∙◌, ap, subst, arith, Option, Some, IfSome, Ok, Err, not, if◌then◌else◌, slice_get, AllByRecursion, AllZip, none-some, same_Some, all_append}
use Rattle.sap_desk.specs.Desk.{Told}
use Rattle.sap_lattice.specs.Levels.{Levels}
use Rattle.sap_system.specs.declared.file.Part.{Part}
use Rattle.sap_linked.specs.Designs.{NamedDesign}
use Rattle.sap_files.specs.Steps.{Moment, Quiet}
use Rattle.sap_files.proofs.Ended.{quiet_then}
use Rattle.sap_files.specs.Kinds.{part_file}
use Rattle.sap_commands.specs.Link.{EndsAtPart, GetsPart, HasNet, HasPart, ReadsPart, ReadsParts, loaded_design, loaded_designs}
use Rattle.sap_commands.specs.declared.link.LoadedPart.{LoadedPart}
use Rattle.sap_files.specs.declared.failure.DesignFailure.{DesignFailure}
use Rattle.sap_files.specs.declared.failure.DesignFailure.TheVariants.{Memory}
use Rattle.sap_commands.proofs.Later.{reading_ends_later}
use Rattle.sap_commands.proofs.PartEnds.{starved_there}

-- what an element at a place is, by its place
pub there : {A : Type 0} (xs : List A) (k : ℕ) (x : A) → k < length xs → x ≡ get_or xs k x → slice_get xs k ≡ Some x
there [] k x low is = absurd (omega (arith, low))
there (y ∷ ys) zero x low is = ap Some (sym is)
there (y ∷ ys) (suc k) x low is = there ys k x (omega (arith, low)) is

-- what stands behind a push that succeeded
pub pushed : {A : Type 0} (made old more : List A) (ok failed : Bool) → made ≡ (if ok then more else old) → ok ≡ not failed → failed ≡ false → made ≡ more
pushed made old more ok failed is negation none = is ∙ ap (λ (b : Bool). if b then more else old) (negation ∙ ap not none)

-- the files of so many parts were read
pub record HaveLoaded (ls : Levels) (parts : List Part) (count : ℕ) (loaded : List LoadedPart) (before now : Moment) : Type 0 where
  pub quiet : Quiet before now
  pub have : AllZip (HasPart ls before.told) (take count parts) (loaded_designs loaded)
  pub nets : AllByRecursion (HasNet ls) loaded

designs_more : (loaded : List LoadedPart) (one : LoadedPart) → loaded_designs loaded ++ loaded_design one ∷ [] ≡ loaded_designs (loaded ++ one ∷ [])
designs_more [] one = refl
designs_more (l ∷ ls) one = ap (λ (ds : List NamedDesign). loaded_design l ∷ ds) (designs_more ls one)

module _ {A B : Type 0} (R : A → B → Type 0) where
  zip_more : (xs : List A) (k : ℕ) (x : A) (ys : List B) (y : B) → slice_get xs k ≡ Some x → AllZip R (take k xs) ys → R x y → AllZip R (take (suc k) xs) (ys ++ y ∷ [])
  zip_more [] k x ys y at all is = absurd (none-some x at)
  zip_more (z ∷ zs) zero x [] y at all is = (subst (λ (w : A). R w y) (sym (same_Some z x at)) is, tt)
  zip_more (z ∷ zs) zero x (v ∷ vs) y at all is = absurd all
  zip_more (z ∷ zs) (suc k) x [] y at all is = absurd all
  zip_more (z ∷ zs) (suc k) x (v ∷ vs) y at all is = (all.0, zip_more zs k x vs y at all.1 is)

module _ {ls : Levels} {parts : List Part} {k : ℕ} {loaded : List LoadedPart} {a b c : Moment} (so_far : HaveLoaded ls parts k loaded a b)
    (p : Part) (at : slice_get parts k ≡ Some p) where
  has : (d : NamedDesign) → ReadsPart ls p d b c → HasPart ls a.told p d
  has d r = record {
    name = r.name;
    bytes = r.bytes;
    file = subst (λ (o : Option Told). IfSome o (λ t. t.files p.file ≡ Some r.bytes)) so_far.quiet.told r.reads.file;
    stands = r.stands;
  }

  -- one more
  pub one_more : (one : LoadedPart) → GetsPart ls p (Ok one) b c → HaveLoaded ls parts (suc k) (loaded ++ one ∷ []) a c
  one_more one (r, net) = record {
    quiet = quiet_then so_far.quiet r.reads.quiet;
    have =
        subst (AllZip (HasPart ls a.told) (take (suc k) parts)) (designs_more loaded one)
        (zip_more (HasPart ls a.told) parts k p (loaded_designs loaded) (loaded_design one) at so_far.have (has (loaded_design one) r));
    nets = all_append (HasNet ls) loaded (one ∷ []) so_far.nets (net, tt);
  }

  -- the command ends at this one
  pub stopped_here : (why : DesignFailure) → GetsPart ls p (Err why) b c → EndsAtPart ls parts k why a c
  stopped_here why ends =
      record { part = p; is_part = at; designs = loaded_designs loaded; have = so_far.have; ends = reading_ends_later so_far.quiet (part_file ls p.name) ends }

  -- there is no room for it
  pub no_room : (one : LoadedPart) → GetsPart ls p (Ok one) b c → EndsAtPart ls parts k Memory a c
  no_room one (r, net) = record {
    part = p;
    is_part = at;
    designs = loaded_designs loaded;
    have = so_far.have;
    ends = reading_ends_later so_far.quiet (part_file ls p.name) (starved_there ls p b c r.bytes r.reads);
  }

-- the count as a loop has it, and the parts as they stand behind a push
pub next : {ls : Levels} {parts : List Part} {k : ℕ} {loaded made : List LoadedPart} {a b : Moment} → HaveLoaded ls parts (suc k) loaded a b
    → made ≡ loaded → HaveLoaded ls parts (k + 1) made a b
next {ls = ls} {parts = parts} {k = k} {loaded = loaded} {made = made} {a = a} {b = b} so_far is =
    subst (λ (n : ℕ). HaveLoaded ls parts n made a b) (omega arith) (subst (λ (l : List LoadedPart). HaveLoaded ls parts (suc k) l a b) (sym is) so_far)

-- the same parts by another name of their list
pub read_as : {ls : Levels} {parts : List Part} {loaded : List LoadedPart} {a b : Moment} (made : List LoadedPart) → made ≡ loaded → ReadsParts ls parts (loaded_designs loaded) a b
    → ReadsParts ls parts (loaded_designs made) a b
read_as {ls = ls} {parts = parts} {loaded = loaded} {a = a} {b = b} made is reads =
    subst (λ (l : List LoadedPart). ReadsParts ls parts (loaded_designs l) a b) (sym is) reads
