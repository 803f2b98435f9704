-- When a netlist carries the taint of another, and what follows.
use Rattle.std.specs.Prelude.{◌≡◌, ◌<◌, ◌^◌, ℕ, List, [], ◌∷◌, map}
use Rattle.std.specs.List.{AllByRecursion, AllZip}
use Rattle.sap_lattice.specs.Order.{Order}
use Rattle.sap_lattice.specs.Codes.{code_of}
use Rattle.sap_maps.specs.Maps.{Valuation}
use Rattle.sap_meaning.specs.Agree.{StreamsAgree}
use Rattle.sap_meaning.specs.Codes.{LookAlike}
use Rattle.sap_meaning.specs.Cycle.{Tagged}
use Rattle.sap_net.specs.declared.parts.Input.{Input}
use Rattle.sap_net.specs.Net.{Net}
use Rattle.sap_net.specs.Runs.{AllFit, IsRun, observed}
use Rattle.sap_net.specs.Laws.{AreSameRuns}
use Rattle.sap_interface.specs.Compiled.{coded_stream}
use Rattle.sap_taint.specs.TagNames.{name_of_tag}
use Rattle.sap_taint.specs.Runs.{TaggedNumber, TaggedValuation, IsTaintedRun, observed_with_tags}
use Rattle.sap_taint.specs.Alike.{Equal, RunsRelated}
use Rattle.sap_taint.specs.TaggedForm.{HasTaggedForm}
use Rattle.sap_taint.specs.Laws.{AreCoded, HasCodes, stream_with_codes, AreLevels}

-- What a netlist with tags is given: each number, and its tag behind it.
abbrev pub woven : List TaggedNumber → List ℕ
woven [] = []
woven (x ∷ xs) = x.number ∷ x.tag ∷ woven xs

-- On levels given as codes, that is what a module with the interface of a design is given.
abbrev pub CodesAreWoven : Type 0
CodesAreWoven = (o : Order) (stream : List (List Tagged))
    → map woven (stream_with_codes o stream) ≡ coded_stream (code_of o) stream

-- What a cycle of a netlist with tags says: the numbers of names, and their tags by their tags' names.
abbrev pub read_off : Valuation → TaggedValuation
read_off u = record {
  numbers = u;
  tags = record {
    value = λ x. u.value (name_of_tag x);
    memory = λ m. u.value (name_of_tag m);
  };
}

-- And what is seen of each cycle of a run.
abbrev pub observed_in : Net → List Valuation → List TaggedValuation
observed_in m us = map (λ u. read_off (observed m u)) us

-- `m` carries the taint of n, in tags of w bits: each run of m is a run of n with the taint of each name, and is seen
-- as that is.
pub record CarriesTaint (w : ℕ) (n m : Net) : Type 0 where
  pub form : HasTaggedForm w n m
  pub runs : (xss : List (List TaggedNumber)) (us : List Valuation) → IsRun m (map woven xss) us
      → IsTaintedRun n xss (map read_off us)
  pub seen : (xss : List (List TaggedNumber)) (us : List Valuation) → IsRun m (map woven xss) us
      → RunsRelated Equal n (observed_in m us) (map (λ u. observed_with_tags n (read_off u)) us)

-- Numbers that fit the inputs, with tags of w bits.
abbrev pub TaggedFit : (w : ℕ) → List Input → List TaggedNumber → Type 0
TaggedFit w = AllZip (λ (i : Input) (x : TaggedNumber). (x.number < 2 ^ i.width) × (x.tag < 2 ^ w))

-- What follows. It takes what n takes, with tags of w bits.
abbrev pub TakesTags : (w : ℕ) → (n m : Net) → Type 0
TakesTags w n m = (xss : List (List TaggedNumber)) → AllByRecursion (TaggedFit w n.inputs) xss
    → AllFit m.inputs (map woven xss)

-- And it has exactly one run on it.
abbrev pub OneTaggedRun : (w : ℕ) → (n m : Net) → Type 0
OneTaggedRun w n m =
    (xss : List (List TaggedNumber)) → AllByRecursion (TaggedFit w n.inputs) xss
    → (us : List Valuation) × IsRun m (map woven xss) us
    × ((vs : List Valuation) → IsRun m (map woven xss) vs → AreSameRuns m us vs)

-- Names and tags have in each of its runs, and in what is seen of it, the numbers and the tags of every run of n with
-- taint on the same inputs.
abbrev pub ShowsTaint : (n m : Net) → Type 0
ShowsTaint n m =
    (xss : List (List TaggedNumber)) (us : List Valuation) (cs : List TaggedValuation)
    → IsRun m (map woven xss) us → IsTaintedRun n xss cs
    → RunsRelated Equal n (map read_off us) cs × RunsRelated Equal n (observed_in m us) (map (observed_with_tags n) cs)

-- Where the tags of all inputs are codes, all tags that are seen are.
abbrev pub TagsStayCodes : Order → (n m : Net) → Type 0
TagsStayCodes o n m =
    (xss : List (List TaggedNumber)) (us : List Valuation) → AreCoded o xss → IsRun m (map woven xss) us
    → AllByRecursion (HasCodes o n) (observed_in m us)

-- On streams that agree at l, levels given as codes, what is seen of its runs agrees there in every cycle: its tags are
-- the codes of levels, by which it looks alike at l.
abbrev pub RunsWithTagsAgree : Order → (n m : Net) → Type 0
RunsWithTagsAgree o n m =
    (l : ℕ) (a b : List (List Tagged)) (us vs : List Valuation) → AreLevels o a → AreLevels o b → StreamsAgree o l a b
    → IsRun m (map woven (stream_with_codes o a)) us → IsRun m (map woven (stream_with_codes o b)) vs
    → RunsRelated (LookAlike o (code_of o) l) n (observed_in m us) (observed_in m vs)
