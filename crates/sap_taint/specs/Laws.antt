-- What holds of the names of tags and of the taint of every netlist.
use Rattle.std.specs.Prelude.{◌≡◌, ◌<◌, ◌⊎◌, ℕ, List, Some, map}
use Rattle.std.specs.List.{AllByRecursion}
use Rattle.sap_lattice.specs.Order.{Order}
use Rattle.sap_lattice.specs.Codes.{code_of}
use Rattle.sap_maps.specs.Maps.{Name, Valuation}
use Rattle.sap_maps.specs.Scope.{find}
use Rattle.sap_meaning.specs.Agree.{Relation, StreamsAgree}
use Rattle.sap_meaning.specs.Codes.{LookAlike}
use Rattle.sap_meaning.specs.Cycle.{Tagged}
use Rattle.sap_net.specs.Net.{Net}
use Rattle.sap_net.specs.IsNetlist.{readable, shapes}
use Rattle.sap_net.specs.Runs.{IsRun}
use Rattle.sap_taint.specs.TagNames.{IsClash, HasRoomForTags}
use Rattle.sap_taint.specs.Runs.{TaggedNumber, numbers_of, TaggedValuation, IsTaintedRun, observed_with_tags}
use Rattle.sap_taint.specs.Alike.{IsCode, AlikeWithin, Equal, RunsRelated, StreamsRelated}

-- There is room for tags, or a first clash.
abbrev pub RoomOrClash : Net → Type 0
RoomOrClash n = HasRoomForTags n ⊎ ((x : Name) × IsClash n x)

-- And not both.
abbrev pub NoClashWithRoom : Net → Type 0
NoClashWithRoom n = (x : Name) → IsClash n x → HasRoomForTags n → ⊥

-- There is one first clash at most.
abbrev pub OneClash : Net → Type 0
OneClash n = (x y : Name) → IsClash n x → IsClash n y → x ≡ y

-- Two runs are so related in each cycle, and in what is seen of it.
abbrev pub Throughout : Relation → Net → List TaggedValuation → List TaggedValuation → Type 0
Throughout R n cs ds = RunsRelated R n cs ds
    × RunsRelated R n (map (observed_with_tags n) cs) (map (observed_with_tags n) ds)

-- Every run has its taint, whatever the tags of the inputs.
abbrev pub SomeTaint : Net → Type 0
SomeTaint n =
    (xss : List (List TaggedNumber)) (vs : List Valuation) → IsRun n (map numbers_of xss) vs
    → (cs : List TaggedValuation) × IsTaintedRun n xss cs × (map (λ c. c.numbers) cs ≡ vs)

-- And one alone.
abbrev pub OneTaint : Net → Type 0
OneTaint n =
    (xss : List (List TaggedNumber)) (cs ds : List TaggedValuation) → IsTaintedRun n xss cs
    → IsTaintedRun n xss ds → Throughout Equal n cs ds

-- The tags of all inputs are codes of levels.
abbrev pub AreCoded : Order → List (List TaggedNumber) → Type 0
AreCoded o xss = AllByRecursion (AllByRecursion (λ x. IsCode o x.tag)) xss

-- All tags of a cycle are.
pub record HasCodes (o : Order) (n : Net) (c : TaggedValuation) : Type 0 where
  pub value : (x : Name) (w : ℕ) → find (readable n) x ≡ Some w → IsCode o (c.tags.value x)
  pub memory : (m : Name) (s : ℕ × ℕ) → find (shapes n) m ≡ Some s → IsCode o (c.tags.memory m)

-- Where the tags of all inputs are codes, all tags are.
abbrev pub CodesStayCodes : Order → Net → Type 0
CodesStayCodes o n =
    (xss : List (List TaggedNumber)) (cs : List TaggedValuation) → AreCoded o xss → IsTaintedRun n xss cs
    → AllByRecursion (HasCodes o n) cs × AllByRecursion (HasCodes o n) (map (observed_with_tags n) cs)

-- Runs on inputs that look alike to one to whom the tags within c are low look alike to him in every cycle, whatever
-- numbers tags are.
abbrev pub AlikeThroughout : Net → Type 0
AlikeThroughout n =
    (c : ℕ) (xss yss : List (List TaggedNumber)) (cs ds : List TaggedValuation) → StreamsRelated (AlikeWithin c) xss yss
    → IsTaintedRun n xss cs → IsTaintedRun n yss ds → Throughout (AlikeWithin c) n cs ds

-- Levels given as codes.
abbrev pub with_codes : Order → List Tagged → List TaggedNumber
with_codes o inputs = map (λ x. record { number = x.number; tag = code_of o x.level }) inputs

-- A stream with each level replaced by its code.
abbrev pub stream_with_codes : Order → List (List Tagged) → List (List TaggedNumber)
stream_with_codes o stream = map (with_codes o) stream

-- Each level of a stream is a level of the lattice.
abbrev pub AreLevels : Order → List (List Tagged) → Type 0
AreLevels o stream = AllByRecursion (AllByRecursion (λ x. x.level < o.count)) stream

-- Runs on streams that agree at l agree there in every cycle: their tags are the codes of levels, by which they look
-- alike at l.
abbrev pub AgreeThroughout : Order → Net → Type 0
AgreeThroughout o n =
    (l : ℕ) (a b : List (List Tagged)) (cs ds : List TaggedValuation) → AreLevels o a → AreLevels o b
    → StreamsAgree o l a b
    → IsTaintedRun n (stream_with_codes o a) cs → IsTaintedRun n (stream_with_codes o b) ds
    → Throughout (LookAlike o (code_of o) l) n cs ds
