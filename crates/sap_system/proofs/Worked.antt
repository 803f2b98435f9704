-- The worked examples of system files.
use Rattle.sap_lemmas.proofs.Common.{◌≡◌, ℕ, zero, suc, ◌<◌, List, [], ◌∷◌, ltb, true, false, Some, None, refl, sym, ◌∙◌, inl, inr, arith, lit≤, codes, list_all, and_parts, both_ways, ltb-true}
use Rattle.std.specs.Str.{IsAscii}
use Rattle.std.proofs.lemmas.Str.{IsUtf8-from_ascii}
use Rattle.std.proofs.lemmas.Str.Ascii.{IsAscii-nil}
use Rattle.toml.specs.Data.{Data, string, array, Items, no_items, item, Members, no_members, member}
use Rattle.toml.specs.Parse.{parse_document}
use Rattle.toml.proofs.OnLiterals.{toml_on_literals}
use Rattle.sap_lattice.specs.Closure.{name_at}
use Rattle.sap_latfile.specs.Document.{key_count}
use Rattle.sap_latfile.specs.LatticeFile.{IsDocument, IsNoDocument}
use Rattle.sap_system.specs.Document.{Lists}
use Rattle.sap_system.specs.Examples.{part, TwoParts, NoDocument, NoWires, ThirdKey, OneText, NoParts, NineParts, KeywordName, UnderscoreName, NameTwice}
use Rattle.sap_system.specs.Listing.{Listing, listing}
use Rattle.sap_system.specs.Rules.{BadPart, part_names}
use Rattle.sap_system.specs.declared.file.Part.{Part}
use Rattle.sap_system.proofs.PartNames.{is_bad_at, bad_at, found_bad}

-- what bytes are

all_ascii : (bytes : List ℕ) → list_all (λ c. ltb c 128) bytes ≡ true → IsAscii bytes
all_ascii [] h i = IsAscii-nil i
all_ascii (c ∷ cs) h zero = ltb-true c 128 (and_parts (ltb c 128) (list_all (λ d. ltb d 128) cs) h).0
all_ascii (c ∷ cs) h (suc i) = all_ascii cs (and_parts (ltb c 128) (list_all (λ d. ltb d 128) cs) h).1 i

is_document : (bytes : List ℕ) (document : Members) → parse_document bytes ≡ Some document → list_all (λ c. ltb c 128) bytes ≡ true → IsDocument bytes document
is_document bytes document parsed text = (IsUtf8-from_ascii bytes (all_ascii bytes text), parsed)

no_document : (bytes : List ℕ) → parse_document bytes ≡ None → IsNoDocument bytes
no_document bytes refused document (text, parsed) = let e : None ≡ Some document = sym refused ∙ parsed in cc

other_count : (document : Members) (n : ℕ) → key_count document ≡ n → (n ≡ 2 → ⊥) → (s : Listing) → ¬ Lists document s
other_count document n count other s lists = other (sym count ∙ lists.two_keys)

-- documents

abbrev pair : (first second : List ℕ) → Data
pair first second = array (item (string first) (item (string second) no_items))

abbrev document_of : (parts wires : Items) → Members
document_of parts wires = member (codes "parts") (array parts) (member (codes "wires") (array wires) no_members)

-- parts

sound_at : (parts : List Part) (k : ℕ) → is_bad_at parts k (name_at (part_names parts) k) ≡ false → ¬ BadPart parts k
sound_at parts k sound bad = both_ways (is_bad_at parts k (name_at (part_names parts) k)) sound (found_bad parts k bad)

first_sound : (parts : List Part) → is_bad_at parts 0 (name_at (part_names parts) 0) ≡ false → (j : ℕ) → j < 1 → ¬ BadPart parts j
first_sound parts sound zero low bad = sound_at parts 0 sound bad
first_sound parts sound (suc j) low bad = absurd (omega (arith, low))

-- a system

abbrev listed_parts : List Part
listed_parts = part (codes "p") (codes "a.sap") ∷ part (codes "q") (codes "b.sap") ∷ []

abbrev two_document : Members
two_document =
    document_of (item (pair (codes "p") (codes "a.sap")) (item (pair (codes "q") (codes "b.sap")) no_items))
    (item (pair (codes "p.x") (codes "q.b")) (item (array (item (string (codes "q.y")) (item (string (codes "p.a")) (item (string (codes "low")) no_items)))) no_items))

two_read : parse_document (codes "parts = [['p', 'a.sap'], ['q', 'b.sap']]\nwires = [['p.x', 'q.b'], ['q.y', 'p.a', 'low']]") ≡ Some two_document
unfolding toml_on_literals
two_read = refl

two_named : (k : ℕ) → ¬ BadPart listed_parts k
two_named zero broken = sound_at listed_parts 0 refl broken
two_named (suc zero) broken = sound_at listed_parts 1 refl broken
two_named (suc (suc k)) (low, broken) = absurd (omega (arith, low))

pub two_parts : TwoParts
two_parts = (
  record {
    document = two_document;
    is_document = is_document _ two_document two_read refl;
    lists = record { two_keys = refl; parts = refl; wires = refl };
  },
  record { count = record { some = lit≤ tt; few = lit≤ tt }; named = two_named },
)

-- faults of documents

parts_alone : parse_document (codes "parts") ≡ None
unfolding toml_on_literals
parts_alone = refl

pub no_document_told : NoDocument
no_document_told = (no_document (codes "parts") parts_alone, refl)

abbrev one_key : Members
one_key = member (codes "parts") (array no_items) no_members

no_wires_read : parse_document (codes "parts = []") ≡ Some one_key
unfolding toml_on_literals
no_wires_read = refl

pub no_wires_told : NoWires
no_wires_told = (
  record {
    document = one_key;
    is_document = is_document _ one_key no_wires_read refl;
    other = other_count one_key 1 refl (λ e. cc);
  },
  refl,
)

abbrev three_keys : Members
three_keys = member (codes "levels") (array no_items) (member (codes "parts") (array no_items) (member (codes "wires") (array no_items) no_members))

three_keys_read : parse_document (codes "parts = []\nwires = []\nlevels = []") ≡ Some three_keys
unfolding toml_on_literals
three_keys_read = refl

pub third_key_told : ThirdKey
third_key_told = (
  record {
    document = three_keys;
    is_document = is_document _ three_keys three_keys_read refl;
    other = other_count three_keys 3 refl (λ e. cc);
  },
  refl,
)

abbrev wire_of_one : Items
wire_of_one = item (array (item (string (codes "p.x")) no_items)) no_items

one_text_read : parse_document (codes "parts = []\nwires = [['p.x']]") ≡ Some (document_of no_items wire_of_one)
unfolding toml_on_literals
one_text_read = refl

pub one_text_told : OneText
one_text_told = (
  record {
    document = document_of no_items wire_of_one;
    is_document = is_document _ (document_of no_items wire_of_one) one_text_read refl;
    other = λ s lists. let wires : None ≡ Some s.wires = lists.wires in cc;
  },
  refl,
)

-- faults of parts

no_parts_read : parse_document (codes "parts = []\nwires = []") ≡ Some (document_of no_items no_items)
unfolding toml_on_literals
no_parts_read = refl

pub no_parts_told : NoParts
no_parts_told = (
  listing [] [],
  record {
    document = document_of no_items no_items;
    is_document = is_document _ (document_of no_items no_items) no_parts_read refl;
    lists = record { two_keys = refl; parts = refl; wires = refl };
  },
  (inl (lit≤ tt), refl),
)

-- so many parts of one name, and a file of none
abbrev same_items : ℕ → Items
same_items zero = no_items
same_items (suc n) = item (pair (codes "p") []) (same_items n)

abbrev same_parts : ℕ → List Part
same_parts zero = []
same_parts (suc n) = part (codes "p") [] ∷ same_parts n

nine_parts_read : parse_document (codes "parts = [['p',''],['p',''],['p',''],['p',''],['p',''],['p',''],['p',''],['p',''],['p','']]\nwires = []")
    ≡ Some (document_of (same_items 9) no_items)
unfolding toml_on_literals
nine_parts_read = refl

pub nine_parts_told : NineParts
nine_parts_told = (
  listing (same_parts 9) [],
  record {
    document = document_of (same_items 9) no_items;
    is_document = is_document _ (document_of (same_items 9) no_items) nine_parts_read refl;
    lists = record { two_keys = refl; parts = refl; wires = refl };
  },
  (inr (lit≤ tt), refl),
)

keyword_read : parse_document (codes "parts = [['input', 'a']]\nwires = []") ≡ Some (document_of (item (pair (codes "input") (codes "a")) no_items) no_items)
unfolding toml_on_literals
keyword_read = refl

abbrev keyword_part : List Part
keyword_part = part (codes "input") (codes "a") ∷ []

pub keyword_told : KeywordName
keyword_told = (
  listing keyword_part [],
  record {
    document = document_of (item (pair (codes "input") (codes "a")) no_items) no_items;
    is_document = is_document _ _ keyword_read refl;
    lists = record { two_keys = refl; parts = refl; wires = refl };
  },
  (record { some = lit≤ tt; few = lit≤ tt }, (0, record { here = bad_at keyword_part 0 (lit≤ tt) refl; none_before = λ j low bad. absurd (omega (arith, low)) }, refl)),
)

underscore_read : parse_document (codes "parts = [['p', 'a'], ['q_r', 'b']]\nwires = []")
    ≡ Some (document_of (item (pair (codes "p") (codes "a")) (item (pair (codes "q_r") (codes "b")) no_items)) no_items)
unfolding toml_on_literals
underscore_read = refl

abbrev underscore_parts : List Part
underscore_parts = part (codes "p") (codes "a") ∷ part (codes "q_r") (codes "b") ∷ []

pub underscore_told : UnderscoreName
underscore_told = (
  listing underscore_parts [],
  record {
    document = document_of (item (pair (codes "p") (codes "a")) (item (pair (codes "q_r") (codes "b")) no_items)) no_items;
    is_document = is_document _ _ underscore_read refl;
    lists = record { two_keys = refl; parts = refl; wires = refl };
  },
  (record { some = lit≤ tt; few = lit≤ tt }, (1, record { here = bad_at underscore_parts 1 (lit≤ tt) refl; none_before = first_sound underscore_parts refl }, refl)),
)

twice_read : parse_document (codes "parts = [['p', 'a'], ['p', 'b'], ['', 'c']]\nwires = []")
    ≡ Some (document_of (item (pair (codes "p") (codes "a")) (item (pair (codes "p") (codes "b")) (item (pair [] (codes "c")) no_items))) no_items)
unfolding toml_on_literals
twice_read = refl

abbrev twice_parts : List Part
twice_parts = part (codes "p") (codes "a") ∷ part (codes "p") (codes "b") ∷ part [] (codes "c") ∷ []

pub twice_told : NameTwice
twice_told = (
  listing twice_parts [],
  record {
    document = document_of (item (pair (codes "p") (codes "a")) (item (pair (codes "p") (codes "b")) (item (pair [] (codes "c")) no_items))) no_items;
    is_document = is_document _ _ twice_read refl;
    lists = record { two_keys = refl; parts = refl; wires = refl };
  },
  (record { some = lit≤ tt; few = lit≤ tt }, (1, record { here = bad_at twice_parts 1 (lit≤ tt) refl; none_before = first_sound twice_parts refl }, refl)),
)
