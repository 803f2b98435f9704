-- The worked examples of the rules on wires.
use Rattle.sap_lemmas.proofs.Common.{◌≡◌, ℕ, zero, suc, ◌<◌, List, [], ◌∷◌, ◌++◌, take, drop, false, if◌then◌else◌, Option, Some, None, refl, sym, ap, ◌∙◌, subst, arith, lit≤, codes, slice_get, Contains, bytes_eq, both_ways, slice_get_within, some_unique, bytes_eq_same}
use Rattle.sap_names.specs.Entities.{what_is}
use Rattle.sap_names.specs.declared.kind.Declared.{Declared}
use Rattle.sap_names.specs.declared.kind.Declared.TheVariants as what
use Rattle.sap_system.specs.Examples.{wire, wire_through}
use Rattle.sap_system.specs.WireExamples.{entities_of_p, entities_of_q, part_p, part_q, p_and_q, FeedEachOther, FromInput, AllWrong, ToRegister, FedTwice, Narrower, UnknownLevel}
use Rattle.sap_system.specs.Wires.{NamedPart, Names, NoRegister, NoInput, FedBefore, OtherWidth, NoLevel, Breaks, Stands, number_of_code}
use Rattle.sap_system.specs.declared.file.WireText.{WireText}
use Rattle.sap_system.specs.declared.link_fault.LinkCode.{LinkCode}
use Rattle.sap_system.specs.declared.link_fault.LinkCode.TheVariants.{K5, K6, K7, K8, K9}

-- what a text means: P.X, for an entity X of p or of q

abbrev meant : List ℕ → Option Declared
meant text =
    if bytes_eq (take 2 text) (codes "p.") then what_is entities_of_p (drop 2 text)
    else if bytes_eq (take 2 text) (codes "q.") then what_is entities_of_q (drop 2 text)
    else None

meant_in : (text : List ℕ) (part : NamedPart) (entity : List ℕ) (d : Declared) (i : ℕ) → slice_get p_and_q.parts i ≡ Some part
    → text ≡ part.name ++ codes "." ++ entity → what_is part.entities entity ≡ Some d → meant text ≡ Some d
meant_in text part entity d zero is spelled stands =
    let same : part_p ≡ part = some_unique (Some part_p) part_p part refl is in
    let known : what_is entities_of_p entity ≡ Some d = subst (λ (p : NamedPart). what_is p.entities entity ≡ Some d) (sym same) stands in
    let text_is : text ≡ codes "p" ++ codes "." ++ entity = subst (λ (p : NamedPart). text ≡ p.name ++ codes "." ++ entity) (sym same) spelled in
    ap meant text_is ∙ known
meant_in text part entity d (suc zero) is spelled stands =
    let same : part_q ≡ part = some_unique (Some part_q) part_q part refl is in
    let known : what_is entities_of_q entity ≡ Some d = subst (λ (p : NamedPart). what_is p.entities entity ≡ Some d) (sym same) stands in
    let text_is : text ≡ codes "q" ++ codes "." ++ entity = subst (λ (p : NamedPart). text ≡ p.name ++ codes "." ++ entity) (sym same) spelled in
    ap meant text_is ∙ known
meant_in text part entity d (suc (suc i)) is spelled stands = let low : suc (suc i) < 2 = slice_get_within p_and_q.parts (suc (suc i)) part is in absurd (omega (arith, low))

meant_is : (text : List ℕ) (i : ℕ) (entity : List ℕ) (d : Declared) → Names p_and_q text i entity d → meant text ≡ Some d
meant_is text i entity d n = meant_in text n.part entity d i n.is_part n.spelled n.stands_for

-- a text that names what stands in one part names nothing else there
one_text : (text other : List ℕ) (i : ℕ) (entity : List ℕ) (c d : Declared) → Names p_and_q text i entity c → Names p_and_q other i entity d → text ≡ other
one_text text other i entity c d n m =
    let same : n.part ≡ m.part = some_unique (slice_get p_and_q.parts i) n.part m.part n.is_part m.is_part in
    n.spelled ∙ ap (λ (p : NamedPart). p.name ++ codes "." ++ entity) same ∙ sym m.spelled

apart : (m n : List ℕ) → bytes_eq m n ≡ false → m ≡ n → ⊥
apart m n f e = both_ways (bytes_eq m n) f (ap (bytes_eq m) (sym e) ∙ bytes_eq_same m)

in_p : (entity : List ℕ) (d : Declared) → what_is entities_of_p entity ≡ Some d → Names p_and_q (codes "p." ++ entity) 0 entity d
in_p entity d stands = record { part = part_p; is_part = refl; spelled = refl; stands_for = stands }

in_q : (entity : List ℕ) (d : Declared) → what_is entities_of_q entity ≡ Some d → Names p_and_q (codes "q." ++ entity) 1 entity d
in_q entity d stands = record { part = part_q; is_part = refl; spelled = refl; stands_for = stands }

-- wires

no_register : (w : WireText) → ((n : ℕ) → meant w.from ≡ Some (what.Register n) → ⊥) → NoRegister p_and_q w
no_register w none i entity width n = none width (meant_is w.from i entity (what.Register width) n)

no_input : (w : WireText) → ((n : ℕ) → meant w.to ≡ Some (what.Input n) → ⊥) → NoInput p_and_q w
no_input w none i entity width n = none width (meant_is w.to i entity (what.Input width) n)

same_width : (w : WireText) (n : ℕ) → meant w.from ≡ Some (what.Register n) → meant w.to ≡ Some (what.Input n) → ¬ OtherWidth p_and_q w
same_width w n from to other =
    let first = meant_is w.from other.from_part other.register (what.Register other.from_width) other.from in
    let second = meant_is w.to other.to_part other.input (what.Input other.to_width) other.to in
    let left : n ≡ other.from_width = cc in
    let right : n ≡ other.to_width = cc in
    other.differ (sym left ∙ right)

no_level_needed : (w : WireText) → w.level ≡ None → ¬ NoLevel p_and_q w
no_level_needed w none other = let e : None ≡ Some other.level = sym none ∙ other.third in cc

level_known : (w : WireText) (level : List ℕ) → w.level ≡ Some level → Contains p_and_q.levels level → ¬ NoLevel p_and_q w
level_known w level is known other = other.unknown (subst (Contains p_and_q.levels) (some_unique w.level level other.level is other.third) known)

not_first : (wires : List WireText) (w : WireText) → ¬ FedBefore p_and_q wires 0 w
not_first wires w fed = let low = fed.before in absurd (omega (arith, low))

-- what stands at a place
here : (wires : List WireText) (w : WireText) (code : LinkCode) (k : ℕ) → slice_get wires k ≡ Some w → Stands p_and_q wires code k → Breaks p_and_q wires code k w
here wires w code k is stands = subst (λ v. Breaks p_and_q wires code k v) (some_unique (slice_get wires k) stands.wire w stands.is_wire is) stands.breaks

-- on the only wire only rules behind the first can stand; codes are 5 or more

no_lower_than_five : (code : LinkCode) → number_of_code code < 5 → ⊥
no_lower_than_five K5 low = absurd (omega (arith, low))
no_lower_than_five K6 low = absurd (omega (arith, low))
no_lower_than_five K7 low = absurd (omega (arith, low))
no_lower_than_five K8 low = absurd (omega (arith, low))
no_lower_than_five K9 low = absurd (omega (arith, low))

none_at_none : (wires : List WireText) (code : LinkCode) (j : ℕ) → j < 0 → ¬ Stands p_and_q wires code j
none_at_none wires code j low stands = absurd (omega (arith, low))

-- K5

pub from_input : FromInput
from_input = (
  0,
  record {
    here = record { wire = wire (codes "p.a") (codes "q.b"); is_wire = refl; breaks = no_register (wire (codes "p.a") (codes "q.b")) (λ n e. cc) };
    none_earlier = λ code j low. none_at_none _ code j low;
    none_lower = λ code low stands. no_lower_than_five code low;
  },
  refl,
)

pub all_wrong : AllWrong
all_wrong = (
  0,
  record {
    here = record {
      wire = wire_through (codes "p.a") (codes "q.y") (codes "mid");
      is_wire = refl;
      breaks = no_register (wire_through (codes "p.a") (codes "q.y") (codes "mid")) (λ n e. cc);
    };
    none_earlier = λ code j low. none_at_none _ code j low;
    none_lower = λ code low stands. no_lower_than_five code low;
  },
  refl,
)

-- K6

abbrev x_to_y : WireText
x_to_y = wire (codes "p.x") (codes "q.y")

none_below_six : (code : LinkCode) → number_of_code code < 6 → ¬ Stands p_and_q (x_to_y ∷ []) code 0
none_below_six K5 low stands = here (x_to_y ∷ []) x_to_y K5 0 refl stands 0 (codes "x") 8 (in_p (codes "x") (what.Register 8) refl)
none_below_six K6 low stands = absurd (omega (arith, low))
none_below_six K7 low stands = absurd (omega (arith, low))
none_below_six K8 low stands = absurd (omega (arith, low))
none_below_six K9 low stands = absurd (omega (arith, low))

pub to_register : ToRegister
to_register = (
  0,
  record {
    here = record { wire = x_to_y; is_wire = refl; breaks = no_input x_to_y (λ n e. cc) };
    none_earlier = λ code j low. none_at_none _ code j low;
    none_lower = none_below_six;
  },
  refl,
)

-- K7

abbrev x_to_b : WireText
x_to_b = wire (codes "p.x") (codes "q.b")

abbrev z_to_b : WireText
z_to_b = wire (codes "q.z") (codes "q.b")

abbrev twice : List WireText
twice = x_to_b ∷ z_to_b ∷ []

b_named : Names p_and_q (codes "q.b") 1 (codes "b") (what.Input 8)
b_named = in_q (codes "b") (what.Input 8) refl

x_to_b_keeps : (wires : List WireText) (code : LinkCode) → slice_get wires 0 ≡ Some x_to_b → ¬ Stands p_and_q wires code 0
x_to_b_keeps wires K5 is stands = here wires x_to_b K5 0 is stands 0 (codes "x") 8 (in_p (codes "x") (what.Register 8) refl)
x_to_b_keeps wires K6 is stands = here wires x_to_b K6 0 is stands 1 (codes "b") 8 b_named
x_to_b_keeps wires K7 is stands = not_first wires x_to_b (here wires x_to_b K7 0 is stands)
x_to_b_keeps wires K8 is stands = same_width x_to_b 8 refl refl (here wires x_to_b K8 0 is stands)
x_to_b_keeps wires K9 is stands = no_level_needed x_to_b refl (here wires x_to_b K9 0 is stands)

twice_before : (code : LinkCode) (j : ℕ) → j < 1 → ¬ Stands p_and_q twice code j
twice_before code zero low stands = x_to_b_keeps twice code refl stands
twice_before code (suc j) low stands = absurd (omega (arith, low))

twice_lower : (code : LinkCode) → number_of_code code < 7 → ¬ Stands p_and_q twice code 1
twice_lower K5 low stands = here twice z_to_b K5 1 refl stands 1 (codes "z") 4 (in_q (codes "z") (what.Register 4) refl)
twice_lower K6 low stands = here twice z_to_b K6 1 refl stands 1 (codes "b") 8 b_named
twice_lower K7 low stands = absurd (omega (arith, low))
twice_lower K8 low stands = absurd (omega (arith, low))
twice_lower K9 low stands = absurd (omega (arith, low))

pub fed_twice : FedTwice
fed_twice = (
  1,
  record {
    here = record {
      wire = z_to_b;
      is_wire = refl;
      breaks = record {
        earlier = 0;
        before = lit≤ tt;
        other = x_to_b;
        is_other = refl;
        part = 1;
        entity = codes "b";
        width = 8;
        there = b_named;
        here = b_named;
      };
    };
    none_earlier = twice_before;
    none_lower = twice_lower;
  },
  refl,
)

-- K8

abbrev z_to_a : WireText
z_to_a = wire_through (codes "q.z") (codes "p.a") (codes "mid")

narrower_lower : (code : LinkCode) → number_of_code code < 8 → ¬ Stands p_and_q (z_to_a ∷ []) code 0
narrower_lower K5 low stands = here (z_to_a ∷ []) z_to_a K5 0 refl stands 1 (codes "z") 4 (in_q (codes "z") (what.Register 4) refl)
narrower_lower K6 low stands = here (z_to_a ∷ []) z_to_a K6 0 refl stands 0 (codes "a") 8 (in_p (codes "a") (what.Input 8) refl)
narrower_lower K7 low stands = not_first (z_to_a ∷ []) z_to_a (here (z_to_a ∷ []) z_to_a K7 0 refl stands)
narrower_lower K8 low stands = absurd (omega (arith, low))
narrower_lower K9 low stands = absurd (omega (arith, low))

pub narrower : Narrower
narrower = (
  0,
  record {
    here = record {
      wire = z_to_a;
      is_wire = refl;
      breaks = record {
        from_part = 1;
        register = codes "z";
        from_width = 4;
        from = in_q (codes "z") (what.Register 4) refl;
        to_part = 0;
        input = codes "a";
        to_width = 8;
        to = in_p (codes "a") (what.Input 8) refl;
        differ = λ e. absurd (omega (arith, e));
      };
    };
    none_earlier = λ code j low. none_at_none _ code j low;
    none_lower = narrower_lower;
  },
  refl,
)

-- K9

abbrev x_to_b_mid : WireText
x_to_b_mid = wire_through (codes "p.x") (codes "q.b") (codes "mid")

unknown_lower : (code : LinkCode) → number_of_code code < 9 → ¬ Stands p_and_q (x_to_b_mid ∷ []) code 0
unknown_lower K5 low stands = here (x_to_b_mid ∷ []) x_to_b_mid K5 0 refl stands 0 (codes "x") 8 (in_p (codes "x") (what.Register 8) refl)
unknown_lower K6 low stands = here (x_to_b_mid ∷ []) x_to_b_mid K6 0 refl stands 1 (codes "b") 8 b_named
unknown_lower K7 low stands = not_first (x_to_b_mid ∷ []) x_to_b_mid (here (x_to_b_mid ∷ []) x_to_b_mid K7 0 refl stands)
unknown_lower K8 low stands = same_width x_to_b_mid 8 refl refl (here (x_to_b_mid ∷ []) x_to_b_mid K8 0 refl stands)
unknown_lower K9 low stands = absurd (omega (arith, low))

no_mid : ¬ Contains p_and_q.levels (codes "mid")
no_mid (zero, low, e) = apart (codes "low") (codes "mid") refl e
no_mid (suc zero, low, e) = apart (codes "high") (codes "mid") refl e
no_mid (suc (suc k), low, e) = absurd (omega (arith, low))

pub unknown_level : UnknownLevel
unknown_level = (
  0,
  record {
    here = record {
      wire = x_to_b_mid;
      is_wire = refl;
      breaks = record { level = codes "mid"; third = refl; unknown = no_mid };
    };
    none_earlier = λ code j low. none_at_none _ code j low;
    none_lower = unknown_lower;
  },
  refl,
)

-- none is broken

abbrev y_to_a_low : WireText
y_to_a_low = wire_through (codes "q.y") (codes "p.a") (codes "low")

abbrev each_other : List WireText
each_other = x_to_b ∷ y_to_a_low ∷ []

other_before : (earlier : ℕ) (other : WireText) → earlier < 1 → slice_get each_other earlier ≡ Some other → other.to ≡ codes "q.b"
other_before zero other low is = ap (λ (w : WireText). w.to) (some_unique (Some other) other x_to_b refl (sym is))
other_before (suc j) other low is = absurd (omega (arith, low))

not_before : ¬ FedBefore p_and_q each_other 1 y_to_a_low
not_before fed =
    let same = one_text fed.other.to (codes "p.a") fed.part fed.entity (what.Input fed.width) (what.Input fed.width) fed.there fed.here in
    apart (codes "q.b") (codes "p.a") refl (sym (other_before fed.earlier fed.other fed.before fed.is_other) ∙ same)

second_keeps : (code : LinkCode) → ¬ Stands p_and_q each_other code 1
second_keeps K5 stands = here each_other y_to_a_low K5 1 refl stands 1 (codes "y") 8 (in_q (codes "y") (what.Register 8) refl)
second_keeps K6 stands = here each_other y_to_a_low K6 1 refl stands 0 (codes "a") 8 (in_p (codes "a") (what.Input 8) refl)
second_keeps K7 stands = not_before (here each_other y_to_a_low K7 1 refl stands)
second_keeps K8 stands = same_width y_to_a_low 8 refl refl (here each_other y_to_a_low K8 1 refl stands)
second_keeps K9 stands = level_known y_to_a_low (codes "low") refl (0, lit≤ tt, refl) (here each_other y_to_a_low K9 1 refl stands)

pub feed_each_other : FeedEachOther
feed_each_other code zero stands = x_to_b_keeps each_other code refl stands
feed_each_other code (suc zero) stands = second_keeps code stands
feed_each_other code (suc (suc k)) stands = let low : suc (suc k) < 2 = slice_get_within each_other (suc (suc k)) stands.wire stands.is_wire in absurd (omega (arith, low))
