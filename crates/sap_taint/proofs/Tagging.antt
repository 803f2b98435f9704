-- The examples are netlists, and one of them carries the taint of another.
use Rattle.sap_lemmas.proofs.Common.{◌≡◌, ℕ, Bool, [], ◌∷◌, Some, true, false, ap, subst, refl, inl, inr, lit<, lit≤, ◌||◌, codes, unwrap_or, bytes_eq, cases_Bool, equal_of_bytes_eq}
use Rattle.sap_maps.specs.Prelude.{Name, Scope, find}
use Rattle.sap_net.specs.Prelude.{is_name, IsWidth, IsNetlist, readable}
use Rattle.sap_taint.specs.TagNames.{name_of_tag, HasRoomForTags}
use Rattle.sap_taint.specs.Examples.{handing_on, handing_tags_on, storing}
use Rattle.sap_taint.specs.TaggedForm.{HasTaggedForm}
use Rattle.sap_taint.specs.Carries.{CarriesTaint}
use Rattle.sap_taint.proofs.CarriesCycle.{CarriesCycle, carries_taint}

pub byte_wide : IsWidth 8
byte_wide = (lit≤ tt, lit≤ tt)

pub bit_wide : IsWidth 1
bit_wide = (lit≤ tt, lit≤ tt)

last_to_second : (a b c d : Bool) → (a || (b || (c || (d || false)))) ≡ (a || (d || (b || (c || false))))
last_to_second true b c d = refl
last_to_second false true c true = refl
last_to_second false true c false = refl
last_to_second false false true true = refl
last_to_second false false true false = refl
last_to_second false false false true = refl
last_to_second false false false false = refl

swapped : (a b c d : Bool) → (a || (b || (c || (d || false)))) ≡ (a || (c || (b || (d || false))))
swapped true b c d = refl
swapped false true true d = refl
swapped false true false d = refl
swapped false false true d = refl
swapped false false false d = refl

pub given_rules : IsNetlist handing_on
unfolding is_name
given_rules =
    record {
      module_named = refl;
      named = (refl, (refl, (refl, (refl, tt))));
      declared_once = (refl, (refl, (refl, (refl, tt))));
      declared = λ x. last_to_second (bytes_eq x (codes "v_a")) (bytes_eq x (codes "v_x")) (bytes_eq x (codes "v_y")) (bytes_eq x (codes "n1"));
      registers_in_order = refl;
      memories_in_order = refl;
      ports_first = refl;
      ports_show = (refl, (refl, (refl, tt)));
      inputs_are_ports = refl;
      values = (byte_wide, refl, refl, (byte_wide, refl, refl, (byte_wide, refl, refl, tt)));
      memory_shapes = tt;
      assigns = (byte_wide, refl, refl, (8, 8, byte_wide, byte_wide, refl, refl, refl, refl), tt);
      nexts = ((lit< tt, refl), ((lit< tt, refl), tt));
      writes = tt;
    }

-- what is found on a list is one of its entries
pub one_of : (P : Name → ℕ → Type 0) (e : Name × ℕ) (es : Scope) → P e.0 e.1 → ((x : Name) (k : ℕ) → find es x ≡ Some k → P x k)
    → (x : Name) (k : ℕ) → find (e ∷ es) x ≡ Some k → P x k
one_of P e es here rest x k h =
    elim (cases_Bool (bytes_eq e.0 x)) [
      | inl t ↦ (
          let i : Some e.1 ≡ Some k = rw t at h in
          let j : e.1 ≡ k = ap (λ o. unwrap_or o 0) i in
          subst (λ (y : Name). P y k) (equal_of_bytes_eq e.0 x t) (subst (P e.0) j here))
      | inr f ↦ rest x k (rw f at h)
    ]

pub none_of : (P : Name → ℕ → Type 0) → (x : Name) (k : ℕ) → find {X = ℕ} [] x ≡ Some k → P x k
none_of P x k h = absurd (cc)

form : HasTaggedForm 1 handing_on handing_tags_on
unfolding name_of_tag
form =
    record {
      module_name = refl;
      ports = refl;
      inputs = refl;
      helping = [];
      names = refl;
      helping_wires = tt;
      wires = (refl, tt);
      registers = λ x. swapped (bytes_eq x (codes "v_x")) (bytes_eq x (codes "t_x")) (bytes_eq x (codes "v_y")) (bytes_eq x (codes "t_y"));
      memories = λ x. refl;
      values =
          let P = λ (x : Name) (u : ℕ). (find (readable handing_tags_on) x ≡ Some u) × (find (readable handing_tags_on) (name_of_tag x) ≡ Some 1) in
          let y : Scope = (codes "v_y", 8) ∷ [] in
          let x : Scope = (codes "v_x", 8) ∷ y in
          let a : Scope = (codes "v_a", 8) ∷ x in
          one_of P (codes "n1", 8) a (refl, refl) (one_of P (codes "v_a", 8) x (refl, refl)
          (one_of P (codes "v_x", 8) y (refl, refl) (one_of P (codes "v_y", 8) [] (refl, refl) (none_of P))));
      shapes = λ x s h. absurd (cc);
    }

carried_cycle : CarriesCycle 1 handing_on handing_tags_on
unfolding name_of_tag
carried_cycle =
    record {
      form = form;
      first = λ u b. (((b.0.0, (b.0.1.1.0, tt)), tt), ((b.0.1.0, (b.0.1.1.1.0, tt)), tt));
      later = λ p u a b. (((b.0.0, (b.0.1.1.0, tt)), tt), ((b.0.1.0, (b.0.1.1.1.0, tt)), tt));
      wires = λ u a. ((a.equations.1.0, tt), (a.equations.0, tt));
    }

fifth_true : (c d e f : Bool) → (c || (d || (e || (f || true)))) ≡ true
fifth_true true d e f = refl
fifth_true false true e f = refl
fifth_true false false true f = refl
fifth_true false false false true = refl
fifth_true false false false false = refl

last_true : (c d e f n : Bool) → (c || (d || (e || (f || (n || true))))) ≡ true
last_true c d e f true = fifth_true c d e f
last_true c d e f false = fifth_true c d e f

wires_first : (c d e f n t : Bool) → (c || (d || (e || (f || (n || (t || false)))))) ≡ (t || (n || (c || (d || (e || (f || false))))))
wires_first c d e f n true = last_true c d e f n
wires_first c d e f true false = fifth_true c d e f
wires_first c d e f false false = refl

pub made_rules : IsNetlist handing_tags_on
unfolding is_name
made_rules =
    record {
      module_named = refl;
      named = (refl, (refl, (refl, (refl, (refl, (refl, (refl, (refl, tt))))))));
      declared_once = (refl, (refl, (refl, (refl, (refl, (refl, (refl, (refl, tt))))))));
      declared = λ x. ap (λ b. bytes_eq x (codes "v_a") || (bytes_eq x (codes "t_a") || b))
          (wires_first (bytes_eq x (codes "v_x")) (bytes_eq x (codes "t_x")) (bytes_eq x (codes "v_y")) (bytes_eq x (codes "t_y"))
          (bytes_eq x (codes "n1")) (bytes_eq x (codes "t_n1")));
      registers_in_order = refl;
      memories_in_order = refl;
      ports_first = refl;
      ports_show = (refl, (refl, (refl, (refl, (refl, (refl, tt))))));
      inputs_are_ports = refl;
      values = (byte_wide, refl, refl, (bit_wide, refl, refl, (byte_wide, refl, refl, (bit_wide, refl, refl, (byte_wide, refl, refl, (bit_wide, refl, refl, tt))))));
      memory_shapes = tt;
      assigns = (
        bit_wide,
        refl,
        refl,
        (1, 1, bit_wide, bit_wide, refl, refl, refl, refl),
        (byte_wide, refl, refl, (8, 8, byte_wide, byte_wide, refl, refl, refl, refl), tt),
      );
      nexts = ((lit< tt, refl), ((lit< tt, refl), ((lit< tt, refl), ((lit< tt, refl), tt))));
      writes = tt;
    }

room : HasRoomForTags handing_on
unfolding name_of_tag
room = record { distinct = (refl, (refl, (refl, (refl, (refl, (refl, (refl, (refl, tt)))))))); tag_names = refl }

pub carried : CarriesTaint 1 handing_on handing_tags_on
carried = carries_taint 1 handing_on handing_tags_on given_rules room made_rules carried_cycle

pub either_first : (a b rest : Bool) → (a || (b || rest)) ≡ (b || (a || rest))
either_first true true rest = refl
either_first true false rest = refl
either_first false b rest = refl

pub storing_rules : IsNetlist storing
unfolding is_name
storing_rules =
    record {
      module_named = refl;
      named = (refl, (refl, (refl, (refl, (refl, tt)))));
      declared_once = (refl, (refl, (refl, (refl, (refl, tt)))));
      declared = λ x. ap (λ b. bytes_eq x (codes "v_e") || (bytes_eq x (codes "v_d") || b))
          (either_first (bytes_eq x (codes "v_y")) (bytes_eq x (codes "n1")) (bytes_eq x (codes "v_m") || false));
      registers_in_order = refl;
      memories_in_order = refl;
      ports_first = refl;
      ports_show = (refl, (refl, (refl, tt)));
      inputs_are_ports = refl;
      values = (bit_wide, refl, refl, (byte_wide, refl, refl, (byte_wide, refl, refl, tt)));
      memory_shapes = (byte_wide, refl, tt);
      assigns = (byte_wide, refl, refl, (1, refl, (refl, lit< tt)), tt);
      nexts = ((lit< tt, refl), tt);
      writes = (
        record {
          bits = 1;
          depth = (lit≤ tt, lit≤ tt, refl);
          start = lit< tt;
          enable = refl;
          index = (refl, lit< tt);
          value = refl;
        },
        tt,
      );
    }
