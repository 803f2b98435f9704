-- A netlist with a memory and with tags is one, and carries the taint of the netlist without.
use Rattle.sap_lemmas.proofs.Common.{◌≡◌, ℕ, Bool, zero, suc, [], ◌∷◌, ◌++◌, Some, true, false, ◌||◌, ◌<◌, ap, ap₂, sym, ◌∙◌, refl, lit<, lit≤, arith, codes, bit_or, ◌==◌, if◌then◌else◌, List, bytes_eq, or_zero_r, or_zero_l}
use Rattle.sap_maps.specs.Prelude.{Name, Scope, find}
use Rattle.sap_net.specs.Prelude.{is_name, is_among, IsWidth, IsNetlist, readable, shapes}
use Rattle.sap_net.proofs.NamesLemmas.{among_append}
use Rattle.sap_taint.specs.TagNames.{name_of_tag, HasRoomForTags}
use Rattle.sap_taint.specs.Examples.{storing, storing_tags}
use Rattle.sap_taint.specs.TaggedForm.{HasTaggedForm}
use Rattle.sap_taint.specs.Carries.{CarriesTaint}
use Rattle.sap_taint.proofs.Found.{at_named}
use Rattle.sap_taint.proofs.CarriesCycle.{CarriesCycle, carries_taint}
use Rattle.sap_taint.proofs.Tagging.{byte_wide, bit_wide, one_of, none_of, either_first, storing_rules}

two_wide : IsWidth 2
two_wide = (lit≤ tt, lit≤ tt)

form : HasTaggedForm 2 storing storing_tags
unfolding name_of_tag
form =
    record {
      module_name = refl;
      ports = refl;
      inputs = refl;
      helping = codes "n2" ∷ codes "n3" ∷ codes "n4" ∷ [];
      names = refl;
      helping_wires = (refl, (refl, (refl, tt)));
      wires = (refl, tt);
      registers = λ x. refl;
      memories = λ x. refl;
      values =
          let P = λ (x : Name) (u : ℕ). (find (readable storing_tags) x ≡ Some u) × (find (readable storing_tags) (name_of_tag x) ≡ Some 2) in
          let y : Scope = (codes "v_y", 8) ∷ [] in
          let d : Scope = (codes "v_d", 8) ∷ y in
          let e : Scope = (codes "v_e", 1) ∷ d in
          one_of P (codes "n1", 8) e (refl, refl)
          (one_of P (codes "v_e", 1) d (refl, refl) (one_of P (codes "v_d", 8) y (refl, refl) (one_of P (codes "v_y", 8) [] (refl, refl) (none_of P))));
      shapes =
          at_named (λ x s. (find (shapes storing_tags) x ≡ Some s) × (find (readable storing_tags) (name_of_tag x) ≡ Some 2))
          (λ m. m.name) (λ m. (m.width, m.depth)) storing.memories ((refl, refl), tt);
    }

-- a condition of one bit is 1 where it isn't 0
bit_test : (v a b : ℕ) → v < 2 → (if v == 0 then b else a) ≡ (if v == 1 then a else b)
bit_test zero a b h = refl
bit_test (suc zero) a b h = refl
bit_test (suc (suc v)) a b h = absurd (omega (arith, h))

carried_cycle : CarriesCycle 2 storing storing_tags
unfolding name_of_tag
carried_cycle =
    record {
      form = form;
      first = λ u b. (((b.0.0, tt), (b.1.0, tt)), ((b.0.1.0, tt), (b.0.1.1.0, tt)));
      later = λ p u a b.
          let e = a.equations.1.1 in
          let t = p.value (codes "t_d") in
          let chosen = e.1.0 ∙ bit_test (p.value (codes "v_e")) t 0 (a.within.value (codes "v_e") 1 refl)
          ∙ ap (λ (n : ℕ). if p.value (codes "v_e") == 1 then n else 0) (sym (or_zero_l t)) in
          (((b.0.0, tt), (b.1.0, tt)), ((b.0.1.0, tt), (b.0.1.1.0 ∙ e.1.1.0 ∙ ap₂ bit_or e.0 chosen, tt)));
      wires = λ u a. ((a.equations.0, tt), (a.equations.1.0 ∙ sym (or_zero_r (u.value (codes "t_m"))), tt));
    }

-- names in groups, by declaration and by what they are
regrouped : (a b c d : Bool) → (a || (b || (c || d))) ≡ (b || (d || (a || c)))
regrouped a true c d = either_first a true (c || d)
regrouped true false c true = refl
regrouped true false c false = refl
regrouped false false true true = refl
regrouped false false true false = refl
regrouped false false false true = refl
regrouped false false false false = refl

in_groups : (x : Name) (a b c d : List Name) → is_among x (a ++ (b ++ (c ++ d))) ≡ (is_among x a || (is_among x b || (is_among x c || is_among x d)))
in_groups x a b c d =
    among_append x a (b ++ (c ++ d))
    ∙ ap (λ q. is_among x a || q) (among_append x b (c ++ d) ∙ ap (λ q. is_among x b || q) (among_append x c d))

same_names : (x : Name) (a b c c' d : List Name) → is_among x c ≡ is_among x c' → is_among x (a ++ (b ++ (c ++ d))) ≡ is_among x (b ++ (d ++ (a ++ c')))
same_names x a b c c' d e =
    in_groups x a b c d
    ∙ regrouped (is_among x a) (is_among x b) (is_among x c) (is_among x d)
    ∙ ap (λ q. is_among x b || (is_among x d || (is_among x a || q))) e
    ∙ sym (in_groups x b d a c')

pub tagged_rules : IsNetlist storing_tags
unfolding is_name
tagged_rules =
    record {
      module_named = refl;
      named = (refl, (refl, (refl, (refl, (refl, (refl, (refl, (refl, (refl, (refl, (refl, (refl, (refl, tt)))))))))))));
      declared_once = (refl, (refl, (refl, (refl, (refl, (refl, (refl, (refl, (refl, (refl, (refl, (refl, (refl, tt)))))))))))));
      declared = λ x. ap (λ b. bytes_eq x (codes "v_e") || (bytes_eq x (codes "t_e") || (bytes_eq x (codes "v_d") || (bytes_eq x (codes "t_d") || b))))
          (same_names x (codes "v_y" ∷ codes "t_y" ∷ []) (codes "n1" ∷ codes "t_n1" ∷ []) (codes "v_m" ∷ codes "t_m" ∷ []) (codes "t_m" ∷ codes "v_m" ∷ [])
          (codes "n2" ∷ codes "n3" ∷ codes "n4" ∷ []) (either_first (bytes_eq x (codes "v_m")) (bytes_eq x (codes "t_m")) false));
      registers_in_order = refl;
      memories_in_order = refl;
      ports_first = refl;
      ports_show = (refl, (refl, (refl, (refl, (refl, (refl, tt))))));
      inputs_are_ports = refl;
      values = (
        bit_wide,
        refl,
        refl,
        (
          two_wide,
          refl,
          refl,
          (byte_wide, refl, refl, (two_wide, refl, refl, (byte_wide, refl, refl, (two_wide, refl, refl, (two_wide, refl, refl, tt))))),
        ),
      );
      memory_shapes = (byte_wide, refl, tt);
      assigns = (
        byte_wide,
        refl,
        refl,
        (1, refl, (refl, lit< tt)),
        (
          two_wide,
          refl,
          refl,
          refl,
          (
            two_wide,
            refl,
            refl,
            (2, 2, two_wide, two_wide, refl, refl, refl, refl),
            (two_wide, refl, refl, (refl, refl, (refl, lit< tt)), (two_wide, refl, refl, (2, 2, two_wide, two_wide, refl, refl, refl, refl), tt)),
          ),
        ),
      );
      nexts = ((lit< tt, refl), ((lit< tt, refl), ((lit< tt, refl), tt)));
      writes = (
        record {
          bits = 1;
          depth = (lit≤ tt, lit≤ tt, refl);
          start = lit< tt;
          enable = refl;
          index = (refl, lit< tt);
          value = refl;
        },
        tt,
      );
    }

room : HasRoomForTags storing
unfolding name_of_tag
room = record { distinct = (refl, (refl, (refl, (refl, (refl, (refl, (refl, (refl, (refl, (refl, tt)))))))))); tag_names = refl }

pub carried : CarriesTaint 2 storing storing_tags
carried = carries_taint 2 storing storing_tags storing_rules room tagged_rules carried_cycle
