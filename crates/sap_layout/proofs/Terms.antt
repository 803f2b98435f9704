-- Expressions and tag expressions, places aside.
use Rattle.std.proofs.Common.{◌≡◌, ◌∙◌, ℕ, List, map, Option, None, refl, ap}
use Rattle.sap_tree.specs.Syntax.{Expression, variable, cell_at, unary_of, binary_of, choice, slice, concat, zero_extend, Expressions, no_part, and_part, TagExpression, level_of, tag_at, level_at, join_of, TagExpressions, no_tag, and_tag}
use Rattle.sap_tree.specs.Bare.{bare_expression, bare_expressions, bare_tag, bare_tags}
use Rattle.sap_names.specs.declared.entity.Entity.{Entity}
use Rattle.sap_names.specs.Entities.{Lookup, what_is}
use Rattle.sap_names.specs.Widths.{own, own_parts}
use Rattle.sap_lattice.specs.Levels.{Levels}
use Rattle.sap_resolved.specs.Terms.{term_of, parts_of, level_term, level_terms}
use Rattle.sap_layout.proofs.Entities.{aside_entity, what_at, what_aside, number_at}

mutual
  unfolding bare_expression

  pub own_bare : (what : Lookup) (e : Expression) → own what (bare_expression e) ≡ own what e
  own_bare what (unary_of spot operator e) = rw (own_bare what e)
  own_bare what (binary_of spot operator a b) = rw (own_bare what a, own_bare what b)
  own_bare what (choice spot condition a b) = rw (own_bare what a, own_bare what b)
  own_bare what (slice spot e high low) = rw (own_bare what e)
  own_bare what (concat spot parts) = own_parts_bare what parts
  own_bare what (zero_extend spot e width) = rw (own_bare what e)
  own_bare what _ = refl

  pub own_parts_bare : (what : Lookup) (parts : Expressions) → own_parts what (bare_expressions parts) ≡ own_parts what parts
  own_parts_bare what no_part = refl
  own_parts_bare what (and_part e parts) = rw (own_bare what e, own_parts_bare what parts)

module _ (es : List Entity) where
  own_aside : (e : Expression) → own (what_is (map aside_entity es)) (bare_expression e) ≡ own (what_is es) e
  own_aside e = own_bare _ e ∙ ap (λ (what : Lookup). own what e) (what_aside es)

  mutual
    unfolding bare_expression

    pub term_aside : (e : Expression) (asked : Option ℕ) → term_of (map aside_entity es) (bare_expression e) asked ≡ term_of es e asked
    term_aside (variable spot name) asked = rw (number_at es name)
    term_aside (cell_at spot name index) asked = rw (what_at es name, number_at es name, term_aside index)
    term_aside (unary_of spot operator e) asked = rw (own_aside e, term_aside e)
    term_aside (binary_of spot operator a b) asked = rw (own_aside a, own_aside b, term_aside a, term_aside b)
    term_aside (choice spot condition a b) asked = rw (own_aside a, own_aside b, term_aside condition, term_aside a, term_aside b)
    term_aside (slice spot e high low) asked = rw (term_aside e)
    term_aside (concat spot parts) asked = parts_aside parts
    term_aside (zero_extend spot e width) asked = rw (own_aside e, term_aside e)
    term_aside _ asked = refl

    parts_aside : (parts : Expressions) → parts_of (map aside_entity es) (bare_expressions parts) ≡ parts_of es parts
    parts_aside no_part = refl
    parts_aside (and_part e no_part) = term_aside e None
    parts_aside (and_part e (and_part f parts)) = rw (term_aside e, parts_aside (and_part f parts))

  mutual
    unfolding bare_tag

    pub level_aside : (ls : Levels) (n : TagExpression) → level_term ls (map aside_entity es) (bare_tag n) ≡ level_term ls es n
    level_aside ls (level_of m) = refl
    level_aside ls (tag_at place e) = rw term_aside
    level_aside ls (level_at place e) = rw term_aside
    level_aside ls (join_of place parts) = levels_aside ls parts

    levels_aside : (ls : Levels) (parts : TagExpressions) → level_terms ls (map aside_entity es) (bare_tags parts) ≡ level_terms ls es parts
    levels_aside ls no_tag = refl
    levels_aside ls (and_tag t no_tag) = level_aside ls t
    levels_aside ls (and_tag t (and_tag u parts)) = rw (level_aside ls t, levels_aside ls (and_tag u parts))
