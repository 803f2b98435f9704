-- Resolving keeps a design.
use Rattle.std.proofs.Common.{◌≡◌, ℕ, ◌+◌, ◌<◌, ◌≤◌, Bool, List, [], ◌∷◌, length, not, None, Option, Some, refl, sym, ap, ◌∙◌, subst, arith}
use Rattle.sap_tree.specs.Syntax.{DesignTree}
use Rattle.sap_tree.specs.declared.name.Mention.{Mention}
use Rattle.sap_tree.specs.declared.syntax.Numeral.{Numeral}
use Rattle.sap_tree.specs.declared.syntax.Decl.{Decl}
use Rattle.sap_tree.specs.declared.syntax.Decl.TheVariants.{Input, Register, Memory}
use Rattle.sap_lattice.specs.Levels.{Levels, order_of}
use Rattle.sap_names.specs.Prelude.{entity_of, declared_in, group_entities, entities_of, what_is, fault_if, width_faults, kind_faults, start_faults, declaration_faults, declarations_faults, states_faults, twice, index_bits, is_sound}
use Rattle.sap_names.specs.declared.entity.Entity.{Entity}
use Rattle.sap_names.specs.declared.kind.Code.TheVariants.{E7}
use Rattle.sap_meaning.specs.Program.{World, entity, nothing, root}
use Rattle.sap_meaning.specs.Program as program
use Rattle.sap_resolved.specs.Worlds.{initial_of, declared, all_declared, world_of}
use Rattle.sap_resolved.specs.Worlds as world
use Rattle.sap_resolved.specs.Terms.{entity_number}
use Rattle.sap_resolved.proofs.Lookup.{entities_match, entities_length, entity_within}
use Rattle.sap_resolved.proofs.sized.Faultless.{none_two, none_three}
use Rattle.sap_resolved.proofs.premises.Places.{Part, part_head, part_tail, part_within, blank, name_at}
use Rattle.sap_resolved.proofs.premises.Lookups.{found, named}
use Rattle.sap_resolved.proofs.premises.Worlds.{laid}
use Rattle.sap_resolved.specs.Kept.Kept.{StartsWith, IsDeclared, declared_name, AreDeclared}
use Rattle.sap_resolved.specs.Kept.Laws.{ResolvingKeeps}
use Rattle.sap_resolved.proofs.kept.Names.{named_at, one_name}
use Rattle.sap_resolved.proofs.kept.Keeping.{Known, IsOfKind, kind_kept, group_kept}

start_kept : (start : Option Numeral) → StartsWith start (initial_of start)
start_kept None = refl
start_kept (Some n) = refl

declaration_kept : (ls : Levels) (le : ℕ → ℕ → Bool) (d : Decl) → declaration_faults ls.names le d ≡ [] → IsDeclared ls d (declared ls d)
declaration_kept ls le (Input place name width) h = (refl, refl, refl)
declaration_kept ls le (Register place name width kind start) h =
    let n = none_three (width_faults width) (kind_faults ls.names le kind) (start_faults width.value start) h in
    let i : IsOfKind ls kind (declared ls (Register place name width kind start)) = record { dynamic = refl; declared = refl; authority = refl } in
    (refl, refl, kind_kept ls le kind (declared ls (Register place name width kind start)) n.1 i, start_kept start)
declaration_kept ls le (Memory place name width depth kind) h =
    let n = none_three (width_faults width) (fault_if (not (is_sound (index_bits depth.value))) E7 depth.place) (kind_faults ls.names le kind) h in
    let i : IsOfKind ls kind (declared ls (Memory place name width depth kind)) = record { dynamic = refl; declared = refl; authority = refl } in
    (refl, refl, kind_kept ls le kind (declared ls (Memory place name width depth kind)) n.2 i)

name_of : (d : Decl) → (entity_of d).name.name ≡ declared_name d
name_of (Input place name width) = refl
name_of _ = refl

module _ (ls : Levels) (le : ℕ → ℕ → Bool) (es : List Entity) (w : World) where
  declarations_kept : (x : ℕ) (ds : List Decl) → Part es x (declared_in ds) → Part w.entities x (all_declared ls ds)
      → declarations_faults ls.names le ds ≡ [] → AreDeclared ls es w x ds
  declarations_kept x [] p q h = tt
  declarations_kept x (d ∷ ds) p q h =
      let n = none_two (declaration_faults ls.names le d) (declarations_faults ls.names le ds) h in
      let e : entity w x ≡ declared ls d = part_head w.entities x (declared ls d) (all_declared ls ds) q nothing in
      let m : name_at es x ≡ declared_name d = ap (λ (f : Entity). f.name.name) (part_head es x (entity_of d) (declared_in ds) p blank) ∙ name_of d in
      let l : x + length (entity_of d ∷ declared_in ds) ≤ length es = part_within es x (entity_of d ∷ declared_in ds) p in (
        named_at es x (declared_name d) (omega arith) m,
        subst (λ (f : program.Entity). IsDeclared ls d f) (sym e) (declaration_kept ls le d n.0),
        declarations_kept (x + 1) ds (part_tail es x (entity_of d) (declared_in ds) p) (part_tail w.entities x (declared ls d) (all_declared ls ds) q) n.1,
      )

-- a used name without faults is that of the entity of its number
pub known_names : (ls : Levels) (d : DesignTree) → Known (entities_of d)
known_names ls d =
    let es = entities_of d in
    let w = world_of ls d in
    record {
      named = λ how name place f.
          let m : Mention = record { place = place; name = name } in
          let e = found es w (entities_match ls d) how m f in
          let l : entity_number es name < root w = entity_within ls d name e.0 e.1 in
          let s : root w ≡ length es = entities_length ls d in
          named_at es (entity_number es name) name (omega arith) (named es w (entities_match ls d) how m f);
    }

pub kept : ResolvingKeeps
kept ls d h =
    let le = (order_of ls).le in
    let es = entities_of d in
    let w = world_of ls d in
    let n = none_three (twice [] es) (declarations_faults ls.names le d.declarations) (states_faults ls.names le (what_is es) d.states) h in
    record {
      declarations =
          declarations_kept ls le es w 0 d.declarations (record { front = []; back = group_entities d.states; is = refl; count = refl })
          (record { front = []; back = world.group_entities ls 0 (length d.declarations) d.states; is = refl; count = refl }) n.1;
      states = group_kept ls le es w (known_names ls d) (root w) 1 0 (length d.declarations) d.states (laid ls d) n.2;
      entities = entities_length ls d;
      one_name = λ x y name i j. one_name es n.0 x y name i j;
    }
