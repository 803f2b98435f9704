-- The worked names, clashes, tags and runs.
use Rattle.sap_lemmas.proofs.Common.{◌≡◌, ◌∙◌, ap₂, refl, [], ◌∷◌, codes, bit_or}
use Rattle.sap_bits.specs.declared.Op2.TheVariants.{Add}
use Rattle.sap_bits.specs.Arithmetic.{value2}
use Rattle.sap_net.specs.Runs.{observed}
use Rattle.sap_taint.specs.Tags.{written_tag}
use Rattle.sap_taint.specs.TagNames.{name_of_tag}
use Rattle.sap_taint.specs.Examples.{stored, storing}
use Rattle.sap_taint.specs.Worked.{WorkedNames, WorkedClashes, WorkedTags, HandsOn, Stores, AreNetlists}
use Rattle.sap_taint.proofs.Tagging.{given_rules, made_rules, storing_rules}
use Rattle.sap_taint.proofs.TaggingMemory.{tagged_rules}

pub names : WorkedNames
unfolding name_of_tag
names = record { of_value = refl; of_longer_value = refl; of_wire = refl; of_tag = refl; of_bare_value = refl }

pub clashes : WorkedClashes
unfolding name_of_tag
clashes =
    record {
      room = record { distinct = (refl, (refl, (refl, (refl, (refl, (refl, (refl, (refl, tt)))))))); tag_names = refl };
      room_with_memory = record { distinct = (refl, (refl, (refl, (refl, (refl, (refl, (refl, (refl, (refl, (refl, tt)))))))))); tag_names = refl };
      with_name = record { earlier = []; later = codes "t_x" ∷ codes "v_y" ∷ codes "t_y" ∷ []; declared = refl; taken = refl; first = tt };
      again =
          record {
            earlier = [];
            later = codes "t_a" ∷ codes "v_x" ∷ codes "t_x" ∷ codes "v_y" ∷ codes "t_y" ∷ codes "n1" ∷ codes "t_n1" ∷ [];
            declared = refl;
            taken = refl;
            first = tt;
          };
      with_tag = record { earlier = codes "v_x" ∷ []; later = []; declared = refl; taken = refl; first = (refl, tt) };
      with_module =
          record { earlier = codes "v_a" ∷ codes "v_x" ∷ []; later = codes "n1" ∷ []; declared = refl; taken = refl; first = (refl, (refl, tt)) };
    }

pub tags : WorkedTags
tags =
    record {
      constant = refl;
      copy = refl;
      both_operands = refl;
      masked_out = refl;
      condition = refl;
      choices = refl;
      slice = refl;
      concatenation = refl;
      cell_at_constant = refl;
      cell_at_name = refl;
      not_written = refl;
      written = refl;
    }

pub hands_on : HandsOn
hands_on c d r =
    let a = r.0 in
    let b = r.1.0 in
    let x_first = a.runs.valuation.equations.0 ∙ ap₂ (value2 Add 8) a.runs.begins.0.0 a.runs.given.0 in
    let t_first = a.wires.0 ∙ ap₂ bit_or a.begins.0.0 a.given.0 in
    let x_begins = b.runs.begins.0.0 ∙ x_first in
    let t_begins = b.begins.0.0 ∙ t_first in (
      (x_first, t_first),
      (a.runs.begins.0.0, a.begins.0.0),
      (b.runs.valuation.equations.0 ∙ ap₂ (value2 Add 8) x_begins b.runs.given.0, b.wires.0 ∙ ap₂ bit_or t_begins b.given.0),
      (x_begins, t_begins),
    )

pub stores : Stores
stores c d r =
    let a = r.0 in
    let b = r.1.0 in
    let cell_first : (observed storing c.numbers).cell (codes "v_m") 0 ≡ 0 = rw (a.runs.given.0, a.runs.begins.1.0 0) refl in
    let tag_first : written_tag c.numbers c.tags stored ≡ 1 = rw (a.runs.given.0, a.begins.1.0, a.given.0) refl in
    let cell_begins = b.runs.begins.1.0 0 ∙ cell_first in
    let tag_begins = b.begins.1.0 ∙ tag_first in (
      (cell_first, tag_first),
      (a.runs.valuation.equations.0 ∙ a.runs.begins.1.0 0, a.wires.0 ∙ rw a.begins.1.0 refl),
      (rw (b.runs.given.0, b.runs.given.1.0) refl, rw (b.runs.given.0, tag_begins, b.given.0, b.given.1.0) refl),
      (b.runs.valuation.equations.0 ∙ cell_begins, b.wires.0 ∙ rw tag_begins refl),
    )

pub netlists : AreNetlists
netlists = record { hands = given_rules; hands_tags = made_rules; stores = storing_rules; stores_tags = tagged_rules }
