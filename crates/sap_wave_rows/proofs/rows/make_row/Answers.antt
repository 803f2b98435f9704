use Rattle.sap_lemmas.proofs.Common.{rules, ◌≡◌, List, length, subst, sym, ap, ◌∙◌, get_or, length-map, with_items_is, places}
use Rattle.sap_maps.specs.Maps.{Name}
use Rattle.sap_stim.specs.Rows.{AreLevelTexts, HoldsRows}
use Rattle.sap_wave_rows.specs.Places.{numbers_at}
use Rattle.sap_wave_rows.proofs.Going.{more_room, row_at}
use Rattle.sap_wave_rows.proofs.rows.make_row.Goals as goal
use Rattle.sap_wave_rows.proofs.rows.make_row.Goals.{After-deref-6}

-- the labels are those of the names
named : (c : After-deref-6) → c.deref-3.result.now ≡ c.args.shown.now.names.items
named c = c.deref-3.ensures.value ∙ c.requires.held.labels

values_taken : (c : After-deref-6) → c.deref-4.result.now ≡ numbers_at c.args.numbers.now c.args.shown.now.values.items
values_taken c =
    c.deref-4.ensures.value ∙ with_items_is c.args.held.now.values c.take_numbers.new.seen (search (rules, places)) ∙ c.take_numbers.ensures
    ∙ ap (numbers_at c.args.numbers.now) c.deref.ensures.value

tags_taken : (c : After-deref-6) → c.deref-5.result.now ≡ numbers_at c.args.numbers.now c.args.shown.now.tags.items
tags_taken c =
    c.deref-5.ensures.value ∙ with_items_is c.args.held.now.tags c.take_numbers-2.new.seen (search (rules, places)) ∙ c.take_numbers-2.ensures
    ∙ ap (numbers_at c.args.numbers.now) c.deref-2.ensures.value

values_count : (c : After-deref-6) → length c.deref-4.result.now ≡ length c.args.shown.now.names.items
values_count c = ap length (values_taken c) ∙ length-map c.args.shown.now.values.items (λ k. get_or c.args.numbers.now k 0) ∙ c.requires.values

tags_count : (c : After-deref-6) → length c.deref-5.result.now ≡ length c.args.shown.now.names.items
tags_count c = ap length (tags_taken c) ∙ length-map c.args.shown.now.tags.items (λ k. get_or c.args.numbers.now k 0) ∙ c.requires.tags

pub write_row-requires-clause-values : goal.write_row-requires-clause-values
write_row-requires-clause-values c =
    let d = (goal.at.write_row-requires-clause-values c).After-deref-6 in
    values_count d ∙ sym (ap length (named d))

pub write_row-requires-clause-tags : goal.write_row-requires-clause-tags
write_row-requires-clause-tags c =
    let d = (goal.at.write_row-requires-clause-tags c).After-deref-6 in
    tags_count d ∙ sym (ap length (named d))

pub write_row-requires-clause-levels : goal.write_row-requires-clause-levels
write_row-requires-clause-levels c = subst (AreLevelTexts c.args.lattice.now) (sym c.deref-6.ensures.value) c.requires.held.levels

pub write_row-requires-clause-room : goal.write_row-requires-clause-room
write_row-requires-clause-room c =
    let d = (goal.at.write_row-requires-clause-room c).After-deref-6 in
    subst (λ (names : List Name). HoldsRows c.args.lattice.now names c.args.held.now.row.room) (sym (named d)) c.requires.held.room

pub returns-clause-row : goal.returns-clause-row
returns-clause-row c = λ vs values tags.
    let d = (goal.at.returns-clause-row c).After-deref-6 in
    c.write_row.ensures.text
    ∙ row_at c.args.lattice.now c.args.cycle vs c.args.numbers.now c.args.shown.now.names.items c.deref-3.result.now c.args.shown.now.values.items c.args.shown.now.tags.items
    c.deref-4.result.now c.deref-5.result.now (named d) (values_taken d) (tags_taken d) values tags

pub returns-clause-held : goal.returns-clause-held
returns-clause-held c =
    let d = (goal.at.returns-clause-held c).After-deref-6 in
    record {
      labels = c.requires.held.labels;
      levels = c.requires.held.levels;
      values = sym (ap length c.deref-4.ensures.value) ∙ values_count d;
      tags = sym (ap length c.deref-5.ensures.value) ∙ tags_count d;
      room = more_room c.args.lattice.now c.args.shown.now.names.items c.args.held.now.row.room c.write_row.new.row.room c.requires.held.room c.write_row.ensures.room;
    }
