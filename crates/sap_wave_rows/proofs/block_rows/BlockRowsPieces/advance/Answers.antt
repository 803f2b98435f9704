use Rattle.sap_lemmas.proofs.Common.{rules, ◌+◌, ◌<◌, ◌++◌, ℕ, List, length, refl, sym, ap, ◌∙◌, get_or_from_slice_get}
use Rattle.sap_wave_rows.specs.Rows.{rows_of_blocks}
use Rattle.sap_wave_rows.specs.ToCome.{RowsToCome}
use Rattle.sap_wave_rows.proofs.Going.{first_row}
use Rattle.sap_wave_rows.proofs.block_rows.BlockRowsPieces.advance.Goals as goal

pub returns-clause-more : goal.returns-clause-more
returns-clause-more c = λ is text comes.
    let r = c.self.inside in
    let numbers = c.block.result.now in
    let rest = rows_of_blocks r.lattice.now r.wave.now (r.next + 1) in
    let within : c.self.inside.next < length c.self.inside.wave.now.blocks = search rules in (
      rest,
      sym comes ∙ ap (λ (rows : RowsToCome). rows.text) (sym c.self.view_is)
          ∙ first_row r.lattice.now r.wave.now r.shown.names.items r.next numbers c.self.invariant.names within
          (sym (get_or_from_slice_get r.wave.now.blocks r.next numbers numbers c.block.ensures))
          ∙ ap (λ (row : List ℕ). row ++ rest) (sym (c.make_row.ensures.row r.wave.now.variables c.self.invariant.values c.self.invariant.tags)),
      refl,
    )
