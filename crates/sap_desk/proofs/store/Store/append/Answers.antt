use Rattle.sap_lemmas.proofs.Common.{◌≡◌, ◌∙◌, ◌-◌, ap, sym, length, take, min, ℕ}
use Rattle.sap_desk.specs.Desk.{added}
use Rattle.sap_desk.specs.Memory.{uses_of, written_of}
use Rattle.sap_desk.specs.MemoryCalls.{fitting_use}
use Rattle.sap_desk.specs.Store.{told_in}
use Rattle.sap_desk.proofs.Added.{fitting_whole}
use Rattle.sap_desk.proofs.store.Store.append.Goals as goal

pub returns-clause-told : goal.returns-clause-told
returns-clause-told c = λ blame.
    let fits : c.in-Some.count ≡ fitting_use (uses_of c.args.self.now.channels.items c.args.k)
    (min (length c.args.piece.now) (c.args.self.now.room - length (written_of c.args.self.now.channels.items c.args.k)))
    = c.in-Some.ensures.fit ∙ sym (fitting_whole (uses_of c.args.self.now.channels.items c.args.k) _ c.in-Some.ensures.writing) in
    c.add.ensures.told blame ∙ ap (λ (n : ℕ). added c.args.k (take n c.args.piece.now) (told_in c.args.self.now blame)) fits
