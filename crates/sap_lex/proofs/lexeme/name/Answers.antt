use Rattle.sap_lemmas.proofs.Common.{◌≡◌, ℕ, take, true, subst, sym, list_all, run_passes}
use Rattle.sap_text.specs.Names.{is_inner}
use Rattle.sap_lex.proofs.lexeme.name.Goals as goal

pub spelled-requires : goal.spelled-requires
spelled-requires c =
    subst (λ (n : ℕ). list_all is_inner (take n c.args.bytes.now) ≡ true) (sym c.run_len-n.ensures.value) (run_passes is_inner c.args.bytes.now)
