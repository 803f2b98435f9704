use Rattle.sap_lemmas.proofs.Common.{◌≡◌, ◌∙◌, List, false, is_some, ap, sym, subst, on_ok_weaker}
use Rattle.sap_maps.specs.Prelude.{Name, find}
use Rattle.sap_net.specs.NameMaps.{Puts}
use Rattle.sap_share.proofs.Lookups.{entry_missing, entry_there, puts_behind, puts_replaced}
use Rattle.sap_share.proofs.table.Table.put.Goals as goal

pub replace_at-requires : goal.replace_at-requires
replace_at-requires g c = (c.args.name.now, sym c.place.ensures ∙ c.in-Some.is)

pub returns-in-Some : goal.returns-in-Some
returns-in-Some g c =
    let es = c.args.self.now in
    let n = c.args.name.now in
    let at = sym c.place.ensures ∙ c.in-Some.is in
    λ m. ap (λ fs. find fs m) (c.replace_at.ensures n at) ∙ puts_replaced es n c.args.value (entry_there es n c.in-Some.place at) m

pub add-requires : goal.add-requires
add-requires g c = sym c.place.ensures ∙ c.in-None.is

pub returns-in-None : goal.returns-in-None
returns-in-None g c =
    let es = c.args.self.now in
    let n = c.args.name.now in
    let x = c.args.value in
    let missing : is_some (find es n) ≡ false = ap is_some (entry_missing es n (sym c.place.ensures ∙ c.in-None.is)) in
    on_ok_weaker c.add.result
    (λ e. subst (λ (fs : List (Name × _)). Puts (find es) n x (find fs)) (sym e) (puts_behind es n x missing))
    c.add.ensures
