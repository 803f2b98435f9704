use Rattle.sap_lemmas.proofs.Common.{rules, ◌≡◌, ◌++◌, ◌∷◌, [], sym, subst, List, string_bytes, position, Some, None}
use Rattle.sap_desk.specs.declared.stored.StoredFile.{StoredFile}
use Rattle.sap_desk.specs.Memory.{named}
use Rattle.sap_desk.specs.Room.{Puts}
use Rattle.sap_desk.proofs.Files.{found, not_found, puts-set, puts-push}
use Rattle.sap_desk.proofs.store.put.Goals as goal

pub returns-in-Some-clause-ok : goal.returns-in-Some-clause-ok
returns-in-Some-clause-ok c =
    let is : position (named (string_bytes c.args.file.name)) c.args.files.now.items ≡ Some c.in-Some.place = search rules in
    let at = found c.args.files.now.items (string_bytes c.args.file.name) c.in-Some.place c.args.file is in
    puts-set c.args.files.now.items c.in-Some.place c.args.file c.args.file at.first at.within at.bears

pub returns-in_ok-push-in-None-clause-ok : goal.returns-in_ok-push-in-None-clause-ok
returns-in_ok-push-in-None-clause-ok c =
    let is : position (named (string_bytes c.args.file.name)) c.args.files.now.items ≡ None = search rules in
    let items : c.push.new.self.items ≡ c.args.files.now.items ++ c.args.file ∷ [] = search rules in
    let P : List StoredFile → Type 0 = λ files. Puts c.args.file c.args.files.now.items files in
    subst P (sym items) (puts-push c.args.files.now.items c.args.file (not_found c.args.files.now.items (string_bytes c.args.file.name) is))
