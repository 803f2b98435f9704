use Rattle.sap_lemmas.proofs.Common.{rules, ◌≡◌, ◌≤◌, ◌+◌, ◌++◌, ◌∷◌, [], length, ◌∙◌, ap, sym, subst, List, ℕ, string_bytes, vec_capacity}
use Rattle.sap_desk.specs.Desk.{writes}
use Rattle.sap_desk.specs.Room.{claims}
use Rattle.sap_desk.proofs.Told.{fresh_use, names_more, given_still, told_created, stands_created}
use Rattle.sap_desk.proofs.store.Store.open_writer.Goals as goal

pub invariant_of-self-2 : goal.invariant_of-self-2
invariant_of-self-2 c =
    let items : c.push.new.self.items ≡ c.args.self.now.channels.items ++ c.in_ok-channel.channel ∷ [] = search rules in
    let bears : string_bytes c.in_ok-empty.empty.name ≡ string_bytes c.args.name = search rules in
    let fits : claims c.args.self.now.room (string_bytes c.args.name) c.args.self.now.channels.items + c.args.self.now.room
    ≤ vec_capacity c.in_ok-empty.empty.bytes = search rules in
    let P : List ℕ → Type 0 = λ n. claims c.args.self.now.room n c.args.self.now.channels.items + c.args.self.now.room ≤ vec_capacity c.in_ok-empty.empty.bytes in
    record {
      stands = stands_created c.args.self.now.channels.items c.push.new.self.items c.in_ok-channel.channel items c.in_ok-channel.ensures.written c.in_ok-channel.ensures.given
          c.args.self.now.files.items c.put.new.files.items c.in_ok-empty.empty c.in_ok-put.ensures.ok (c.in_ok-channel.ensures.use_at ∙ ap writes (sym bears))
          c.args.self.now.room c.args.self.now.stands c.in_ok-empty.ensures.bytes (subst P (sym bears) fits) c.in_ok-channel.ensures.room;
    }

pub returns-clause-fresh : goal.returns-clause-fresh
returns-clause-fresh c =
    let number : c.len-k.result ≡ length c.args.self.now.channels.items = search rules in
    fresh_use c.args.self.now.channels.items c.len-k.result number

pub returns-clause-told : goal.returns-clause-told
returns-clause-told c =
    let number : c.len-k.result ≡ length c.args.self.now.channels.items = search rules in
    let items : c.push.new.self.items ≡ c.args.self.now.channels.items ++ c.in_ok-channel.channel ∷ [] = search rules in
    let bears : string_bytes c.in_ok-empty.empty.name ≡ string_bytes c.args.name = search rules in
    λ blame. told_created c.args.self.now.channels.items c.push.new.self.items c.in_ok-channel.channel items c.in_ok-channel.ensures.written c.in_ok-channel.ensures.given
    c.args.self.now.files.items c.put.new.files.items c.in_ok-empty.empty c.in_ok-put.ensures.ok (c.in_ok-channel.ensures.use_at ∙ ap writes (sym bears))
    c.args.self.now.room blame (string_bytes c.args.name) c.len-k.result bears c.in_ok-empty.ensures.bytes number

pub returns-clause-given : goal.returns-clause-given
returns-clause-given c =
    let number : c.len-k.result ≡ length c.args.self.now.channels.items = search rules in
    let items : c.push.new.self.items ≡ c.args.self.now.channels.items ++ c.in_ok-channel.channel ∷ [] = search rules in
    given_still c.args.self.now.channels.items c.push.new.self.items c.in_ok-channel.channel items c.in_ok-channel.ensures.written
    c.in_ok-channel.ensures.given c.len-k.result number

pub returns-clause-names : goal.returns-clause-names
returns-clause-names c =
    let items : c.push.new.self.items ≡ c.args.self.now.channels.items ++ c.in_ok-channel.channel ∷ [] = search rules in
    names_more c.args.self.now.channels.items c.push.new.self.items c.in_ok-channel.channel items c.in_ok-channel.ensures.written c.in_ok-channel.ensures.given
