-- What a desk in memory tells once its store or its blame changed.
use Rattle.sap_lemmas.proofs.Common.{rules, ◌≡◌, ℕ, ◌<◌, Bool, true, false, cond, List, [], length, refl, sym, ◌∙◌, ap, subst, arith, eqb, codes, IsTrue, ◌↔◌, if◌then◌else◌}
use Rattle.sap_desk.specs.Desk.{Told, blamed, blame_at}
use Rattle.sap_desk.specs.declared.stored.Channel.{Channel}
use Rattle.sap_desk.specs.declared.stored.Blame.{Blame}
use Rattle.sap_desk.specs.declared.stored.Blame.TheVariants.{Nothing, Output, FileOf, File}
use Rattle.sap_desk.specs.declared.store.Store.{Store}
use Rattle.sap_desk.specs.Memory.{blame_of, blame_after, names_of, BlameStands, KeepsNames}
use Rattle.sap_desk.specs.Store.{told_in}
use Rattle.sap_desk.specs.Told.{Shown}

-- a blame names whom it named, while the channels keep their names
pub same_blame : (old new : List Channel) (blame : Blame) → BlameStands blame (length old) → KeepsNames old new → blame_of new blame ≡ blame_of old blame
same_blame old new Nothing stands keeps = refl
same_blame old new Output stands keeps = refl
same_blame old new (FileOf k) stands keeps = keeps.names k (stands k refl)
same_blame old new (File name) stands keeps = refl

-- what a step of the store makes of what the desk tells
pub stepped : (old new : Store) (blame : Blame) (step : Told → Told) → BlameStands blame (length old.channels.items) → KeepsNames old.channels.items new.channels.items
    → ((name : List ℕ) → told_in new name ≡ step (told_in old name))
    → told_in new (blame_of new.channels.items blame) ≡ step (told_in old (blame_of old.channels.items blame))
stepped old new blame step stands keeps told =
    ap (told_in new) (same_blame old.channels.items new.channels.items blame stands keeps) ∙ told (blame_of old.channels.items blame)

blame_field : (b : Bool) (name : List ℕ) (t : Told) → record t { blame = cond b t.blame name } ≡ cond b t (blamed name t)
blame_field true name t = refl
blame_field false name t = refl

named_still : (old new : List Channel) (k : ℕ) (b : Bool) → KeepsNames old new → (IsTrue b → k < length old)
    → (if b then names_of new k else []) ≡ (if b then names_of old k else [])
named_still old new k true keeps within = keeps.names k (within (search rules))
named_still old new k false keeps within = refl

-- a call failed after a step of the store
pub failed_after : (old new : Store) (blame after : Blame) (step : Told → Told) (channel : ℕ) (is_named : Bool) (name : List ℕ)
    → BlameStands blame (length old.channels.items) → KeepsNames old.channels.items new.channels.items
    → ((n : List ℕ) → told_in new n ≡ step (told_in old n))
    → (IsTrue is_named → channel < length old.channels.items) → name ≡ (if is_named then names_of old.channels.items channel else [])
    → ((channels : List Channel) → blame_of channels after ≡ blame_after channel (if is_named then names_of channels channel else []) (blame_of channels blame))
    → told_in new (blame_of new.channels.items after) ≡ blame_at channel name (step (told_in old (blame_of old.channels.items blame)))
failed_after old new blame after step channel is_named name stands keeps told within named counted =
    let who : (if is_named then names_of new.channels.items channel else []) ≡ name = named_still old.channels.items new.channels.items channel is_named keeps within ∙ sym named in
    let whom : blame_of new.channels.items after ≡ blame_after channel name (blame_of new.channels.items blame)
    = counted new.channels.items ∙ ap (λ (n : List ℕ). blame_after channel n (blame_of new.channels.items blame)) who in
    ap (told_in new) whom
    ∙ blame_field (eqb channel 2) (cond (eqb channel 1) (codes "output") name) (told_in new (blame_of new.channels.items blame))
    ∙ ap (blame_at channel name) (stepped old new blame step stands keeps told)

pub stands_still : (old new : List Channel) (blame after : Blame) (channel : ℕ) (b : Bool) → BlameStands blame (length old) → KeepsNames old new → (IsTrue b → channel < length old)
    → ((count : ℕ) → BlameStands blame count → (IsTrue b → channel < count) → BlameStands after count) → BlameStands after (length new)
stands_still old new blame after channel b stands keeps within counted =
    counted (length new) (λ k is. omega (arith, stands k is, keeps.more)) (λ h. omega (arith, within h, keeps.more))

-- a step from a store that is as before
pub names_kept : (mid old : Store) → mid ≡ old → (new : Store) → KeepsNames mid.channels.items new.channels.items → KeepsNames old.channels.items new.channels.items
names_kept mid old same new keeps = subst (λ (s : Store). KeepsNames s.channels.items new.channels.items) same keeps

pub same_told : (s : Shown) (t : Told) (given : ℕ → ℕ) → t ≡ s.told → given ≡ s.given → record s { told = t; given = given } ≡ s
same_told s t given told gave = λ i. record s { told = told i; given = gave i }

-- what a test that failed refutes, and one that held shows
pub refuted : {P : Type 0} (b : Bool) → (IsTrue b ↔ P) → b ≡ false → ¬ P
refuted true test is = cc
refuted false test is = λ p. absurd (search (rules, test.1 p))

pub shown_true : {P : Type 0} (b : Bool) → (IsTrue b ↔ P) → b ≡ true → P
shown_true true test is = test.0 (search rules)
shown_true false test is = cc
