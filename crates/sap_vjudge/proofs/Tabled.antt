-- What a table says, and what it says after a name is put into it.
use Rattle.sap_lemmas.proofs.Common.{◌≡◌, ◌∙◌, ℕ, List, [], ◌∷◌, Bool, true, false, cond, refl, ap, ap₂, sym, true≢false, nat_list_eq_equiv, bytes_eq-Decides, lookup, Option, Some, None, if◌then◌else◌, ◌||◌, ◌&&◌, option_or, bytes_eq, and_false, and_true, or_false}
use Rattle.std.proofs.Common.{Vec, Global}
use Rattle.sap_vtext.specs.Names.{Shape, Setting, same_setting, Known}
use Rattle.sap_vjudge.specs.declared.entry.Entry.{Entry}
use Rattle.sap_vjudge.specs.declared.table.Table.{Table}
use Rattle.sap_vjudge.specs.Entries.{entry_shape, entry_set}
use Rattle.sap_vjudge.specs.Known.{nothing_known, with_shape, with_setting, with_integer}
use Rattle.sap_vjudge.specs.Tables.{entry_of, known_of}
use Rattle.indexmap.specs.IndexMap.{insert_entry}
use mathlib.Core.Path.{fun_ext}

pub known_of-shape : (t : Table) (n : List ℕ) → (known_of t).shape n ≡ entry_shape (entry_of t n)
unfolding known_of
known_of-shape t n = refl

pub known_of-set : (t : Table) (s : Setting) (n : List ℕ) → (known_of t).set s n ≡ entry_set (entry_of t n) s
unfolding known_of
known_of-set t s n = refl

pub known_of-integer : (t : Table) → (known_of t).integer ≡ t.integer
unfolding known_of
known_of-integer t = refl

pub ruleset table = (known_of-shape, known_of-set, known_of-integer)

-- equal in each part
pub alike : (m n : Known) → ((x : List ℕ) → m.shape x ≡ n.shape x) → ((s : Setting) (x : List ℕ) → m.set s x ≡ n.set s x) → m.integer ≡ n.integer → m ≡ n
alike m n shapes sets integers =
    ap₂ (λ (f : List ℕ → Option Shape) (g : Setting → List ℕ → Bool). let k : Known = record { shape = f; set = g; integer = m.integer } in k)
    (fun_ext (λ (x : List ℕ). shapes x)) (fun_ext (λ (s : Setting). fun_ext (λ (x : List ℕ). sets s x)))
    ∙ ap (λ (b : Bool). let k : Known = record { shape = n.shape; set = n.set; integer = b } in k) integers

abbrev of_entries : List (Vec ℕ Global × Entry) → Bool → Known
of_entries es b =
    record {
      shape = λ n. entry_shape (lookup (λ (k : Vec ℕ Global). bytes_eq n k.items) es);
      set = λ s n. entry_set (lookup (λ (k : Vec ℕ Global). bytes_eq n k.items) es) s;
      integer = b;
    }

pub known_of-empty : (t : Table) → t.entries.entries ≡ [] → t.integer ≡ false → known_of t ≡ nothing_known
unfolding known_of
known_of-empty t h e = ap₂ of_entries h e

pub known_of-with_integer : (old new : Table) → new.entries.entries ≡ old.entries.entries → new.integer ≡ true → known_of new ≡ with_integer (known_of old)
unfolding known_of
known_of-with_integer old new h e = ap₂ of_entries h e

pub option_or-none : (o : Option Shape) → option_or o None ≡ o
option_or-none None = refl
option_or-none (Some s) = refl

module _ (old new : Table) (x : List ℕ) (e : Entry) (entries : (n : List ℕ)
    → entry_of new n ≡ (if bytes_eq x n then Some e else entry_of old n)) (integer : new.integer ≡ old.integer) where
  pub known_declared : (s : Shape) → entry_shape (Some e) ≡ option_or (entry_shape (entry_of old x)) (Some s)
      → ((t : Setting) → entry_set (Some e) t ≡ entry_set (entry_of old x) t) → known_of new ≡ with_shape (known_of old) x s
  unfolding known_of
  known_declared s shape set = alike (known_of new) (with_shape (known_of old) x s) (λ n. ap entry_shape (entries n)
      ∙ shapes n (bytes_eq x n) refl) (λ t n. ap (λ o. entry_set o t) (entries n) ∙ sets t n (bytes_eq x n) refl) integer
    where
      shapes : (n : List ℕ) (b : Bool) → bytes_eq x n ≡ b
          → entry_shape (if b then Some e else entry_of old n) ≡ option_or (entry_shape (entry_of old n)) (if b then Some s else None)
      shapes n true h = shape ∙ ap (λ (l : List ℕ). option_or (entry_shape (entry_of old l)) (Some s)) ((bytes_eq-Decides x n).0 h)
      shapes n false h = sym (option_or-none _)

      sets : (t : Setting) (n : List ℕ) (b : Bool) → bytes_eq x n ≡ b → entry_set (if b then Some e else entry_of old n) t ≡ entry_set (entry_of old n) t
      sets t n true h = set t ∙ ap (λ (l : List ℕ). entry_set (entry_of old l) t) ((bytes_eq-Decides x n).0 h)
      sets t n false h = refl

  pub known_set : (s : Setting) → entry_shape (Some e) ≡ entry_shape (entry_of old x)
      → ((t : Setting) → entry_set (Some e) t ≡ (entry_set (entry_of old x) t || same_setting t s)) → known_of new ≡ with_setting (known_of old) s x
  unfolding known_of
  known_set s shape set = alike (known_of new) (with_setting (known_of old) s x) (λ n. ap entry_shape (entries n)
      ∙ shapes n (bytes_eq x n) refl) (λ t n. ap (λ o. entry_set o t) (entries n) ∙ sets t n (bytes_eq x n) refl) integer
    where
      shapes : (n : List ℕ) (b : Bool) → bytes_eq x n ≡ b → entry_shape (if b then Some e else entry_of old n) ≡ entry_shape (entry_of old n)
      shapes n true h = shape ∙ ap (λ (l : List ℕ). entry_shape (entry_of old l)) ((bytes_eq-Decides x n).0 h)
      shapes n false h = refl

      sets : (t : Setting) (n : List ℕ) (b : Bool) → bytes_eq x n ≡ b
          → entry_set (if b then Some e else entry_of old n) t ≡ (entry_set (entry_of old n) t || (same_setting t s && b))
      sets t n true h =
          set t ∙ ap (λ (l : List ℕ). entry_set (entry_of old l) t || same_setting t s) ((bytes_eq-Decides x n).0 h)
          ∙ ap (λ (b : Bool). entry_set (entry_of old n) t || b) (sym (and_true (same_setting t s)))
      sets t n false h = sym (ap (λ (b : Bool). entry_set (entry_of old n) t || b) (and_false (same_setting t s)) ∙ or_false _)

over : {X : Type 0} (b : Bool) (e d : X) (o : Option X) → cond b (Some e) o ≡ (if b then Some e else cond b (Some d) o)
over true e d o = refl
over false e d o = refl

beside : {X : Type 0} (b c : Bool) (e d : X) (o : Option X) → (b ≡ true → c ≡ true → ⊥) → cond c (Some d) (if b then Some e else o) ≡ (if b then Some e else cond c (Some d) o)
beside true true e d o h = absurd (h refl refl)
beside true false e d o h = refl
beside false c e d o h = refl

-- what is found under the bytes n once a key of the bytes x is put in
module _ {X : Type 0} (eq : Vec ℕ Global → Vec ℕ Global → Bool) (same : (a b : Vec ℕ Global) → eq a b ≡ bytes_eq a.items b.items) (key : Vec ℕ Global) (e : X) (n : List ℕ) where
  abbrev under : List (Vec ℕ Global × X) → Option X
  under fs = lookup (λ (k : Vec ℕ Global). bytes_eq n k.items) fs

  put_under : (x : List ℕ) → key.items ≡ x → (es : List (Vec ℕ Global × X))
      → lookup (λ (k : Vec ℕ Global). bytes_eq n k.items) (insert_entry eq es key e)
      ≡ (if bytes_eq x n then Some e else lookup (λ (k : Vec ℕ Global). bytes_eq n k.items) es)
  put_under x is [] = ap (λ (b : Bool). cond b (Some e) None) (ap (λ (l : List ℕ). bytes_eq n l) is ∙ nat_list_eq_equiv.symm n x)
  put_under x is (f ∷ es) = by_test (eq key f.0) refl (put_under x is es)
    where
      by_test : (b : Bool) → eq key f.0 ≡ b → under (insert_entry eq es key e) ≡ (if bytes_eq x n then Some e else under es)
          → under (if b then (f.0, e) ∷ es else f ∷ insert_entry eq es key e) ≡ (if bytes_eq x n then Some e else under (f ∷ es))
      by_test true h r =
          let here : x ≡ f.0.items = sym is ∙ (bytes_eq-Decides key.items f.0.items).0 (sym (same key f.0) ∙ h) in
          let test : bytes_eq n f.0.items ≡ bytes_eq x n = ap (λ (l : List ℕ). bytes_eq n l) (sym here) ∙ nat_list_eq_equiv.symm n x in
          ap (λ (b : Bool). cond b (Some e) (under es)) test ∙ over (bytes_eq x n) e f.1 (under es)
          ∙ ap (λ (b : Bool). if bytes_eq x n then Some e else cond b (Some f.1) (under es)) (sym test)
      by_test false h r =
          ap (λ (o : Option X). cond (bytes_eq n f.0.items) (Some f.1) o) r
          ∙ beside (bytes_eq x n) (bytes_eq n f.0.items) e f.1 (under es) (λ p q. true≢false (sym (
          same key f.0 ∙ ap (λ (l : List ℕ). bytes_eq l f.0.items) (is ∙ (bytes_eq-Decides x n).0 p) ∙ q) ∙ h))

  pub put_entry : (x : List ℕ) (old new : List (Vec ℕ Global × X)) → key.items ≡ x → new ≡ insert_entry eq old key e
      → lookup (λ (k : Vec ℕ Global). bytes_eq n k.items) new ≡ (if bytes_eq x n then Some e else lookup (λ (k : Vec ℕ Global). bytes_eq n k.items) old)
  put_entry x old new is h = ap (λ (es : List (Vec ℕ Global × X)). under es) h ∙ put_under x is old
