-- The numbers of names, as entities are added, and what a number finds.
use Rattle.sap_lemmas.proofs.Common.{◌≡◌, ◌∙◌, ℕ, suc, ◌+◌, ◌<◌, ◌≤◌, List, [], ◌∷◌, ◌++◌, length, get_or, take, Bool, true, false, cond, refl, ap, ap₂, sym, arith, true≢false, Bor, ltb-true, ltb-false, slice_get_past, slice_get_read, common_steps, take_more, nat_list_eq_equiv, bytes_eq-Decides, Option, Some, None, if◌then◌else◌, option_map, option_and_then, is_some, slice_get, option_copied, ltb, IfSome, option_or, bytes_eq}
use Rattle.std.proofs.Common.{Vec, Global}
use Rattle.sap_lemmas.proofs.Options.{none_of_test}
use Rattle.sap_names.specs.Entities.{Entity, find, number_of}
use Rattle.sap_names.specs.Index.{under, Numbers}

pushed : (b c : Bool) (n : ℕ) (m r : Option ℕ) → r ≡ option_or m (if c then Some n else None)
    → (if b then Some 0 else option_map (λ k. k + 1) r) ≡ option_or (if b then Some 0 else option_map (λ k. k + 1) m) (if c then Some (n + 1) else None)
pushed true c n m r h = refl
pushed false true n None r h = ap (λ (o : Option ℕ). option_map (λ k. k + 1) o) h
pushed false false n None r h = ap (λ (o : Option ℕ). option_map (λ k. k + 1) o) h
pushed false c n (Some m) r h = ap (λ (o : Option ℕ). option_map (λ k. k + 1) o) h

number_of-push : (es : List Entity) (e : Entity) (name : List ℕ) (n : ℕ) → n ≡ length es
    → number_of (es ++ e ∷ []) name ≡ option_or (number_of es name) (if bytes_eq e.name.name name then Some n else None)
number_of-push [] e name n h = ap (λ (k : ℕ). if bytes_eq e.name.name name then Some k else None) (sym h)
number_of-push (x ∷ es) e name n h =
    pushed (bytes_eq x.name.name name) (bytes_eq e.name.name name) (length es) _ _ (number_of-push es e name (length es) refl)
    ∙ ap (λ (k : ℕ). option_or (number_of (x ∷ es) name) (if bytes_eq e.name.name name then Some k else None)) next
  where
    next : length es + 1 ≡ n
    next = omega arith

looked : (b : Bool) (x : ℕ) (r s t : Option ℕ) → r ≡ option_or s t → cond b (Some x) r ≡ option_or (cond b (Some x) s) t
looked true x r s t h = refl
looked false x r s t h = h

under-push : (entries : List (Vec ℕ Global × ℕ)) (k : Vec ℕ Global) (v : ℕ) (name : List ℕ)
    → under (entries ++ (k, v) ∷ []) name ≡ option_or (under entries name) (if bytes_eq name k.items then Some v else None)
under-push [] k v name = refl
under-push (e ∷ entries) k v name = looked (bytes_eq name e.0.items) e.1 _ _ _ (under-push entries k v name)

-- a name that is new
pub numbers_push : (es : List Entity) (e : Entity) (entries : List (Vec ℕ Global × ℕ)) (k : Vec ℕ Global) (n : ℕ)
    → n ≡ length es → k.items ≡ e.name.name → Numbers es entries → Numbers (es ++ e ∷ []) (entries ++ (k, n) ∷ [])
numbers_push es e entries k n h same all name =
    under-push entries k n name
    ∙ ap₂ (λ (o : Option ℕ) (b : Bool). option_or o (if b then Some n else None)) (all name)
    (ap (λ (l : List ℕ). bytes_eq name l) same ∙ nat_list_eq_equiv.symm name e.name.name)
    ∙ sym (number_of-push es e name n h)

kept : (o : Option ℕ) (b : Bool) (n : ℕ) → (b ≡ true → is_some o ≡ true) → option_or o (if b then Some n else None) ≡ o
kept None true n h = absurd (true≢false (sym (h refl)))
kept _ _ n h = refl

-- one that is there
pub numbers_skip : (es : List Entity) (e : Entity) (entries : List (Vec ℕ Global × ℕ)) → is_some (under entries e.name.name) ≡ true
    → Numbers es entries → Numbers (es ++ e ∷ []) entries
numbers_skip es e entries there all name =
    all name ∙ sym (number_of-push es e name (length es) refl ∙ kept (number_of es name) (bytes_eq e.name.name name) (length es) is_there)
  where
    is_there : bytes_eq e.name.name name ≡ true → is_some (number_of es name) ≡ true
    is_there h =
        ap (λ (l : List ℕ). is_some (number_of es l)) (sym ((bytes_eq-Decides e.name.name name).0 h)) ∙ ap is_some (sym (all e.name.name)) ∙ there

length_taken : (es : List Entity) (n : ℕ) → n ≤ length es → n ≡ length (take n es)
length_taken es n h = grind (arith, common_steps)

one_taken : (es : List Entity) (n : ℕ) (e : Entity) → n < length es → e ≡ get_or es n e → take n es ++ e ∷ [] ≡ take (n + 1) es
one_taken es n e h is = ap (λ (x : Entity). take n es ++ x ∷ []) is ∙ sym (take_more es n e h)

-- the next entity, with a name that is new
pub numbers_added : (es : List Entity) (n : ℕ) (e : Entity) (entries new : List (Vec ℕ Global × ℕ)) (key : Vec ℕ Global) → n < length es → e ≡ get_or es n e
    → key.items ≡ e.name.name → new ≡ entries ++ (key, n) ∷ [] → Numbers (take n es) entries → Numbers (take (n + 1) es) new
numbers_added es n e entries new key h is named more all name =
    ap (λ (l : List (Vec ℕ Global × ℕ)). under l name) more
    ∙ numbers_push (take n es) e entries key n (length_taken es n (omega arith)) named all name
    ∙ ap (λ (l : List Entity). number_of l name) (one_taken es n e h is)

-- or with one that is there
pub numbers_passed : (es : List Entity) (n : ℕ) (e : Entity) (entries new : List (Vec ℕ Global × ℕ)) → n < length es → e ≡ get_or es n e
    → is_some (under entries e.name.name) ≡ true → new ≡ entries → Numbers (take n es) entries → Numbers (take (n + 1) es) new
numbers_passed es n e entries new h is there same all name =
    ap (λ (l : List (Vec ℕ Global × ℕ)). under l name) same
    ∙ numbers_skip (take n es) e entries there all name
    ∙ ap (λ (l : List Entity). number_of l name) (one_taken es n e h is)

-- a name that is not there
pub under_none : (entries : List (Vec ℕ Global × ℕ)) (name key : List ℕ) → key ≡ name → is_some (under entries name) ≡ false → under entries key ≡ None
under_none entries name key same h = ap (λ (l : List ℕ). under entries l) same ∙ none_of_test (under entries name) h

found : (b : Bool) (e : Entity) (es : List Entity) (f : Option Entity) (o : Option ℕ) → f ≡ option_and_then (λ (n : ℕ). slice_get es n) o
    → (if b then Some e else f) ≡ option_and_then (λ (n : ℕ). slice_get (e ∷ es) n) (if b then Some 0 else option_map (λ k. k + 1) o)
found true e es f o h = refl
found false e es f None h = h
found false e es f (Some k) h = let next : suc k ≡ k + 1 = omega arith in h ∙ ap (λ (n : ℕ). slice_get (e ∷ es) n) next

find-number_of : (es : List Entity) (name : List ℕ) → find es name ≡ option_and_then (λ (n : ℕ). slice_get es n) (number_of es name)
find-number_of [] name = refl
find-number_of (e ∷ es) name = found (bytes_eq e.name.name name) e es _ _ (find-number_of es name)

pub find_some : (es : List Entity) (name : List ℕ) (n : ℕ) → Some n ≡ number_of es name → slice_get es n ≡ find es name
find_some es name n h = ap (λ (o : Option ℕ). option_and_then (λ (k : ℕ). slice_get es k) o) h ∙ sym (find-number_of es name)

pub find_none : (es : List Entity) (name : List ℕ) → None ≡ number_of es name → None ≡ find es name
find_none es name h = ap (λ (o : Option ℕ). option_and_then (λ (k : ℕ). slice_get es k) o) h ∙ sym (find-number_of es name)

bounded : (b : Bool) (o : Option ℕ) (n len : ℕ) → ((k : ℕ) → Some k ≡ o → k < len) → Some n ≡ (if b then Some 0 else option_map (λ k. k + 1) o) → n < len + 1
bounded true o n len h e = let zero_is : n ≡ 0 = cc in omega arith
bounded false None n len h e = absurd (cc)
bounded false (Some k) n len h e = let next : n ≡ k + 1 = cc in let below = h k refl in omega arith

pub number_of-within : (es : List Entity) (name : List ℕ) (n : ℕ) → Some n ≡ number_of es name → n < length es
number_of-within [] name n h = absurd (cc)
number_of-within (e ∷ es) name n h =
    let r = bounded (bytes_eq e.name.name name) (number_of es name) n (length es) (λ (k : ℕ) e. number_of-within es name k e) h in omega (arith, r)

-- what a list gives at a number
pub copied : (o : Option (Bor Entity)) (es : List Entity) (n : ℕ) → is_some o ≡ ltb n (length es) → IfSome o (λ x. x.now ≡ get_or es n x.now) → option_copied o ≡ slice_get es n
copied None es n h k = sym (slice_get_past es n (ltb-false n (length es) (sym h)))
copied (Some x) es n h k = sym (slice_get_read es (length es) n x.now refl (ltb-true n (length es) (sym h)) k)
