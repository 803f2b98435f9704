-- What the commands of User do to the numbers of a store.
use Rattle.std.proofs.Common.{ℕ, Bool, true, false, ◌+◌, ◌-◌, ◌/◌, ◌%◌, ◌≡◌, ◌<◌, ◌∙◌, refl, ap, arith, eqb, if◌then◌else◌}
use Rattle.sap_meaning.specs.Store.{Slot, own, start, next}
use Rattle.sap_machine.proofs.View.{Numbers, put}

-- the parts of ir
abbrev pub op : Numbers → ℕ
op v = v (own 4) / 256 % 16

abbrev pub byte : Numbers → ℕ
byte v = v (own 4) / 1 % 256

abbrev pub place : Numbers → ℕ
place v = v (own 4) / 1 % 16

-- each row, over the user's numbers in the memory m
abbrev pub ldi : Numbers → Numbers
ldi v = put (own 3) (byte v) v

abbrev pub ld : (m : ℕ) → Numbers → Numbers
ld m v = put (own 3) (v (start m (place v))) v

abbrev pub st : (m : ℕ) → Numbers → Numbers
st m v = put (next m (place v)) (v (own 3)) v

abbrev pub add : (m : ℕ) → Numbers → Numbers
add m v = put (own 3) ((v (own 3) + v (start m (place v))) % 256) v

abbrev pub sub : (m : ℕ) → Numbers → Numbers
sub m v = put (own 3) ((256 + v (own 3) - v (start m (place v))) % 256) v

abbrev pub jmp : Numbers → Numbers
jmp v = put (own 2) (place v) v

abbrev pub jz : Numbers → Numbers
jz v = if eqb (v (own 3)) 0 then jmp v else v

abbrev pub halt : Numbers → Numbers
halt v = put (own 2) ((16 + v (own 2) - 1) % 16) v

-- the row with the number k
abbrev pub row : (k : ℕ) → (Numbers → Numbers) → Numbers → Numbers
row k does v = if eqb (op v) k then does v else v

-- all rows, one after another
abbrev pub rows : (m : ℕ) → Numbers → Numbers
rows m v = row 8 halt (row 7 jz (row 6 jmp (row 5 (sub m) (row 4 (add m) (row 3 (st m) (row 2 (ld m) (row 1 ldi v)))))))

-- the next word from the memory p
abbrev pub fetch : (p : ℕ) → Numbers → Numbers
fetch p v = put (own 4) (v (start p (v (own 2)))) v

abbrev pub advance : Numbers → Numbers
advance v = put (own 2) ((v (own 2) + 1) % 16) v

-- a row keeps what its effect keeps
pub row_keeps : (k : ℕ) (does : Numbers → Numbers) (v : Numbers) (z : Slot) → does v z ≡ v z → row k does v z ≡ v z
row_keeps k does v z kept = by (eqb (op v) k)
  where
    by : (b : Bool) → (let w : Numbers = if b then does v else v in w z) ≡ v z
    by true = kept
    by false = refl

pub jz_keeps : (v : Numbers) → jz v (own 6) ≡ v (own 6)
jz_keeps v = by (eqb (v (own 3)) 0)
  where
    by : (b : Bool) → (let w : Numbers = if b then jmp v else v in w (own 6)) ≡ v (own 6)
    by true = refl
    by false = refl

-- cnt goes down by one
abbrev pub counted : Numbers → Numbers
counted v = put (own 5) ((8 + v (own 5) - 1) % 8) v

jz_keeps_ir : (v : Numbers) → jz v (own 4) ≡ v (own 4)
jz_keeps_ir v = by (eqb (v (own 3)) 0)
  where
    by : (b : Bool) → (let w : Numbers = if b then jmp v else v in w (own 4)) ≡ v (own 4)
    by true = refl
    by false = refl

-- where the operation is o, that is the row that does something
abbrev pub picked : (o k : ℕ) → (Numbers → Numbers) → Numbers → Numbers
picked o k does v = if eqb o k then does v else v

abbrev pub picked_rows : (m o : ℕ) → Numbers → Numbers
picked_rows m o v =
    picked o 8 halt (picked o 7 jz (picked o 6 jmp (picked o 5 (sub m) (picked o 4 (add m) (picked o 3 (st m) (picked o 2 (ld m) (picked o 1 ldi v)))))))

record Picked (o : ℕ) (v w : Numbers) : Type 0 where
  same : v ≡ w
  has : op w ≡ o

one_more : (o k : ℕ) (does : Numbers → Numbers) → ((v : Numbers) → op (does v) ≡ op v) → (v w : Numbers) → Picked o v w → Picked o (row k does v) (picked o k does w)
one_more o k does keeps v w p = record { same = ap (row k does) p.same ∙ ap (λ n. let z : Numbers = if eqb n k then does w else w in z) p.has; has = by (eqb o k) }
  where
    by : (b : Bool) → (let z : Numbers = if b then does w else w in op z) ≡ o
    by true = keeps w ∙ p.has
    by false = p.has

pub rows_picked : (m o : ℕ) (v : Numbers) → op v ≡ o → rows m v ≡ picked_rows m o v
rows_picked m o v is =
    let first = one_more o 1 ldi (λ v. refl) v v (record { same = refl; has = is }) in
    let third = one_more o 3 (st m) (λ v. refl) _ _ (one_more o 2 (ld m) (λ v. refl) _ _ first) in
    let fifth = one_more o 5 (sub m) (λ v. refl) _ _ (one_more o 4 (add m) (λ v. refl) _ _ third) in
    let seventh = one_more o 7 jz (λ v. ap (λ i. i / 256 % 16) (jz_keeps_ir v)) _ _ (one_more o 6 jmp (λ v. refl) _ _ fifth) in
    (one_more o 8 halt (λ v. refl) _ _ seventh).same

-- arithmetic of a word's parts and of the program counter
pub one_less : (p : ℕ) → p < 16 → (16 + (p + 1) % 16 - 1) % 16 ≡ p
one_less p below = omega arith

pub whole_op : (word : ℕ) → word < 4096 → word / 256 % 16 ≡ word / 256
whole_op word small = omega arith

pub whole_byte : (word : ℕ) → word / 1 % 256 ≡ word % 256
whole_byte word = omega arith

pub whole_place : (word : ℕ) → word / 1 % 16 ≡ word % 256 % 16
whole_place word = omega arith
