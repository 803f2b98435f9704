-- A file that was opened, read and finished, or not to its end.
use Rattle.sap_lemmas.proofs.Common.{◌≡◌, ℕ, ◌+◌, ◌^◌, ◌<◌, ◌≤◌, List, [], ◌++◌, length, drop, refl, sym, ◌∙◌, ap, ap₂, subst, arith, inl, inr, length-append, Option, Some, None, option_map, IfSome, IsSome, Result, Ok, Err, IfOk}
use Rattle.sap_desk.specs.Desk.{Told, Use, closed, reads, at_number, blame_at, blamed, bytes_of, moved, name_if_open, name_if_reading, opened, read_on, read_on_use, rest_of, rest_of_use}
use Rattle.sap_desk.specs.Whole.{Between, FailedReading, IsFront, IsFrontOf, IsReadTo, LeftOpen, OneMore, OpenWithin, ReadTo, StandsWithin, StoodWithin}
use Rattle.sap_desk.specs.Whole.IsFront.{all, more}
use Rattle.sap_desk.proofs.DeskLemmas.{name_read_on}
use Rattle.sap_desk.proofs.Steps.{at_number-keeps, at_number-same, at_number-twice, file_there, moved-behind, option_map-id, option_map-same, option_map-twice, read_on-none, told_more}
use Rattle.sap_desk.proofs.WholeFiles.{blame_is, one_more, same_channels}

-- what is open while it is read

module _ (channel asked count : ℕ) (name : List ℕ) (t : Told) where
  opened_use : (opened channel name t).uses channel ≡ reads name 0 0
  opened_use = at_number-same channel (reads name 0 0) t.uses

  -- read on to there
  abbrev Onward : Told
  Onward = read_on channel (Some asked) count (opened channel name t)

  read_uses : Onward.uses ≡ at_number channel (reads name (0 + asked) (0 + count)) t.uses
  read_uses =
      ap (λ (u : Use). at_number channel (read_on_use (Some asked) count u) (at_number channel (reads name 0 0) t.uses)) opened_use
      ∙ at_number-twice channel (reads name 0 0) (reads name (0 + asked) (0 + count)) t.uses

  still_open : 2 < channel → t.uses channel ≡ closed → OneMore name t.uses Onward.uses
  still_open above fresh =
      subst (λ (u : ℕ → Use). OneMore name t.uses u) (sym read_uses) (one_more channel name (reads name (0 + asked) (0 + count)) t above fresh refl)

  -- a call on it failed
  left_open : (by : List ℕ) → 2 < channel → t.uses channel ≡ closed → by ≡ name → FailedReading name t (blamed by Onward)
  left_open by above fresh is = record {
    files = refl;
    blame = is;
    channels = same_channels channel (reads name (0 + asked) (0 + count)) (t.written channel) t _ above fresh refl read_uses
        (sym (at_number-keeps channel (t.written channel) t.written refl));
    uses = inr (still_open above fresh);
  }

  -- where it stands then
  stands_within : (limit : Option ℕ) → 2 < channel → t.uses channel ≡ closed → IsReadTo limit (rest_of (opened channel name t) channel) asked count
      → StandsWithin limit name t t.uses Onward.uses
  stands_within limit above fresh read = record {
    channel = channel;
    above = above;
    fresh = fresh;
    asked = 0 + asked;
    position = 0 + count;
    uses = read_uses;
    read =
        let whole : rest_of (opened channel name t) channel ≡ bytes_of t name = ap (rest_of_use (opened channel name t)) opened_use in
        let asked_is : asked ≡ 0 + asked = omega arith in
        let count_is : count ≡ 0 + count = omega arith in
        subst (λ (n : ℕ). IsReadTo limit (bytes_of t name) n (0 + count)) asked_is
        (subst (λ (n : ℕ). IsReadTo limit (bytes_of t name) asked n) count_is (subst (λ (bytes : List ℕ). IsReadTo limit bytes asked count) whole read));
  }

  use_there : Onward.uses channel ≡ reads name (0 + asked) (0 + count)
  use_there = ap (λ (u : ℕ → Use). u channel) read_uses ∙ at_number-same channel (reads name (0 + asked) (0 + count)) t.uses

-- the file isn't there
pub not_there : (name : List ℕ) (old new : Option Told) → IfSome old (λ t. t.files name ≡ None) → new ≡ option_map (blamed name) old → Between old new (LeftOpen name)
not_there name None new missing is = tt
not_there name (Some t) new missing is = rw is (λ there. let none : IsSome {T = List ℕ} None = rw missing at there in cc)

module _ (channel asked count : ℕ) (name : List ℕ) where
  -- what a failed read made of what was read before it
  abbrev pub ReadFailed : Told → Told
  ReadFailed t = blamed (name_if_reading (t.uses channel)) (read_on channel (Some asked) count t)

  pub open_unread : 2 < channel → (old one new : Option Told) → IfSome old (λ t. t.uses channel ≡ closed) → one ≡ option_map (opened channel name) old
      → new ≡ option_map ReadFailed one → Between old new (LeftOpen name)
  open_unread above None one new fresh a b = tt
  open_unread above (Some t) one new fresh a b = rw (b, a) (λ there. still_open channel asked count name t above fresh)

  pub open_unfinished : 2 < channel → (old one two new : Option Told) → IfSome old (λ t. t.uses channel ≡ closed) → one ≡ option_map (opened channel name) old
      → two ≡ option_map (read_on channel (Some asked) count) one → new ≡ option_map (λ t. blame_at channel (name_if_open (t.uses channel)) t) two
      → Between old new (LeftOpen name)
  open_unfinished above None one two new fresh a b c = tt
  open_unfinished above (Some t) one two new fresh a b c =
      rw (c, b, a, blame_is channel name t above) (λ there. still_open channel asked count name t above fresh)

  pub not_read : 2 < channel → (old one new : Option Told) → IfSome old (λ t. t.uses channel ≡ closed) → one ≡ option_map (opened channel name) old
      → new ≡ option_map ReadFailed one → Between old new (FailedReading name)
  not_read above None one new fresh a b = tt
  not_read above (Some t) one new fresh a b =
      rw (b, a) (left_open channel asked count name t _ above fresh (ap name_if_reading (opened_use channel asked count name t)))

  pub not_finished : 2 < channel → (old one two new : Option Told) → IfSome old (λ t. t.uses channel ≡ closed) → one ≡ option_map (opened channel name) old
      → two ≡ option_map (read_on channel (Some asked) count) one → new ≡ option_map (λ t. blame_at channel (name_if_open (t.uses channel)) t) two
      → Between old new (FailedReading name)
  not_finished above None one two new fresh a b c = tt
  not_finished above (Some t) one two new fresh a b c =
      rw (c, b, a, blame_is channel name t above) (left_open channel asked count name t _ above fresh (ap name_if_open (use_there channel asked count name t)))

-- it could not be opened
pub stood_unopened : (limit : Option ℕ) (name : List ℕ) (old new : Option Told) → new ≡ option_map (blamed name) old → Between old new (StoodWithin limit name)
stood_unopened limit name None new is = tt
stood_unopened limit name (Some t) new is = rw is (inl refl)

-- how far the file was read
module _ (channel asked count : ℕ) (limit : Option ℕ) (name : List ℕ) where
  pub stood_unread : 2 < channel → (old one new : Option Told) → IfSome old (λ t. t.uses channel ≡ closed) → one ≡ option_map (opened channel name) old
      → IfSome one (λ t. IsReadTo limit (rest_of t channel) asked count)
      → new ≡ option_map (ReadFailed channel asked count name) one → Between old new (StoodWithin limit name)
  stood_unread above None one new fresh a read b = tt
  stood_unread above (Some t) one new fresh a read b = rw (b, a) (inr (stands_within channel asked count name t limit above fresh (rw a at read)))

  pub stood_unfinished : 2 < channel → (old one two new : Option Told) → IfSome old (λ t. t.uses channel ≡ closed) → one ≡ option_map (opened channel name) old
      → IfSome one (λ t. IsReadTo limit (rest_of t channel) asked count) → two ≡ option_map (read_on channel (Some asked) count) one
      → new ≡ option_map (λ t. blame_at channel (name_if_open (t.uses channel)) t) two → Between old new (StoodWithin limit name)
  stood_unfinished above None one two new fresh a read b c = tt
  stood_unfinished above (Some t) one two new fresh a read b c =
      rw (c, b, a, blame_is channel name t above) (inr (stands_within channel asked count name t limit above fresh (rw a at read)))

-- so where it is read to no limit

stands_unlimited : (limit : ℕ) (name : List ℕ) (t : Told) (before after : ℕ → Use) → OpenWithin (Some limit) name t before after → OpenWithin None name t before after
stands_unlimited limit name t before after (inl same) = inl same
stands_unlimited limit name t before after (inr s) = inr (record {
  channel = s.channel;
  above = s.above;
  fresh = s.fresh;
  asked = s.asked;
  position = s.position;
  uses = s.uses;
  read = record { within = s.read.within; from = s.read.from; piece = s.read.piece; most = tt };
})

pub stood_whole : (limit : ℕ) (name : List ℕ) (old new : Option Told) → Between old new (StoodWithin (Some limit) name) → Between old new (StoodWithin None name)
stood_whole limit name None new stood = tt
stood_whole limit name (Some t) None stood = stood
stood_whole limit name (Some t) (Some n) stood = stands_unlimited limit name t t.uses n.uses stood

-- how far a channel was read so far, from one piece to the next

abbrev pub LastPiece : (limit count : ℕ) → (asked : Option ℕ) → Type 0
LastPiece limit count None = count ≡ 0
LastPiece limit count (Some few) = (few ≤ limit) × (few ≤ count) × (count ≤ few + 4096)

pub record ReadSo (limit channel count : ℕ) (before now : Option Told) : Type 0 where
  pub asked : Option ℕ
  pub last : LastPiece limit count asked
  pub told : now ≡ option_map (read_on channel asked count) before

pub so_none : (limit channel : ℕ) (told : Option Told) → ReadSo limit channel 0 told told
so_none limit channel told = record { asked = None; last = refl; told = option_map-id (read_on channel None 0) told (λ t. read_on-none channel t) }

pub so_more : (limit channel len count size : ℕ) (before mid now : Option Told) → ReadSo limit channel len before mid → len ≤ limit → count ≤ 4096 → size ≡ len + count
    → now ≡ option_map (moved channel count) mid → ReadSo limit channel size before now
so_more limit channel len count size before mid now so within few sum is = record {
  asked = Some len;
  last = (within, omega (arith, sum), omega (arith, sum, few));
  told = told_more channel so.asked len count before mid now so.told is ∙ ap (λ (n : ℕ). option_map (read_on channel (Some len) n) before) (sym sum);
}

-- so much there was
got_within : (channel : ℕ) (bytes : List ℕ) (t : Told) → bytes ++ drop (length bytes) (rest_of t channel) ≡ rest_of t channel → length bytes ≤ length (rest_of t channel)
got_within channel bytes t is = omega (arith, ap length is, length-append bytes (drop (length bytes) (rest_of t channel)))

read_to : (limit channel few : ℕ) (bytes : List ℕ) (before : Option Told) → LastPiece limit (length bytes) (Some few)
    → IfSome before (λ t. bytes ++ drop (length bytes) (rest_of t channel) ≡ rest_of t channel)
    → IfSome before (λ t. IsReadTo (Some limit) (rest_of t channel) few (length bytes))
read_to limit channel few bytes None last got = tt
read_to limit channel few bytes (Some t) last got = record { within = got_within channel bytes t got; from = last.1; piece = last.2; most = last.0 }

pub so_read : (limit channel : ℕ) (bytes : List ℕ) (before now : Option Told) → ReadSo limit channel (length bytes) before now
    → IfSome before (λ t. bytes ++ drop (length bytes) (rest_of t channel) ≡ rest_of t channel) → 0 < length bytes
    → ReadTo limit channel (length bytes) (λ name t. t) before now
so_read limit channel bytes before now so got some = by_asked so.asked so.last so.told where
  by_asked : (asked : Option ℕ) → LastPiece limit (length bytes) asked → now ≡ option_map (read_on channel asked (length bytes)) before
      → ReadTo limit channel (length bytes) (λ name t. t) before now
  by_asked None none is = absurd (omega (arith, none, some))
  by_asked (Some few) last is = record { asked = few; read = read_to limit channel few bytes before last got; told = is }

-- the next piece was asked for, and none is got

pub so_asked : (limit channel count : ℕ) (bytes : List ℕ) (before mid now : Option Told) → ReadSo limit channel (length bytes) before mid
    → IfSome before (λ t. bytes ++ drop (length bytes) (rest_of t channel) ≡ rest_of t channel) → length bytes ≤ limit → count ≡ 0
    → now ≡ option_map (moved channel count) mid → ReadTo limit channel (length bytes) (λ name t. t) before now
so_asked limit channel count bytes before mid now so got within none is = record {
  asked = length bytes;
  read = read_to limit channel (length bytes) bytes before (within, omega arith, omega arith) got;
  told =
      let sum : length bytes + count ≡ length bytes = omega (arith, none) in
      told_more channel so.asked (length bytes) count before mid now so.told is
      ∙ ap (λ (n : ℕ). option_map (read_on channel (Some (length bytes)) n) before) sum;
}

asked_failed : (channel : ℕ) (asked : Option ℕ) (len : ℕ) (t : Told) → 2 < channel
    → blame_at channel (name_if_reading ((read_on channel asked len t).uses channel)) (moved channel 0 (read_on channel asked len t))
    ≡ blamed (name_if_reading (t.uses channel)) (read_on channel (Some len) len t)
asked_failed channel asked len t above =
    let name : name_if_reading ((read_on channel asked len t).uses channel) ≡ name_if_reading (t.uses channel)
    = ap name_if_reading (at_number-same channel (read_on_use asked len (t.uses channel)) t.uses) ∙ name_read_on asked len (t.uses channel) in
    let count : len + 0 ≡ len = omega arith in
    blame_is channel [] t above (name_if_reading ((read_on channel asked len t).uses channel)) (moved channel 0 (read_on channel asked len t))
    ∙ ap₂ blamed name (moved-behind channel asked len 0 t ∙ ap (λ (n : ℕ). read_on channel (Some len) n t) count)

pub so_failed : (limit channel : ℕ) (bytes : List ℕ) (before mid now : Option Told) → 2 < channel → ReadSo limit channel (length bytes) before mid
    → IfSome before (λ t. bytes ++ drop (length bytes) (rest_of t channel) ≡ rest_of t channel) → length bytes ≤ limit
    → now ≡ option_map (λ t. blame_at channel (name_if_reading (t.uses channel)) (moved channel 0 t)) mid → ReadTo limit channel (length bytes) blamed before now
so_failed limit channel bytes before mid now above so got within is = record {
  asked = length bytes;
  read = read_to limit channel (length bytes) bytes before (within, omega arith, omega arith) got;
  told =
      is ∙ ap (option_map (λ t. blame_at channel (name_if_reading (t.uses channel)) (moved channel 0 t))) so.told
      ∙ option_map-twice (λ t. blame_at channel (name_if_reading (t.uses channel)) (moved channel 0 t)) (read_on channel so.asked (length bytes)) before
      ∙ option_map-same _ _ before (λ t. asked_failed channel so.asked (length bytes) t above);
}

-- what is got of a channel that was just opened is got of the file

pub front_opened : (channel limit : ℕ) (name bytes : List ℕ) (old mid : Option Told) → mid ≡ option_map (opened channel name) old
    → IfSome old (λ t. IsSome (t.files name)) → IfSome mid (λ t. IsFront limit (rest_of t channel) bytes) → IfSome old (IsFrontOf limit name bytes)
front_opened channel limit name bytes None mid is there front = tt
front_opened channel limit name bytes (Some t) mid is there front =
    let got : IsFront limit (rest_of (opened channel name t) channel) bytes = let P : Option Told → Type 0 =
    λ o. IfSome o (λ t. IsFront limit (rest_of t channel) bytes) in subst P is front in
    let whole : rest_of (opened channel name t) channel ≡ bytes_of t name = ap (rest_of_use (opened channel name t)) (at_number-same channel (reads name 0 0) t.uses) in
    record { whole = bytes_of t name; file = file_there (t.files name) there; front = subst (λ (w : List ℕ). IsFront limit w bytes) whole got }

-- what is no longer than the limit is the whole file

whole_of : (limit : ℕ) (whole bytes : List ℕ) → length bytes ≤ limit → IsFront limit whole bytes → whole ≡ bytes
whole_of limit whole bytes short (all is) = sym is
whole_of limit whole bytes short (more long rest is) = absurd (omega (arith, short, long))

pub whole_file : (limit : ℕ) (name bytes : List ℕ) (old : Option Told) → length bytes ≤ limit → IfSome old (IsFrontOf limit name bytes)
    → IfSome old (λ t. t.files name ≡ Some bytes)
whole_file limit name bytes None short h = tt
whole_file limit name bytes (Some t) short h = h.file ∙ ap Some (whole_of limit h.whole bytes short h.front)

-- what was read so far of a channel, where reading goes on or stops

pub front_more : (channel limit len : ℕ) (bytes : List ℕ) (old : Option Told) → limit < length bytes
    → IfSome old (λ t. bytes ++ drop len (rest_of t channel) ≡ rest_of t channel) → IfSome old (λ t. IsFront limit (rest_of t channel) bytes)
front_more channel limit len bytes None long h = tt
front_more channel limit len bytes (Some t) long h = more long (drop len (rest_of t channel)) h

pub front_all : (channel limit : ℕ) (bytes : List ℕ) (old : Option Told) → IfSome old (λ t. bytes ≡ rest_of t channel)
    → IfSome old (λ t. IsFront limit (rest_of t channel) bytes)
front_all channel limit bytes None h = tt
front_all channel limit bytes (Some t) h = all h

pub whole_read : {E : Type 0} (limit : ℕ) (name : List ℕ) (old : Option Told) (r : Result (List ℕ) E) → 2 ^ 32 ≤ limit → IfOk r (λ bytes. length bytes < 2 ^ 32)
    → IfOk r (λ bytes. IfSome old (IsFrontOf limit name bytes)) → IfOk r (λ bytes. IfSome old (λ t. t.files name ≡ Some bytes))
whole_read limit name old (Ok bytes) large short h = whole_file limit name bytes old (omega (arith, large, short)) h
whole_read limit name old (Err e) large short h = tt

-- how many bytes a channel gave that was just opened, and no other gave any
pub given_of : (channel count : ℕ) (old one two three : ℕ → ℕ) → one ≡ at_number channel 0 old → two ≡ at_number channel (one channel + count) one → three ≡ two
    → three ≡ at_number channel count old
given_of channel count old one two three opened_now read same =
    let sum : one channel + count ≡ count = ap (λ (f : ℕ → ℕ). f channel + count) opened_now ∙ ap (λ (n : ℕ). n + count) (at_number-same channel 0 old) ∙ omega arith in
    same ∙ read ∙ ap (λ (n : ℕ). at_number channel n one) sum ∙ ap (at_number channel count) opened_now ∙ at_number-twice channel 0 count old

-- so said of a channel that is read on

pub gave_none : (channel : ℕ) (old : ℕ → ℕ) → old ≡ at_number channel (old channel + 0) old
gave_none channel old = sym (at_number-keeps channel (old channel + 0) old (omega arith))

pub gave_more : (channel len count size : ℕ) (old mid new : ℕ → ℕ) → mid ≡ at_number channel (old channel + len) old
    → new ≡ at_number channel (mid channel + count) mid → size ≡ len + count → new ≡ at_number channel (old channel + size) old
gave_more channel len count size old mid new so_far further sum =
    let here : mid channel ≡ old channel + len = ap (λ (f : ℕ → ℕ). f channel) so_far ∙ at_number-same channel (old channel + len) old in
    let all : mid channel + count ≡ old channel + size = omega (arith, here, sum) in
    further
    ∙ ap (λ (n : ℕ). at_number channel n mid) all
    ∙ ap (at_number channel (old channel + size)) so_far
    ∙ at_number-twice channel (old channel + len) (old channel + size) old
