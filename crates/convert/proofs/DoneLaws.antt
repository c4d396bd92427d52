-- What holds where a conversion is done: the target is sound, its entries and every search are those of the source, and the way back gives the same bytes.
-- Assumes nothing.
use mathlib.Core.Path.{◌≡◌, refl, sym, ap, ◌∙◌}
use mathlib.Core.Bool.{true}
use mathlib.Core.List.{List}
use Prim.Native.Nat.{ℕ, ◌-◌}
use lib.ListN.{length, get_or}
use lib.Dec.{eqb}
use borrow.Author.Tests.{eqb-true, eq-eqb}
use Rattle.std.specs.Prelude.{Some}
use Rattle.octets.specs.Bytes.{Bytes}
use Rattle.refusal.specs.House.{Answer, gives, asks, unless_refused}
use Rattle.refusal.proofs.Laws.{asks-gives}
use Rattle.store.specs.Layout.{total, Bounded, edition_of}
use Rattle.store.specs.Store.{Entry, encode, entries, sound}
use Rattle.store.specs.Search.{Finding, found, unfound, placed, chosen, find, key}
use Rattle.store.specs.WellFormed.{WellFormed, nobody}
use Rattle.store.specs.declared.Limits.{Limits}
use Rattle.store.proofs.SoundLaws.{sound_says}
use Rattle.store.proofs.DecodeLaws.{encode-entries}
use Rattle.store.proofs.EncodeLaws.{entries-encode, encode-sound}
use Rattle.store.proofs.WellFormedLaws.{sound-well_formed}
use Rattle.store.proofs.SearchLaws.{key_none}
use Rattle.store.proofs.FindLaws.{in_sound, found-taken}
use Rattle.convert.specs.Convert.{has_room, answered, converted}
use Rattle.convert.specs.Claims.{Returns, SameFound}
use Rattle.convert.proofs.ConvertLaws.{Room, room_says, room-holds}

-- what has passed every test, and what was made
pub record Done (F T : Limits) (from to : List ℕ) : Type 0 where
  pub from_long : length from ≡ total F
  pub sound_is : sound F from ≡ true
  pub room : Room T (entries F from)
  pub made : converted F T from to ≡ encode T (entries F from)

pub done-says : (F T : Limits) (from to : List ℕ) → answered F T from to ≡ gives 0 → Done F T from to
unfolding answered converted
done-says F T from to e =
    let r = asks (has_room T (entries F from)) 14 (gives 0) in
    let a = asks-gives (eqb (length from) (total F)) 1 (asks (eqb (length to) (total T)) 1 (asks (sound F from) 12 r)) 0 e in
    let b = asks-gives (eqb (length to) (total T)) 1 (asks (sound F from) 12 r) 0 a.1 in
    let c = asks-gives (sound F from) 12 r 0 b.1 in
    let d = asks-gives (has_room T (entries F from)) 14 (gives 0) 0 c.1 in
    record {
      from_long = eqb-true (length from) (total F) a.0;
      sound_is = c.0;
      room = room_says T (entries F from) d.0;
      made = ap (λ (x : Answer). unless_refused x (encode T (entries F from)) to) e;
    }

pub is-done : (F T : Limits) (from to : List ℕ) → length from ≡ total F → length to ≡ total T → sound F from ≡ true → has_room T (entries F from) ≡ true
    → answered F T from to ≡ gives 0
unfolding answered
is-done F T from to a b c d = rw (eq-eqb (length from) (total F) a, eq-eqb (length to) (total T) b, c, d)

-- ---- the target before

module _ (F T : Limits) (from to to' : List ℕ) (l : length to ≡ length to') where
  pub same_answer : answered F T from to ≡ answered F T from to'
  unfolding answered
  same_answer = rw l

  pub same_target : answered F T from to ≡ gives 0 → converted F T from to ≡ converted F T from to'
  same_target e = (done-says F T from to e).made ∙ sym (done-says F T from to' (sym same_answer ∙ e)).made

-- ---- the target afterwards

module _ (F T : Limits) (from to : List ℕ) (bounded : Bounded T) (bytes : Bytes from) (e : answered F T from to ≡ gives 0) where
  went : Done F T from to
  went = done-says F T from to e

  old : WellFormed F (entries F from)
  old = sound-well_formed F from bytes went.sound_is

  -- the entries are well formed in the target's edition too
  pub new : WellFormed T (entries F from)
  new =
      let w : WellFormed F (entries F from) = old in
      record { keys_fit = went.room.keys_fit; peers_fit = went.room.peers_fit; fitting = w.fitting; odd = w.odd; apart = w.apart }

  pub made_sound : sound T (converted F T from to) ≡ true
  made_sound = ap (sound T) went.made ∙ encode-sound T (entries F from) bounded new

  pub same : entries T (converted F T from to) ≡ entries F from
  same = ap (entries T) went.made ∙ entries-encode T (entries F from) bounded new

  made-long : length (converted F T from to) ≡ total T
  made-long = (sound_says T (converted F T from to) made_sound).size

  -- ---- and back

  back-room : has_room F (entries T (converted F T from to)) ≡ true
  back-room = ap (has_room F) same ∙ room-holds F (entries F from) old.keys_fit old.peers_fit

  pub returns : (back : List ℕ) → length back ≡ total F → Returns F T from to back
  returns back long =
      let b : answered T F (converted F T from to) back ≡ gives 0 = is-done T F (converted F T from to) back made-long long made_sound back-room in
      (e, b, (done-says T F (converted F T from to) back b).made ∙ ap (encode F) same ∙ sym (encode-entries F from bytes went.sound_is))

  -- ---- searches

  module _ (of_source : edition_of (total F) ≡ Some F) (of_target : edition_of (total T) ≡ Some T) (peer t : ℕ) where
    source_known : edition_of (length from) ≡ Some F
    source_known = ap edition_of went.from_long ∙ of_source

    target-known : edition_of (length (converted F T from to)) ≡ Some T
    target-known = ap edition_of made-long ∙ of_target

    same-find : find (converted F T from to) peer t ≡ find from peer t
    same-find =
        in_sound T (converted F T from to) peer t target-known made_sound
        ∙ ap (λ (es : List Entry). placed (chosen peer t es) (length es)) same
        ∙ sym (in_sound F from peer t source_known went.sound_is)

    same_found_key : key (converted F T from to) peer t ≡ key from peer t
    same_found_key = go (find from peer t) refl
      where
        go : (f : Finding) → find from peer t ≡ f → key (converted F T from to) peer t ≡ key from peer t
        go (found p until) q =
            (found-taken T (converted F T from to) peer t target-known p until (same-find ∙ q)).its_kmac
            ∙ ap (λ (es : List Entry). (get_or es (p - 1) nobody).kmac) same
            ∙ sym (found-taken F from peer t source_known p until q).its_kmac
        go (unfound n) q = key_none (converted F T from to) peer t n (same-find ∙ q) ∙ sym (key_none from peer t n q)

  pub same-found : edition_of (total F) ≡ Some F → edition_of (total T) ≡ Some T → SameFound (converted F T from to) from
  same-found p q peer t = (same-find p q peer t, same_found_key p q peer t)
