-- Two sound stores of one edition whose entries are alike by a tally, and what a search answers of them.
-- Assumes nothing.
use mathlib.Core.Path.{◌≡◌, refl, sym, ap, ◌∙◌, subst}
use mathlib.Core.Bool.{true}
use mathlib.Core.List.{List}
use Prim.Native.Nat.{ℕ, zero, suc, ◌+◌, ◌-◌, min}
use lib.ListN.{length}
use Rattle.std.specs.Prelude.{Option, Some}
use Rattle.octets.specs.Bytes.{Bytes, part}
use Rattle.octets.proofs.PartLaws.{part-long}
use Rattle.store.specs.declared.Limits.{Limits}
use Rattle.store.specs.Layout.{record_at, total, Bounded, edition_of}
use Rattle.store.specs.Store.{Entry, encode, entries, sound}
use Rattle.store.specs.WellFormed.{WellFormed}
use Rattle.store.specs.Search.{Finding, found, unfound, find, find_in, key, key_of}
use Rattle.store.proofs.DecodeLaws.{encode-entries}
use Rattle.store.proofs.EncodeLaws.{entries-encode, encode-sound, encode-length}
use Rattle.store.proofs.SoundLaws.{sound_says, sound_bounded}
use Rattle.store.proofs.WellFormedLaws.{sound-well_formed}
use Rattle.store.proofs.SearchLaws.{edition_says}
use Rattle.runs.specs.Alike.{DifferAt, in_store_key, AlikeStores, sound_in, held_in}
use Rattle.runs.specs.Tally.{Tag, tags}
use Rattle.runs.specs.Secrecy.{Told, none_unlike}
use Rattle.runs.proofs.EntryLaws.{AlikeEntries, length-alike, chosen-alike, alike-told, none-unlike}
use Rattle.runs.proofs.BytesLaws.{encode-bytes}
use Rattle.runs.proofs.StoreLaws.{entries-alike, encode-differ}

pub record Twins (L : Limits) (ts : List Tag) (s s' : List ℕ) : Type 0 where
  pub edition : edition_of (length s) ≡ Some L
  pub edition' : edition_of (length s') ≡ Some L
  pub bytes : Bytes s
  pub bytes' : Bytes s'
  pub sound_is : sound L s ≡ true
  pub sound_is' : sound L s' ≡ true
  pub alike : AlikeEntries ts (entries L s) (entries L s')

-- the encodings of two well-formed lists that are alike
pub encode-twins : (L : Limits) {ts : List Tag} {es es' : List Entry} → Bounded L → edition_of (total L) ≡ Some L → WellFormed L es → WellFormed L es' → AlikeEntries ts es es'
    → Twins L ts (encode L es) (encode L es')
encode-twins L {es = es} {es' = fs} b p g g' a =
    record {
      edition = ap edition_of (encode-length L es b g) ∙ p;
      edition' = ap edition_of (encode-length L fs b g') ∙ p;
      bytes = encode-bytes L es g;
      bytes' = encode-bytes L fs g';
      sound_is = encode-sound L es b g;
      sound_is' = encode-sound L fs b g';
      alike = rw (entries-encode L es b g, entries-encode L fs b g') a;
    }

-- alike stores, at the start
pub alike-twins : (L : Limits) (s s' : List ℕ) → AlikeStores s s' → edition_of (length s) ≡ Some L → sound L s ≡ true → Twins L (tags (held_in s) (held_in s')) s s'
alike-twins L s s' a d w =
    let d' : edition_of (length s') ≡ Some L = ap edition_of (sym a.differ.same_length) ∙ d in
    record {
      edition = d;
      edition' = d';
      bytes = a.bytes;
      bytes' = a.bytes';
      sound_is = w;
      sound_is' = ap (λ (E : Option Limits). sound_in E s') (sym d') ∙ a.sound';
      alike = rw (d, d') (entries-alike L s s' (sound_says L s w).keys_fit a.differ);
    }

module _ (L : Limits) {ts : List Tag} {s s' : List ℕ} (v : Twins L ts s s') where
  pub twins_bounded : Bounded L
  twins_bounded = sound_bounded L s v.sound_is v.bytes

  pub total-edition : edition_of (total L) ≡ Some L
  total-edition = ap edition_of (sym (edition_says (length s) L v.edition).1) ∙ v.edition

  pub well_formed : WellFormed L (entries L s)
  well_formed = sound-well_formed L s v.bytes v.sound_is

  pub well_formed' : WellFormed L (entries L s')
  well_formed' = sound-well_formed L s' v.bytes' v.sound_is'

  encoded : s ≡ encode L (entries L s)
  encoded = encode-entries L s v.bytes v.sound_is

  encoded' : s' ≡ encode L (entries L s')
  encoded' = encode-entries L s' v.bytes' v.sound_is'

  -- ---- at the end

  twins-differ : DifferAt (in_store_key s) s s'
  twins-differ =
      subst (λ (x : List ℕ). DifferAt (in_store_key x) x s') (sym encoded)
      (subst (DifferAt (in_store_key (encode L (entries L s))) (encode L (entries L s))) (sym encoded') (encode-differ L twins_bounded v.alike well_formed well_formed'))

  pub twins-alike : AlikeStores s s'
  twins-alike =
      record {
        bytes = v.bytes;
        bytes' = v.bytes';
        sound = ap (λ (E : Option Limits). sound_in E s) v.edition ∙ v.sound_is;
        sound' = ap (λ (E : Option Limits). sound_in E s') v.edition' ∙ v.sound_is';
        differ = twins-differ;
      }

  pub twins-told : Told ts (held_in s) (held_in s')
  twins-told = rw (v.edition, v.edition') (alike-told v.alike)

  pub twins-equal : none_unlike ts ≡ true → s ≡ s'
  twins-equal h = encoded ∙ ap (encode L) (none-unlike v.alike h) ∙ sym encoded'

  -- ---- a search

  pub find-same : (peer t : ℕ) → find s peer t ≡ find s' peer t
  unfolding find find_in
  find-same peer t = rw (v.edition, v.edition', v.sound_is, v.sound_is', chosen-alike peer t v.alike, length-alike v.alike)

  part-size : (i n : ℕ) → length (part s i n) ≡ length (part s' i n)
  part-size i n = part-long s i n ∙ ap (λ (k : ℕ). min n (k - i)) twins-differ.same_length ∙ sym (part-long s' i n)

  key_of-size : (a : Finding) → length (key_of a s) ≡ length (key_of a s')
  key_of-size (found zero e) = refl
  key_of-size (found (suc i) e) = part-size (record_at i + 8) 24
  key_of-size (unfound n) = refl

  pub key-size : (peer t : ℕ) → length (key s peer t) ≡ length (key s' peer t)
  unfolding key
  key-size peer t = key_of-size (find s peer t) ∙ ap (λ (a : Finding). length (key_of a s')) (find-same peer t)
