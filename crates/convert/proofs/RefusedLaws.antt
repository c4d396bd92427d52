-- Which refusal a conversion gives: the first test that fails decides.
-- Assumes nothing.
use mathlib.Core.Path.{◌≡◌, refl, sym}
use mathlib.Core.Bool.{Bool, true, false, ◌&&◌}
use mathlib.Core.List.{List}
use mathlib.Core.Logic.{◌⊎◌, inl, inr}
use Prim.Native.Nat.{ℕ}
use lib.ListN.{length}
use lib.Dec.{eqb, leb}
use borrow.Author.Tests.{eqb-true, eqb-false, eq-eqb, ne_eqb, lt-leb, leb-false}
use Rattle.octets.specs.Bytes.{get16}
use Rattle.octets.proofs.BoolLaws.{and_false_left, and_false_right}
use Rattle.refusal.specs.House.{house, gives, asks}
use Rattle.refusal.proofs.Laws.{asks-house, not-both}
use Rattle.store.specs.Layout.{total, edition1}
use Rattle.store.specs.Store.{Entry, peers_of, entries, sound}
use Rattle.store.specs.declared.Limits.{Limits}
use Rattle.store.proofs.SoundLaws.{sound_says}
use Rattle.convert.specs.Convert.{has_room, answered}
use Rattle.convert.specs.Claims.{TooMany}

-- ---- refused

module _ (F T : Limits) (from to : List ℕ) where
  pub of_source : (length from ≡ total F → ⊥) → answered F T from to ≡ house 1
  unfolding answered
  of_source a = rw (ne_eqb (length from) (total F) a)

  pub of_target : (length to ≡ total T → ⊥) → answered F T from to ≡ house 1
  unfolding answered
  of_target b = go (eqb (length from) (total F))
    where
      go : (x : Bool) → asks x 1 (asks (eqb (length to) (total T)) 1 (asks (sound F from) 12 (asks (has_room T (entries F from)) 14 (gives 0)))) ≡ house 1
      go true = rw (ne_eqb (length to) (total T) b)
      go false = refl

  module _ (a : length from ≡ total F) (b : length to ≡ total T) where
    pub is-unsound : sound F from ≡ false → answered F T from to ≡ house 12
    unfolding answered
    is-unsound c = rw (eq-eqb (length from) (total F) a, eq-eqb (length to) (total T) b, c)

    pub other_header : (get16 from 0 ≡ F.edition → ⊥) → answered F T from to ≡ house 12
    other_header h = go (sound F from) refl
      where
        go : (x : Bool) → sound F from ≡ x → answered F T from to ≡ house 12
        go true c = absurd (h (sound_says F from c).edition_is)
        go false c = is-unsound c

    pub is-full : sound F from ≡ true → has_room T (entries F from) ≡ false → answered F T from to ≡ house 14
    unfolding answered
    is-full c d = rw (eq-eqb (length from) (total F) a, eq-eqb (length to) (total T) b, c, d)

-- ---- why

-- both buffers have the length of their side's edition
abbrev pub Long : Limits → Limits → List ℕ → List ℕ → Type 0
Long F T from to = (length from ≡ total F) × (length to ≡ total T)

-- a refusal's number, and the test that has failed
pub data Why (F T : Limits) (from to : List ℕ) (n : ℕ) : Type 0 where
  source_length : (length from ≡ total F → ⊥) → n ≡ 1 → Why F T from to n
  target-length : (length to ≡ total T → ⊥) → n ≡ 1 → Why F T from to n
  unsound : Long F T from to → sound F from ≡ false → n ≡ 12 → Why F T from to n
  full : Long F T from to → sound F from ≡ true → has_room T (entries F from) ≡ false → n ≡ 14 → Why F T from to n

module _ (F T : Limits) (from to : List ℕ) (n : ℕ) where
  pub why : answered F T from to ≡ house n → Why F T from to n
  unfolding answered
  why e = at_source (asks-house (eqb (length from) (total F)) 1 _ n e)
    where
      at_room : Long F T from to → sound F from ≡ true
          → ((has_room T (entries F from) ≡ false) × (14 ≡ n)) ⊎ ((has_room T (entries F from) ≡ true) × (gives 0 ≡ house n)) → Why F T from to n
      at_room l c (inl x) = full l c x.0 (sym x.1)
      at_room l c (inr x) = not-both n 0 (sym x.1)

      at-sound : Long F T from to
          → ((sound F from ≡ false) × (12 ≡ n)) ⊎ ((sound F from ≡ true) × (asks (has_room T (entries F from)) 14 (gives 0) ≡ house n)) → Why F T from to n
      at-sound l (inl x) = unsound l x.0 (sym x.1)
      at-sound l (inr x) = at_room l x.0 (asks-house (has_room T (entries F from)) 14 _ n x.1)

      at_target : length from ≡ total F
          → ((eqb (length to) (total T) ≡ false) × (1 ≡ n))
          ⊎ ((eqb (length to) (total T) ≡ true) × (asks (sound F from) 12 (asks (has_room T (entries F from)) 14 (gives 0)) ≡ house n)) → Why F T from to n
      at_target a (inl x) = target-length (eqb-false (length to) (total T) x.0) (sym x.1)
      at_target a (inr x) = at-sound (a, eqb-true (length to) (total T) x.0) (asks-house (sound F from) 12 _ n x.1)

      at_source : ((eqb (length from) (total F) ≡ false) × (1 ≡ n))
          ⊎ ((eqb (length from) (total F) ≡ true) × (asks (eqb (length to) (total T)) 1 (asks (sound F from) 12 (asks (has_room T (entries F from)) 14 (gives 0))) ≡ house n))
          → Why F T from to n
      at_source (inl x) = source_length (eqb-false (length from) (total F) x.0) (sym x.1)
      at_source (inr x) = at_target (eqb-true (length from) (total F) x.0) (asks-house (eqb (length to) (total T)) 1 _ n x.1)

-- ---- no room in edition 1

pub too_many : (es : List Entry) → has_room edition1 es ≡ false → TooMany es
unfolding has_room
too_many es h = go (leb (length es) 64) refl h
  where
    go : (x : Bool) → leb (length es) 64 ≡ x → (x && leb (length (peers_of es)) 256) ≡ false → TooMany es
    go true p q = inr (leb-false (length (peers_of es)) 256 q)
    go false p q = inl (leb-false (length es) 64 p)

pub room-none : (es : List Entry) → TooMany es → has_room edition1 es ≡ false
unfolding has_room
room-none es (inl l) = and_false_left (leb (length es) 64) (leb (length (peers_of es)) 256) (lt-leb (length es) 64 l)
room-none es (inr l) = and_false_right (leb (length es) 64) (leb (length (peers_of es)) 256) (lt-leb (length (peers_of es)) 256 l)
