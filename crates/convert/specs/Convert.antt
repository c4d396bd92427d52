-- A store of one edition made one of another (change request 6). One definition serves both directions: F are the limits of the source's edition, T those of
-- the target's.
-- Assumes nothing.
use Rattle.std.specs.Prelude.{◌≡◌, Bool, ◌&&◌, List, ℕ, length, eqb, leb, ⊤, Result}
use Rattle.refusal.specs.House.{Answer, gives, answer_as, asks, unless_refused}
use Rattle.refusal.specs.declared.Refusal.{Refusal}
use Rattle.store.specs.Layout.{total}
use Rattle.store.specs.Store.{Entry, peers_of, encode, entries, sound}
use Rattle.store.specs.declared.Limits.{Limits}

-- an edition has room for these entries
unfoldable pub has_room : Limits → List Entry → Bool
has_room L es = leb (length es) L.keys && leb (length (peers_of es)) L.peers

-- what the call answers: H1 of either buffer, H12, H14
unfoldable pub answered : Limits → Limits → List ℕ → List ℕ → Answer
answered F T from to =
    asks (eqb (length from) (total F)) 1
    (asks (eqb (length to) (total T)) 1
    (asks (sound F from) 12
    (asks (has_room T (entries F from)) 14 (gives 0))))

-- the target afterwards: the source's entries as a store of its edition; where the call refuses, the old bytes
unfoldable pub converted : Limits → Limits → List ℕ → List ℕ → List ℕ
converted F T from to = unless_refused (answered F T from to) (encode T (entries F from)) to

abbrev pub converted_as : Result ⊤ Refusal → Answer
converted_as r = answer_as (λ done. 0) r

-- what is promised of a call: its answer, and the target to' that it leaves
pub record Converts (F T : Limits) (from to to' : List ℕ) (r : Result ⊤ Refusal) : Type 0 where
  pub answer : converted_as r ≡ answered F T from to
  pub target : to' ≡ converted F T from to
