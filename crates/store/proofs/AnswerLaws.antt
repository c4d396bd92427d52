-- Answers with the same numbers are the same answer.
-- Assumes nothing.
use mathlib.Core.Path.{◌≡◌, refl, sym, ap}
use Rattle.std.specs.Prelude.{Result, Ok, Err, ⊤}
use Rattle.refusal.specs.House.{house_number}
use Rattle.refusal.specs.declared.Refusal.{Refusal}
use Rattle.refusal.proofs.Laws.{one_number, answer-one}
use Rattle.store.specs.Search.{found, unfound, found_as, emptied_as}
use Rattle.store.specs.declared.Found.{Found}
use Rattle.store.proofs.SearchLaws.{not_found}

pub found-one : (a b : Result Found Refusal) → found_as a ≡ found_as b → a ≡ b
found-one (Ok f) (Ok g) e =
    let q : found f.place f.end ≡ found g.place g.end = e in
    let m : f.place ≡ g.place = cc in
    let n : f.end ≡ g.end = cc in
    rw (m, n) refl
found-one (Ok f) (Err h) e = not_found (house_number h) f.place f.end (sym e)
found-one (Err g) (Ok f) e = not_found (house_number g) f.place f.end e
found-one (Err g) (Err h) e =
    let q : unfound (house_number g) ≡ unfound (house_number h) = e in
    ap Err (one_number g h (cc))

pub emptied-one : (a b : Result ⊤ Refusal) → emptied_as a ≡ emptied_as b → a ≡ b
emptied-one a b e = answer-one (λ done. 0) (λ d f p. refl) a b e
