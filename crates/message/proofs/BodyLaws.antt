-- Laws of the size of a request and of the body test.
-- Assumes nothing.
use mathlib.Core.Path.{◌≡◌}
use mathlib.Core.List.{List}
use mathlib.Core.Bool.{Bool, true, false}
use Prim.Native.Nat.{ℕ, zero, suc, ◌+◌, ◌-◌, ◌≤◌, ◌<◌}
use native.Mathlib.Omega.{arith}
use Rattle.std.proofs.lemmas.Grind.{common_steps}
use lib.ListN.{length}
use lib.Dec.{eqb, leb, lit≤}
use borrow.Author.Tests.{eqb-true, le-leb}
use Rattle.octets.proofs.BoolLaws.{and_both}
use Rattle.message.specs.declared.Command.{Command}
use Rattle.message.specs.declared.Task.TheVariants.{Requests}
use Rattle.message.specs.declared.Command.TheVariants.{Adds, Deletes, Validities, Entities}
use Rattle.std.specs.Prelude.{Some, None}
use Rattle.message.specs.Body.{size_if, sized, fields_from, list_ok, request_number, most, body_ok}

-- ---- a size that is right

pub size-right : (ok : Bool) (size : ℕ) (m : List ℕ) (at : ℕ) → ok ≡ true → at + size ≤ length m → size_if ok size m at ≡ Some size
unfolding size_if
size-right ok size m at p h = rw (and_both ok (leb (at + size) (length m)) p (le-leb (at + size) (length m) h))

-- ---- a turn of the body test

pub size_fits : (k : Command) (m : List ℕ) (at s : ℕ) → sized k m at ≡ Some s → at + s ≤ length m
unfolding sized size_if
size_fits k m at s e = grind (arith, common_steps)

pub fields_turn : (k : Command) (m : List ℕ) (at n i s : ℕ) → i < n → sized k m at ≡ Some s
    → fields_from k m at (n - i) ≡ fields_from k m (at + s) (n - (i + 1))
unfolding fields_from sized size_if
fields_turn k m at n i s l e = let d : n - i ≡ suc (n - (i + 1)) = omega arith in rw d (grind (arith, common_steps))

pub fields-bad : (k : Command) (m : List ℕ) (at n i : ℕ) → i < n → sized k m at ≡ None → fields_from k m at (n - i) ≡ false
unfolding fields_from sized size_if
fields-bad k m at n i l e = let d : n - i ≡ suc (n - (i + 1)) = omega arith in rw d (grind (arith, common_steps))

pub fields-end : (k : Command) (m : List ℕ) (at n i : ℕ) → n ≤ i → fields_from k m at (n - i) ≡ eqb at (length m)
unfolding fields_from
fields-end k m at n i l = let d : n - i ≡ 0 = omega arith in rw d

-- fields that are right stand within the message
pub fields_within : (k : Command) (m : List ℕ) (n at : ℕ) → fields_from k m at n ≡ true → at ≤ length m
unfolding fields_from
fields_within k m zero at e = let d : at ≡ length m = eqb-true at (length m) e in omega arith
fields_within k m (suc n) at e = grind (arith, common_steps)

-- ---- a message that ends before its requests

pub list_short : (k : Command) (m : List ℕ) → length m < 22 → list_ok k m ≡ false
list_short k m h = grind (arith, common_steps, fields_within)

-- ---- what a body that passed the test has

most-few : (k : Command) → most k ≤ 500
most-few Adds = lit≤ tt
most-few Deletes = lit≤ tt
most-few Validities = lit≤ tt
most-few Entities = lit≤ tt

pub record Listed (k : Command) (m : List ℕ) : Type 0 where
  pub within : 22 ≤ length m
  pub few : request_number m ≤ 500
  pub fields : fields_from k m 22 (request_number m) ≡ true

pub listed : (k : Command) (m : List ℕ) → body_ok (Requests k) m ≡ true → Listed k m
unfolding body_ok
listed k m h = record { within = grind (arith, common_steps, fields_within); few = grind (arith, common_steps, most-few); fields = grind (arith, common_steps) }
