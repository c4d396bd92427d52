-- `console::stores::convert_in` meets its contract.
use Rattle.std.proofs.Common.{◌≡◌, ℕ, Bool, not, List, Result, take, subst, arith}
use Rattle.convert.specs.Convert.{Converts}
use Rattle.refusal.specs.declared.Refusal.{Refusal}
use Rattle.console.specs.Bench.{limits_of, store_of}
use Rattle.console.proofs.BenchLaws.{front_length, held-refused, held-converted}
use Rattle.console.proofs.stores.convert_in.Goals as goal

-- of the store that is held, and of the answer that is told
converts : (large : Bool) (from s to new : List ℕ) {r : Result (Unit {0}) Refusal} (q : Result (Unit {0}) Refusal) → from ≡ s → r ≡ q → Converts (limits_of large) (limits_of (not large)) from to new r
    → Converts (limits_of large) (limits_of (not large)) s to new q
converts large from s to new {r = r} q e f c =
    subst (λ (x : Result (Unit {0}) Refusal). Converts (limits_of large) (limits_of (not large)) s to new x) f (subst (λ (x : List ℕ). Converts (limits_of large) (limits_of (not large)) x to new r) e c)

pub returns-in-Ok : goal.returns-in-Ok
returns-in-Ok c =
    let a = c.args in
    let n = c.size-n.result in
    let h = c.size-n.ensures in
    held-converted a.large n (store_of a.large a.store.now) (take n a.made.now) c.convert_from.new.to h (front_length (not a.large) n a.made.now h (omega arith))
    (converts a.large _ _ _ _ _ c.store_of.ensures c.in-Ok.is c.convert_from.ensures) c.convert_from.auto.to _ c.copy_from_slice.new.self _ c.copy_from_slice.ensures.after

pub returns-in-Err : goal.returns-in-Err
returns-in-Err c =
    let a = c.args in
    let n = c.size-n.result in
    let h = c.size-n.ensures in
    held-refused a.large n (store_of a.large a.store.now) (take n a.made.now) c.convert_from.new.to h (front_length (not a.large) n a.made.now h (omega arith))
    c.in-Err.h (converts a.large _ _ _ _ _ c.store_of.ensures c.in-Err.is c.convert_from.ensures)
