-- What a begin makes.
-- Assumes nothing.
use Rattle.std.proofs.Common.{◌≡◌, ℕ, Bool, true, false, not, eqb, leb, List, length}
use Rattle.session.specs.declared.Session.{Session}
use Rattle.session.specs.Sessions.{up, begins, or_refuse, begin}

pub begin-made : (own peer number : ℕ) (out : List ℕ) (e : Session) (n : ℕ) → begin own peer number out ≡ begins e n
    → (record { state = 1; own = own; peer = peer; next = up number; expected = 0; remembered = false; transaction = 0 } ≡ e) × (23 ≡ n)
unfolding begin
begin-made own peer number out e n q = tested (leb 1032 (length out)) (not (eqb own peer)) _ q
  where
    tested : (a b : Bool) (made : Session) → or_refuse a 2 (or_refuse b 6 (begins made 23)) ≡ begins e n → (made ≡ e) × (23 ≡ n)
    tested true true made h = (cc, cc)
    tested true false made h = (cc, cc)
    tested false b made h = (cc, cc)
