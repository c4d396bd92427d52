-- The claims of specs/Claims.antt.
-- Assumes nothing.
use mathlib.Core.Path.{◌≡◌, refl, sym, ap, ap₂, ◌∙◌, subst}
use mathlib.Core.Bool.{Bool, true}
use mathlib.Core.List.{List, [], ◌∷◌, ◌++◌, map}
use Prim.Native.Nat.{ℕ, zero, suc, ◌+◌, ◌-◌, ◌%◌, ◌≤◌, ◌<◌}
use native.Mathlib.Nat.{not-suc-le-zero, le_of_suc-le-suc}
use native.Mathlib.Omega.{arith}
use lib.Count.{ones}
use lib.Dec.{eqb, leb}
use lib.ListN.{length, get_or, take, drop, length-map, take-append-drop}
use borrow.Author.Tests.{eqb-true, leb-true, le-leb}
use Rattle.octets.specs.Bytes.{between, part, same}
use Rattle.octets.proofs.BoolLaws.{and_both, and_left, and_right, between-true, is-between, same_refl, same_true}
use Rattle.octets.proofs.SpliceLaws.{splice_front}
use Rattle.des.specs.Bits.{bytes_of_bits}
use Rattle.refusal.specs.House.{Answer, gives}
use Rattle.refusal.proofs.Laws.{answer-one, asks-gives, gives-number}
use Rattle.authentication.specs.Mac.{mac}
use Rattle.authentication.specs.Keys.{odd, ks1, ks2, ks3, session_keys}
use Rattle.authentication.specs.Unit.{header, message, unit_of, built, buffer, body, mac_of, right_header, right_contents, checked, data_of}
use Rattle.authentication.specs.Claims.{TellsPair, StringTells, OnePair, ParityFreeMac, ParityFreeCalls, Accepts, IsBuilt, AcceptedExactlyBuilt, WrittenAccepted, RefusedBuildWritesNothing, OddParity, OneAnswer}
use Rattle.authentication.proofs.PairLaws.{string-tells-pair, one_told}
use Rattle.authentication.proofs.KeyLaws.{odd-ones, odd-high, length-keys}
use Rattle.authentication.proofs.UnitLaws.{header-only, header_right, take-first, length-unit, body-unit, mac-unit, data_unit, first-unit}
use Rattle.authentication.proofs.AnswerLaws.{Passed, passed, all_right, same-keys}
use Rattle.authentication.proofs.ParityLaws.{set-parity, same-mac, same_keys, same-unit, same-built, same-checked, same-derived}

-- ---- the string of the MAC

pub string-tells : StringTells
string-tells = record { string = string-tells-pair }

pub one-pair : OnePair
one-pair =
    record {
      pair = λ d e m n hd he p. one_told (string-tells-pair d m hd) (subst (λ (s : List ℕ). TellsPair e n s) (sym p) (string-tells-pair e n he));
    }

-- ---- parity bits of a key

pub parity_free_mac : ParityFreeMac
parity_free_mac = record { macs = λ a b destination m e. same-mac a b e destination m; set = λ key destination m. same-mac (map odd key) key (set-parity key) destination m }

pub parity_free_calls : ParityFreeCalls
parity_free_calls =
    record {
      builds = λ a b destination direction user out e after after' r r' p q.
          let k : built a user out ≡ built b user out = same-built a b e user out in
          let u : unit_of a destination direction user ≡ unit_of b destination direction user = same-unit a b e destination direction user in
          (answer-one (λ n. n) (λ m n p. p) r r' (p.answer ∙ k ∙ sym q.answer), p.written ∙ ap₂ (λ (k : Answer) (u : List ℕ). buffer k u out) k u ∙ sym q.written);
      checks = λ a b unit destination direction e r r' p q. answer-one (λ n. n) (λ m n p. p) r r' (p ∙ same-checked a b e unit destination direction ∙ sym q);
      hands_out = λ a b unit destination direction e. ap (λ (k : Answer). data_of k unit) (same-checked a b e unit destination direction);
      derives = λ a b ra rb e r r' p q.
          same-keys r r' (session_keys a ra rb) (session_keys b ra rb) p.made q.made (same_keys a b e ra rb) (p.said ∙ same-derived a b e ∙ sym q.said);
    }

-- ---- what is accepted is built

module _ (unit key destination : List ℕ) (direction : Bool) (d : List ℕ) (a : Accepts unit key destination direction d) where
  p : Passed unit key destination direction (length d)
  p = passed unit key destination direction (length d) a.answer

  -- the length of the unit
  unit-long : length unit ≡ length d + 9
  unit-long = omega (arith, p.number, between-true 9 1032 (length unit) p.long)

  handed_out : take (length d) (drop 1 unit) ≡ d
  unfolding part
  handed_out = sym (ap (λ (k : Answer). data_of k unit) a.answer) ∙ a.handed

  body_is : take (length unit - 8) unit ≡ header direction ∷ d
  body_is =
      let n = length unit - 8 in
      let e : n - 1 ≡ length d = omega (arith, unit-long) in
      let b : get_or unit 0 0 ≡ header direction = header-only direction (get_or unit 0 0) (and_right (leb 10 (length unit)) _ p.contents) in
      take-first unit n (omega (arith, unit-long)) (omega arith)
      ∙ ap₂ (λ (x k : ℕ). x ∷ take k (drop 1 unit)) b e ∙ ap (λ (z : List ℕ). header direction ∷ z) handed_out

  accepted-is : unit ≡ unit_of key destination direction d
  unfolding unit_of message body mac_of
  accepted-is =
      let n = length unit - 8 in
      let s : mac key destination (take n unit) ≡ drop n unit = same_true (mac key destination (take n unit)) (drop n unit) p.mac_right_lem in
      sym (take-append-drop n unit) ∙ ap₂ (λ (x y : List ℕ). x ++ y) body_is (sym s ∙ ap (mac key destination) body_is)

  accepted_built : IsBuilt unit key destination direction d
  accepted_built =
      let t : 10 ≤ length unit = leb-true 10 (length unit) (and_left (leb 10 (length unit)) _ p.contents) in
      record {
        triple = eqb-true (length key) 24 p.key_right;
        some = omega (arith, unit-long);
        most = omega (arith, unit-long, between-true 9 1032 (length unit) p.long);
        unit_is = accepted-is;
      }

-- ---- what is built is accepted

unit-accepted : (key destination : List ℕ) (direction : Bool) (d : List ℕ) → length key ≡ 24 → 1 ≤ length d → length d ≤ 1023
    → Accepts (unit_of key destination direction d) key destination direction d
unit-accepted key destination direction d k some most =
    let u = unit_of key destination direction d in
    let n : length u ≡ length d + 9 = length-unit key destination direction d in
    let l : between 9 1032 (length u) ≡ true = is-between 9 1032 (length u) (omega arith) (omega arith) in
    let m : same (mac key destination (body u)) (mac_of u) ≡ true =
    ap₂ (λ (x y : List ℕ). same (mac key destination x) y) (body-unit key destination direction d) (mac-unit key destination direction d) ∙ same_refl (mac key destination (message direction d)) in
    let c : right_contents direction u ≡ true =
    and_both (leb 10 (length u)) (right_header direction (get_or u 0 0)) (le-leb 10 (length u) (omega arith)) (ap (right_header direction) (first-unit key destination direction d) ∙ header_right direction) in
    let e : length u - 9 ≡ length d = omega arith in
    let a : checked u key destination direction ≡ gives (length d) = sym (all_right u key destination direction k l m c) ∙ ap gives e in
    record { answer = a; handed = ap (λ (k : Answer). data_of k u) a ∙ data_unit key destination direction d }

pub accepted-exactly-built : AcceptedExactlyBuilt
accepted-exactly-built =
    record {
      accepted_built = accepted_built;
      built_accepted = λ unit key destination direction d b.
          subst (λ (u : List ℕ). Accepts u key destination direction d) (sym b.unit_is) (unit-accepted key destination direction d b.triple b.some b.most);
    }

-- ---- what build writes is accepted

-- what a build that gives a number has passed
pub record Building (key d : List ℕ) (n : ℕ) : Type 0 where
  pub triple : length key ≡ 24
  pub range : (1 ≤ length d) × (length d ≤ 1023)
  pub number : length d + 9 ≡ n

building : (key d out : List ℕ) (n : ℕ) → built key d out ≡ gives n → Building key d n
unfolding built
building key d out n e =
    let a = asks-gives (eqb (length key) 24) 13 _ n e in
    let b = asks-gives (leb 1032 (length out)) 2 _ n a.1 in
    let c = asks-gives (between 1 1023 (length d)) 10 _ n b.1 in
    record { triple = eqb-true (length key) 24 a.0; range = between-true 1 1023 (length d) c.0; number = gives-number (length d + 9) n c.1 }

pub written-accepted : WrittenAccepted
written-accepted =
    record {
      back = λ key destination direction d out n e.
          let u = unit_of key destination direction d in
          let b = building key d out n e in
          let w : take n (buffer (built key d out) u out) ≡ u =
          ap (λ (k : Answer). take n (buffer k u out)) e ∙ splice_front out u n (length-unit key destination direction d ∙ b.number) in
          subst (λ (l : List ℕ). Accepts l key destination direction d) (sym w) (unit-accepted key destination direction d b.triple b.range.0 b.range.1);
    }

pub refused_build_writes_nothing : RefusedBuildWritesNothing
refused_build_writes_nothing =
    record { kept = λ key destination direction user out n e. ap (λ (k : Answer). buffer k (unit_of key destination direction user) out) e }

-- ---- parity

map_at : (f : ℕ → ℕ) (P : ℕ → Type 0) → ((b : ℕ) → P (f b)) → (xs : List ℕ) (i : ℕ) → i < length xs → P (get_or (map f xs) i 0)
map_at f P h [] i l = absurd (not-suc-le-zero l)
map_at f P h (x ∷ xs) zero l = h x
map_at f P h (x ∷ xs) (suc i) l = map_at f P h xs i (le_of_suc-le-suc l)

pub odd-parity : OddParity
unfolding session_keys
odd-parity =
    record {
      keys = λ kmac ra rb i h.
          let a = bytes_of_bits 8 (ks1 kmac ra rb) in
          let b = bytes_of_bits 8 (ks2 kmac ra rb) in
          let c = bytes_of_bits 8 (ks3 kmac ra rb) in
          let l : i < length (a ++ (b ++ c)) = omega (arith, length-keys kmac ra rb, length-map (a ++ (b ++ c)) odd) in
          map_at odd (λ (x : ℕ). ones x % 2 ≡ 1) odd-ones (a ++ (b ++ c)) i l;
      others = odd-high;
    }

pub one_answer : OneAnswer
one_answer =
    record {
      of_number = λ a b e. answer-one (λ made. 0) (λ m n p. refl) a b e;
      of_keys = λ kmac ra rb a b p q. same-keys a b (session_keys kmac ra rb) (session_keys kmac ra rb) p.made q.made refl (p.said ∙ sym q.said);
      of_build = λ a b e. answer-one (λ n. n) (λ m n p. p) a b e;
      of_check = λ a b e. answer-one (λ n. n) (λ m n p. p) a b e;
    }
