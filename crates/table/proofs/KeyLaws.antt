-- What a step writes shows the key in a MAC alone.
-- Assumes nothing.
use mathlib.Core.Path.{◌≡◌, refl, sym, ap, ◌∙◌, subst}
use mathlib.Core.Bool.{Bool, true, false, ◌||◌, not}
use mathlib.Core.List.{List, [], ◌++◌, append-nil}
use Prim.Native.Nat.{ℕ}
use lib.ListN.{length}
use Rattle.octets.specs.Bytes.{splice}
use Rattle.octets.proofs.BoolLaws.{clash}
use Rattle.authentication.specs.Mac.{mac}
use Rattle.authentication.specs.Unit.{unit_of}
use Rattle.units.specs.Units.{au2_mac, au2_unit, au3_mac, au3_unit, ar_mac, ar_unit}
use Rattle.table.specs.declared.Connection.{Connection}
use Rattle.table.specs.declared.Actions.{Actions}
use Rattle.table.specs.declared.State.TheVariants.{IDLE, WFTC, WFAR, DATA, WFAU3, WFRESP}
use Rattle.table.specs.declared.ToTransport.{ToTransport}
use Rattle.table.specs.declared.ToTransport.TheVariants.{Quiet, TConnReq, TConnResp, TDiscReq, TDiscReqDi, SendAu3, SendAr, SendDt}
use Rattle.table.specs.Table.{Next, stays, to, table, state_of, is}
use Rattle.table.specs.Steps.{Input, Asked, asked, carried, to_user, after, acts, done, Outcome, perform, step}
use Rattle.table.specs.Claims.{shown, bare, Seal, unsealed, sealed, Shows, OnlyMacsShowKeys}
use Rattle.table.proofs.StepLaws.{meets}
use Rattle.table.proofs.TableLaws.{every-square}
use Rattle.table.proofs.EndLaws.{step-done}

-- ---- a unit that goes out

abbrev front : ToTransport → Asked → List ℕ
front d a = shown d a.about.responder a.about.own a.about.ra a.about.rb a.verdict.why a.sent

record Sealed (d : ToTransport) (a : Asked) : Type 0 where
  pub seal : List ℕ
  pub unit_is : carried d a ≡ front d a ++ seal
  pub seal_is : Seal a.about.key (bare d) seal

sealed-unit : (d : ToTransport) (a : Asked) → Sealed d a
unfolding carried shown au2_unit au2_mac au3_unit au3_mac ar_unit ar_mac unit_of
sealed-unit Quiet a = record { seal = []; unit_is = refl; seal_is = unsealed }
sealed-unit TConnReq a = record { seal = []; unit_is = sym (append-nil _); seal_is = unsealed }
sealed-unit TConnResp a = record { seal = _; unit_is = refl; seal_is = sealed _ _ }
sealed-unit TDiscReq a = record { seal = []; unit_is = refl; seal_is = unsealed }
sealed-unit TDiscReqDi a = record { seal = []; unit_is = sym (append-nil _); seal_is = unsealed }
sealed-unit SendAu3 a = record { seal = _; unit_is = refl; seal_is = sealed _ _ }
sealed-unit SendAr a = record { seal = _; unit_is = refl; seal_is = sealed _ _ }
sealed-unit SendDt a = record { seal = _; unit_is = refl; seal_is = sealed _ _ }

-- ---- the key that the connection then has

-- in a square that sends a MAC the connection goes on
abbrev goes_on : Next → Bool
goes_on stays = false
goes_on (to s) = not (is IDLE s)

kept-key : (n : Next) (c about : Connection) → goes_on n ≡ true → (after n c about).key ≡ about.key
kept-key stays c about e = clash false e refl
kept-key (to IDLE) c about e = clash false e refl
kept-key (to WFTC) c about e = refl
kept-key (to WFAR) c about e = refl
kept-key (to DATA) c about e = refl
kept-key (to WFAU3) c about e = refl
kept-key (to WFRESP) c about e = refl

key-then : (i : Input) (c : Connection) → bare (meets i c).down ≡ false → (after (meets i c).next c (asked i c).about).key ≡ (asked i c).about.key
unfolding table
key-then i c h =
    kept-key (meets i c).next c (asked i c).about
    (go (bare (meets i c).down) (goes_on (meets i c).next) h
    (every-square (λ e s q. bare q.down || goes_on q.next) refl (asked i c).event (state_of c.state) (asked i c).verdict.when))
  where
    go : (x y : Bool) → x ≡ false → (x || y) ≡ true → y ≡ true
    go true y p q = clash true refl p
    go false y p q = q

resealed : (k l : List ℕ) {b : Bool} {m : List ℕ} → (b ≡ false → l ≡ k) → Seal k b m → Seal l b m
resealed k l e unsealed = unsealed
resealed k l e (sealed destination text) = subst (λ (k : List ℕ). Seal l false (mac k destination text)) (e refl) (sealed destination text)

-- ---- a step

shows-performed : (i : Input) (c : Connection) (out : List ℕ) → step i c out ≡ perform (meets i c) (asked i c) c out
    → Shows i c out (acts (to_user (meets i c).up (asked i c).verdict) (meets i c).down (meets i c).timer (length (carried (meets i c).down (asked i c))))
unfolding perform
shows-performed i c out p =
    let u = sealed-unit (meets i c).down (asked i c) in
    record {
      seal = u.seal;
      output_is = ap (λ (o : Outcome). o.output) p ∙ ap (splice out 0) u.unit_is;
      seal_is = resealed (asked i c).about.key (step i c out).connection.key (λ h. ap (λ (o : Outcome). o.connection.key) p ∙ key-then i c h) u.seal_is;
    }

pub only_macs_show_keys : OnlyMacsShowKeys
unfolding perform
only_macs_show_keys =
    record {
      shows = λ i c out a e.
          let p = step-done i c out a e in
          subst (λ (a : Actions). Shows i c out a) (same-acts (sym (ap (λ (o : Outcome). o.answer) p) ∙ e)) (shows-performed i c out p);
    }
  where
    same-acts : {a b : Actions} → done a ≡ done b → a ≡ b
    same-acts e = cc
