-- Laws of the table: each row is found; and a computed test of every row and of every blank square holds of every square that an event can meet.
-- Assumes nothing.
use mathlib.Core.Path.{◌≡◌, refl, sym, ap, ◌∙◌, subst, subst₂}
use mathlib.Core.Bool.{Bool, true, false, ◌&&◌, ◌||◌, not, cond}
use mathlib.Core.List.{List, [], ◌∷◌}
use Prim.Native.Nat.{ℕ, zero, suc}
use lib.Dec.{eqb}
use borrow.Author.Tests.{eqb-true}
use Rattle.octets.proofs.BoolLaws.{clash, and_left, and_right}
use Rattle.table.specs.declared.State.{State}
use Rattle.table.specs.declared.State.TheVariants.{IDLE, WFTC, WFAR, DATA, WFAU3, WFRESP}
use Rattle.table.specs.Table.{Event, SaConnReq, SaConnResp, SaDataReq, SaDiscReq, TConnInd, TConnConf, TDiscInd, AU3, AR, DT, TimeOut, Judged, to, Square, square_of, Row, row, table, state_code, is, event_code, agrees, row_in, filled, blank, square}
use Rattle.table.specs.Claims.{RowsFound}

pub rows-found : RowsFound
unfolding table square row_in
rows-found =
    record {
      rows = refl;
      found_all =
          (refl, (refl, (refl, (refl, (refl, (refl, (refl, (refl, (refl, (refl, (refl, (refl, (refl, (refl, (refl, (refl, (refl, (refl, (refl, (refl, (refl, (refl, (refl, (refl, (refl, (refl, tt))))))))))))))))))))))))));
    }

-- ---- tests of all events and of all states

-- the element at a place, the last past the end; and a test of all
abbrev pick : {A : Type 0} → A → List A → ℕ → A
pick x [] n = x
pick x (y ∷ ys) zero = x
pick x (y ∷ ys) (suc n) = pick y ys n

abbrev every : {A : Type 0} → (A → Bool) → A → List A → Bool
every p x [] = p x
every p x (y ∷ ys) = p x && every p y ys

every-pick : {A : Type 0} (p : A → Bool) (x : A) (xs : List A) → every p x xs ≡ true → (n : ℕ) → p (pick x xs n) ≡ true
every-pick p x [] h n = h
every-pick p x (y ∷ ys) h zero = and_left (p x) (every p y ys) h
every-pick p x (y ∷ ys) h (suc n) = every-pick p y ys (and_right (p x) (every p y ys) h) n

abbrev event_at : ℕ → Event
event_at = pick SaConnReq (SaConnResp ∷ SaDataReq ∷ SaDiscReq ∷ TConnInd ∷ TConnConf ∷ TDiscInd ∷ AU3 ∷ AR ∷ DT ∷ TimeOut ∷ [])

abbrev state_at : ℕ → State
state_at = pick IDLE (WFTC ∷ WFAR ∷ DATA ∷ WFAU3 ∷ WFRESP ∷ [])

event-back : (e : Event) → event_at (event_code e) ≡ e
event-back SaConnReq = refl
event-back SaConnResp = refl
event-back SaDataReq = refl
event-back SaDiscReq = refl
event-back TConnInd = refl
event-back TConnConf = refl
event-back TDiscInd = refl
event-back AU3 = refl
event-back AR = refl
event-back DT = refl
event-back TimeOut = refl

state-back : (s : State) → state_at (state_code s) ≡ s
state-back IDLE = refl
state-back WFTC = refl
state-back WFAR = refl
state-back DATA = refl
state-back WFAU3 = refl
state-back WFRESP = refl

pub same-event : (e e' : Event) → eqb (event_code e) (event_code e') ≡ true → e ≡ e'
same-event e e' h = sym (event-back e) ∙ ap event_at (eqb-true (event_code e) (event_code e') h) ∙ event-back e'

pub same-state : (s s' : State) → is s s' ≡ true → s ≡ s'
same-state s s' h = sym (state-back s) ∙ ap state_at (eqb-true (state_code s) (state_code s') h) ∙ state-back s'

abbrev pub every_state : (State → Bool) → Bool
every_state p = every p IDLE (WFTC ∷ WFAR ∷ DATA ∷ WFAU3 ∷ WFRESP ∷ [])

pub every-state : (p : State → Bool) → every_state p ≡ true → (s : State) → p s ≡ true
every-state p h s =
    subst (λ (s : State). p s ≡ true) (state-back s) (every-pick p IDLE (WFTC ∷ WFAR ∷ DATA ∷ WFAU3 ∷ WFRESP ∷ []) h (state_code s))

abbrev pub every_event : (Event → Bool) → Bool
every_event p = every p SaConnReq (SaConnResp ∷ SaDataReq ∷ SaDiscReq ∷ TConnInd ∷ TConnConf ∷ TDiscInd ∷ AU3 ∷ AR ∷ DT ∷ TimeOut ∷ [])

pub every-event : (p : Event → Bool) → every_event p ≡ true → (e : Event) → p e ≡ true
every-event p h e =
    subst (λ (e : Event). p e ≡ true) (event-back e)
    (every-pick p SaConnReq (SaConnResp ∷ SaDataReq ∷ SaDiscReq ∷ TConnInd ∷ TConnConf ∷ TDiscInd ∷ AU3 ∷ AR ∷ DT ∷ TimeOut ∷ []) h (event_code e))

-- ---- a test of all squares

abbrev pub all_rows : (Event → State → Square → Bool) → List Row → Bool
all_rows p [] = true
all_rows p (row e s j up down timer next ∷ rs) = p e s (square_of up down timer (to next)) && all_rows p rs

row_has : (p : Event → State → Square → Bool) (rs : List Row) → all_rows p rs ≡ true → (e : Event) (s : State) (j : Judged) (q : Square) → p e s q ≡ true
    → p e s (row_in rs e s j q) ≡ true
unfolding row_in
row_has p [] h e s j q b = b
row_has p (row e' s' j' up down timer next ∷ rs) h e s j q b =
    go (eqb (event_code e') (event_code e)) (is s' s) (agrees j' j) refl refl (row_has p rs (and_right (p e' s' here) (all_rows p rs) h) e s j q b)
  where
    here : Square
    here = square_of up down timer (to next)

    go : (x y z : Bool) → eqb (event_code e') (event_code e) ≡ x → is s' s ≡ y → p e s (row_in rs e s j q) ≡ true
        → p e s (cond (x && (y && z)) (square_of up down timer (to next)) (row_in rs e s j q)) ≡ true
    go true true true f g r =
        subst₂ (λ (e : Event) (s : State). p e s (square_of up down timer (to next)) ≡ true) (same-event e' e f) (same-state s' s g) (and_left (p e' s' here) (all_rows p rs) h)
    go true true false f g r = r
    go true false z f g r = r
    go false y z f g r = r

-- what holds of every row, and of every blank square, holds of every square
abbrev pub every_square : (Event → State → Square → Bool) → Bool
every_square p = all_rows p table && every_event (λ e. every_state (λ s. p e s (blank e s)))

pub every-square : (p : Event → State → Square → Bool) → every_square p ≡ true → (e : Event) (s : State) (j : Judged) → p e s (square e s j) ≡ true
unfolding square
every-square p h e s j =
    let rows = and_left (all_rows p table) (every_event (λ e. every_state (λ s. p e s (blank e s)))) h in
    let blanks = and_right (all_rows p table) (every_event (λ e. every_state (λ s. p e s (blank e s)))) h in
    row_has p table rows e s j (blank e s) (every-state (λ s. p e s (blank e s)) (every-event (λ e. every_state (λ s. p e s (blank e s))) blanks e) s)

-- a square without a row is blank
row-none : (rs : List Row) (e : Event) (s : State) (j : Judged) (q : Square) → filled rs e s ≡ false → row_in rs e s j q ≡ q
unfolding row_in filled
row-none [] e s j q h = refl
row-none (row e' s' j' up down timer next ∷ rs) e s j q h = go (eqb (event_code e') (event_code e)) (is s' s) (agrees j' j) h (row-none rs e s j q)
  where
    go : (x y z : Bool) → ((x && y) || filled rs e s) ≡ false → (filled rs e s ≡ false → row_in rs e s j q ≡ q)
        → cond (x && (y && z)) (square_of up down timer (to next)) (row_in rs e s j q) ≡ q
    go true true z f r = clash false (sym f) refl
    go true false z f r = r f
    go false y z f r = r f

-- and so is every square of an event that has rows in the state t alone, in another state
abbrev pub alone : Event → State → Bool
alone e t = every_state (λ s. is t s || not (filled table e s))

pub elsewhere : (e : Event) (t s : State) → alone e t ≡ true → (s ≡ t → ⊥) → filled table e s ≡ false
elsewhere e t s h other = go (is t s) (filled table e s) refl (every-state (λ s. is t s || not (filled table e s)) h s)
  where
    go : (x y : Bool) → is t s ≡ x → (x || not y) ≡ true → y ≡ false
    go true y p q = absurd (other (sym (same-state t s p)))
    go false false p q = refl
    go false true p q = clash false q refl

pub blank-square : (e : Event) (s : State) (j : Judged) → filled table e s ≡ false → square e s j ≡ blank e s
unfolding square
blank-square e s j h = row-none table e s j (blank e s) h
