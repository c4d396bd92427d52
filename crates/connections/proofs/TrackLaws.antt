-- After any list of events the connection holds, in each state, what the account of the session says.
-- Assumes nothing.
use mathlib.Core.Path.{◌≡◌, refl, sym, ap, ap₂, subst}
use mathlib.Core.Bool.{Bool, true, false, ◌&&◌, ◌||◌, cond}
use mathlib.Core.List.{List, [], ◌∷◌}
use Prim.Native.Nat.{ℕ}
use Rattle.octets.proofs.BoolLaws.{clash, and_left, and_right}
use Rattle.refusal.specs.House.{gives}
use Rattle.authentication.specs.Keys.{session_keys}
use Rattle.units.specs.Units.{random}
use Rattle.table.specs.declared.Connection.{Connection}
use Rattle.table.specs.declared.Kind.TheVariants.{Au3, Ar, Dt}
use Rattle.table.specs.declared.State.{State}
use Rattle.table.specs.declared.State.TheVariants.{IDLE, WFTC, WFAR, DATA, WFAU3, WFRESP}
use Rattle.table.specs.Table.{Event, SaConnReq, SaConnResp, SaDataReq, SaDiscReq, TConnInd, TConnConf, TDiscInd, AU3, AR, DT, TimeOut, Next, stays, to, Square, table, state_of, is}
use Rattle.table.specs.Steps.{Input, connect_request, connect_response, data_request, disconnect_request, connect_indication, connect_confirmation, disconnect_indication, unit_indication, time_out, asked, starts_set_up, with_state, moved, after, Outcome, perform}
use Rattle.table.proofs.StepLaws.{meets}
use Rattle.table.proofs.TableLaws.{same-state, every-square}
use Rattle.table.proofs.EndLaws.{Ends, short, unsendable, unfound, performed, step-ends}
use Rattle.connections.specs.Runs.{Account, tells, told, noted, Call, call, World, next, final, run, start}
use Rattle.connections.specs.Claims.{HoldsKmac, HoldsSessionKey, Holds, HoldsIn}

-- a connection with its account
abbrev Tracks : Connection → Account → Type 0
Tracks c h = Holds (state_of c.state) c h

-- ---- squares that tell nothing: the connection is kept, given up, or goes on with its session key

abbrev keyed : State → Bool
keyed IDLE = false
keyed WFTC = false
keyed WFAR = true
keyed DATA = true
keyed WFAU3 = true
keyed WFRESP = true

-- the square of this event is about the connection as it is
abbrev same : Event → Bool
same SaConnReq = false
same TConnInd = false
same TConnConf = false
same SaConnResp = true
same SaDataReq = true
same SaDiscReq = true
same TDiscInd = true
same AU3 = true
same AR = true
same DT = true
same TimeOut = true

abbrev lands : Event → State → Next → Bool
lands e s stays = true
lands e s (to s') = is IDLE s' || (same e && (keyed s && keyed s'))

about-same : (i : Input) (c : Connection) → same (asked i c).event ≡ true → (asked i c).about ≡ c
unfolding asked
about-same (connect_request acceptable own peer t rb store) c e = clash false e refl
about-same (connect_indication acceptable own t ra unit store) c e = clash false e refl
about-same (connect_confirmation unit) c e = clash false e refl
about-same connect_response c e = refl
about-same (data_request sent) c e = refl
about-same (disconnect_request reason sub) c e = refl
about-same (disconnect_indication reason unit) c e = refl
about-same (unit_indication kind unit) c e = refl
about-same time_out c e = refl

of_keyed : (s : State) (c : Connection) (h : Account) → keyed s ≡ true → Holds s c h → HoldsSessionKey c h
of_keyed IDLE c h e p = clash false e refl
of_keyed WFTC c h e p = clash false e refl
of_keyed WFAR c h e p = p
of_keyed DATA c h e p = p
of_keyed WFAU3 c h e p = p
of_keyed WFRESP c h e p = p

-- the state is no part of what is held
renamed : (c : Connection) (h : Account) (n : ℕ) → HoldsSessionKey c h → HoldsSessionKey (with_state c n) h
renamed c h n p =
    let m = p.named in
    record {
      named = record { own_is = m.own_is; peer_is = m.peer_is; role_is = m.role_is; rb_is = m.rb_is; place = m.place; was_found = m.was_found };
      ra_is = p.ra_is;
      key_is = p.key_is;
    }

in_next : (s : State) (c : Connection) (h : Account) → keyed s ≡ true → HoldsSessionKey c h → Tracks (moved c s) h
in_next IDLE c h e p = refl
in_next WFTC c h e p = clash false e refl
in_next WFAR c h e p = renamed c h 2 p
in_next DATA c h e p = renamed c h 3 p
in_next WFAU3 c h e p = renamed c h 4 p
in_next WFRESP c h e p = renamed c h 5 p

goes_on_lem : (i : Input) (c : Connection) (h : Account) (s : State) → Tracks c h → (same (asked i c).event && (keyed (state_of c.state) && keyed s)) ≡ true → Tracks (moved (asked i c).about s) h
goes_on_lem i c h s p e =
    let x = same (asked i c).event in
    let y = keyed (state_of c.state) in
    let k : (y && keyed s) ≡ true = and_right x (y && keyed s) e in
    subst (λ (c : Connection). Tracks (moved c s) h) (sym (about-same i c (and_left x (y && keyed s) e)))
    (in_next s c h (and_right y (keyed s) k) (of_keyed (state_of c.state) c h (and_left y (keyed s) k) p))

lands_tracks : (i : Input) (c : Connection) (h : Account) → Tracks c h → (n : Next) → lands (asked i c).event (state_of c.state) n ≡ true → Tracks (after n c (asked i c).about) h
lands_tracks i c h p stays e = p
lands_tracks i c h p (to IDLE) e = refl
lands_tracks i c h p (to WFTC) e = goes_on_lem i c h WFTC p e
lands_tracks i c h p (to WFAR) e = goes_on_lem i c h WFAR p e
lands_tracks i c h p (to DATA) e = goes_on_lem i c h DATA p e
lands_tracks i c h p (to WFAU3) e = goes_on_lem i c h WFAU3 p e
lands_tracks i c h p (to WFRESP) e = goes_on_lem i c h WFRESP p e

-- ---- squares that send an AU1, an AU2 or an AU3

abbrev goes_to : State → Next → Bool
goes_to s stays = false
goes_to s (to s') = is s s'

goes_to_lem : (s : State) (n : Next) → goes_to s n ≡ true → n ≡ to s
goes_to_lem s stays e = clash false e refl
goes_to_lem s (to s') e = ap to (sym (same-state s s' e))

abbrev telling_row : Event → State → Square → Bool
telling_row SaConnReq s q = goes_to WFTC q.next && starts_set_up q.down
telling_row TConnInd s q = goes_to WFAU3 q.next && starts_set_up q.down
telling_row TConnConf s q = goes_to WFAR q.next && is s WFTC
telling_row SaConnResp s q = false
telling_row SaDataReq s q = false
telling_row SaDiscReq s q = false
telling_row TDiscInd s q = false
telling_row AU3 s q = false
telling_row AR s q = false
telling_row DT s q = false
telling_row TimeOut s q = false

-- the search gave a place, where the square starts set-up
Searched : Input → Connection → Type 0
Searched i c = starts_set_up (meets i c).down ≡ true → (place : ℕ) × ((asked i c).search ≡ gives place)

moved_tracks : (n : Next) (s : State) (c about : Connection) (h : Account) → n ≡ to s → Tracks (moved about s) h → Tracks (after n c about) h
moved_tracks n s c about h e p = subst (λ (n : Next). Tracks (after n c about) h) (sym e) p

told_tracks : (i : Input) (c : Connection) (h : Account) → Tracks c h → Searched i c → telling_row (asked i c).event (state_of c.state) (meets i c) ≡ true
    → Tracks (after (meets i c).next c (asked i c).about) (told i h)
unfolding asked Searched
told_tracks (connect_request acceptable own peer t rb store) c h p f e =
    let i = connect_request acceptable own peer t rb store in
    let x = goes_to WFTC (meets i c).next in
    let g = f (and_right x (starts_set_up (meets i c).down) e) in
    moved_tracks (meets i c).next WFTC c (asked i c).about (told i h) (goes_to_lem WFTC (meets i c).next (and_left x (starts_set_up (meets i c).down) e))
    (record { named = record { own_is = refl; peer_is = refl; role_is = refl; rb_is = refl; place = g.0; was_found = g.1 }; key_is = refl })
told_tracks (connect_indication acceptable own t ra unit store) c h p f e =
    let i = connect_indication acceptable own t ra unit store in
    let x = goes_to WFAU3 (meets i c).next in
    let g = f (and_right x (starts_set_up (meets i c).down) e) in
    moved_tracks (meets i c).next WFAU3 c (asked i c).about (told i h) (goes_to_lem WFAU3 (meets i c).next (and_left x (starts_set_up (meets i c).down) e))
    (record { named = record { own_is = refl; peer_is = refl; role_is = refl; rb_is = refl; place = g.0; was_found = g.1 }; ra_is = refl; key_is = refl })
told_tracks (connect_confirmation unit) c h p f e =
    let i = connect_confirmation unit in
    let x = goes_to WFAR (meets i c).next in
    let k : HoldsKmac c h = subst (λ (s : State). Holds s c h) (same-state (state_of c.state) WFTC (and_right x (is (state_of c.state) WFTC) e)) p in
    let m = k.named in
    moved_tracks (meets i c).next WFAR c (asked i c).about (told i h) (goes_to_lem WFAR (meets i c).next (and_left x (is (state_of c.state) WFTC) e))
    (record {
      named = record { own_is = m.own_is; peer_is = m.peer_is; role_is = m.role_is; rb_is = m.rb_is; place = m.place; was_found = m.was_found };
      ra_is = refl;
      key_is = ap₂ (λ (k r : List ℕ). session_keys k (random unit) r) k.key_is m.rb_is;
    })
told_tracks connect_response c h p f e = clash false e refl
told_tracks (data_request sent) c h p f e = clash false e refl
told_tracks (disconnect_request reason sub) c h p f e = clash false e refl
told_tracks (disconnect_indication reason unit) c h p f e = clash false e refl
told_tracks (unit_indication Au3 unit) c h p f e = clash false e refl
told_tracks (unit_indication Ar unit) c h p f e = clash false e refl
told_tracks (unit_indication Dt unit) c h p f e = clash false e refl
told_tracks time_out c h p f e = clash false e refl

-- ---- a step, and a run

square_tracks : (i : Input) (c : Connection) (h : Account) → Tracks c h → Searched i c → Tracks (after (meets i c).next c (asked i c).about) (cond (tells (meets i c).down) (told i h) h)
unfolding table
square_tracks i c h p f =
    go (tells (meets i c).down)
    (every-square (λ e s q. cond (tells q.down) (telling_row e s q) (lands e s q.next)) refl (asked i c).event (state_of c.state) (asked i c).verdict.when)
  where
    go : (b : Bool) → cond b (telling_row (asked i c).event (state_of c.state) (meets i c)) (lands (asked i c).event (state_of c.state) (meets i c).next) ≡ true
        → Tracks (after (meets i c).next c (asked i c).about) (cond b (told i h) h)
    go true e = told_tracks i c h p f e
    go false e = lands_tracks i c h p (meets i c).next e

ends_tracks : (i : Input) (c : Connection) (h : Account) (out : List ℕ) {o : Outcome} → Ends i c out o → Tracks c h → Tracks o.connection (noted o.answer i h)
unfolding noted perform Searched
ends_tracks i c h out (short l) p = p
ends_tracks i c h out (unsendable e) p = p
ends_tracks i c h out (unfound n e f) p = p
ends_tracks i c h out (performed f) p = square_tracks i c h p f

final_tracks : (cs : List Call) (w : World) → HoldsIn w → HoldsIn (final cs w)
unfolding final next
final_tracks [] w p = p
final_tracks (call i out ∷ cs) w p = final_tracks cs (next (call i out) w) (ends_tracks i w.connection w.account out (step-ends i w.connection out) p)

pub run_holds : (cs : List Call) → HoldsIn (run cs)
unfolding run
run_holds cs = final_tracks cs start refl
