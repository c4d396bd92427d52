-- The proofs of what specs/Claims.antt claims.
-- Assumes nothing.
use mathlib.Core.Path.{◌≡◌, refl, sym, ap, ◌∙◌}
use mathlib.Core.Bool.{Bool, true, false}
use mathlib.Core.List.{List, [], ◌∷◌, ◌++◌, append_assoc}
use Prim.Native.Nat.{ℕ}
use native.Mathlib.Omega.{arith}
use lib.ListN.{length, get_or, replicate, length-append}
use Rattle.octets.specs.Bytes.{be32, get16, part, nonzero}
use Rattle.octets.proofs.PartLaws.{part_mid}
use Rattle.octets.proofs.WordLaws.{get16-be16, get32-be32}
use Rattle.authentication.specs.Unit.{flag}
use Rattle.table.specs.declared.Connection.{Connection}
use Rattle.table.specs.declared.Kind.{Kind}
use Rattle.table.specs.declared.Kind.TheVariants.{Au3, Ar, Dt}
use Rattle.table.specs.declared.ToUser.{ToUser}
use Rattle.table.specs.declared.ToUser.TheVariants.{Nothing, ConnectIndication, ConnectConfirmation, DataIndication, DisconnectIndication, ReportIndication}
use Rattle.table.specs.Steps.{Answered, done, refused, step, kind_numbered}
use Rattle.table.proofs.Theorems.{refusal_leaves}
use Rattle.connection_buffer.specs.ConnectionBuffer.{head, connection_bytes, connection_of, events_with, transport_number, timer_number, kind_number, connection_after, events_after}
use Rattle.connection_buffer.specs.Claims.{Fitting, ReadAsWritten, ZerosAreIdle, ConnectionsChain, RefusalWritesNowhere, EventsAgree, KindsAreNumbered}
use Rattle.connection_buffer.proofs.LengthLaws.{data_most}
use Rattle.connection_buffer.proofs.FitLaws.{connection_of-fits, step_fits}

-- ---- a connection as bytes

alike : {state own own' peer peer' : ℕ} {responder responder' : Bool} {ra ra' rb rb' key key' : List ℕ} → responder ≡ responder' → own ≡ own' → peer ≡ peer' → ra ≡ ra' → rb ≡ rb' → key ≡ key'
    → ◌≡◌ {A = Connection} (record { state = state; responder = responder; own = own; peer = peer; ra = ra; rb = rb; key = key })
    (record { state = state; responder = responder'; own = own'; peer = peer'; ra = ra'; rb = rb'; key = key' })
alike p q r t u v = cc

nonzero-flag : (b : Bool) → nonzero (flag b) ≡ b
nonzero-flag true = refl
nonzero-flag false = refl

-- the part behind a and b
part-behind : (a b v rest : List ℕ) (i n : ℕ) → length (a ++ b) ≡ i → length v ≡ n → part (a ++ (b ++ (v ++ rest))) i n ≡ v
part-behind a b v rest i n p q = ap (λ (s : List ℕ). part s i n) (sym (append_assoc a b (v ++ rest))) ∙ part_mid (a ++ b) v rest i n p q

pub read_as_written : ReadAsWritten
read_as_written =
    record {
      same = λ c f.
          let zeros : List ℕ = replicate 12 0 in
          let keyed = c.key ++ zeros in
          let randoms = c.ra ++ (c.rb ++ keyed) in
          let role = flag c.responder in
          let front = head c.state role c.own c.peer in
          let two : length (front ++ c.ra) ≡ 20 = omega (arith, length-append front c.ra, f.ra_long) in
          let three : length (front ++ (c.ra ++ c.rb)) ≡ 28 = omega (arith, length-append front (c.ra ++ c.rb), length-append c.ra c.rb, f.ra_long, f.rb_long) in
          let key-read : part (connection_bytes c) 28 24 ≡ c.key =
          ap (λ (s : List ℕ). part (front ++ s) 28 24) (sym (append_assoc c.ra c.rb keyed)) ∙ part-behind front (c.ra ++ c.rb) c.key zeros 28 24 three f.key_long in
          alike (nonzero-flag c.responder)
          (get32-be32 (c.state ∷ role ∷ 0 ∷ 0 ∷ []) (be32 c.peer ++ randoms) c.own 4 refl f.own_fits)
          (get32-be32 (c.state ∷ role ∷ 0 ∷ 0 ∷ be32 c.own) randoms c.peer 8 refl f.peer_fits)
          (part_mid front c.ra (c.rb ++ keyed) 12 8 refl f.ra_long)
          (part-behind front c.ra c.rb keyed 20 8 two f.rb_long)
          key-read;
    }

pub zeros_are_idle : ZerosAreIdle
unfolding part
zeros_are_idle = record { read = refl; written = refl }

-- ---- calls in a row

-- the buffer after an answer is read as the connection: where it is written, and where a refusal leaves both
connection_of-after : (c : Connection) (b : List ℕ) → Fitting c → (a : Answered) → ((n : ℕ) → a ≡ refused n → c ≡ connection_of b) → connection_of (connection_after a c b) ≡ c
connection_of-after c b f (done a) k = read_as_written.same c f
connection_of-after c b f (refused n) k = sym (k n refl)

pub connections_chain : ConnectionsChain
connections_chain =
    record {
      of_step = λ i l b out h n told after events eventsThen output t.
          let c = connection_of b in
          ap connection_of t.connection_is
          ∙ connection_of-after (step i c out).connection b (step_fits i l c (connection_of-fits b h n) out) (step i c out).answer (refusal_leaves.connection_left i c out);
    }

pub refusal_writes_nowhere : RefusalWritesNowhere
refusal_writes_nowhere =
    record {
      as_they_were = λ i c out n q told before after events eventsThen output t. (
        t.connection_is ∙ ap (λ (a : Answered). connection_after a (step i c out).connection before) q,
        t.events_are ∙ ap (λ (a : Answered). events_after a (step i c out).connection events) q,
        t.output_is ∙ refusal_leaves.output_left i c out n q,
      );
    }

-- ---- events

state-told : (u : ToUser) (transport timer state : ℕ) → get_or (events_with u transport timer state) 3 0 ≡ state
state-told Nothing transport timer state = refl
state-told ConnectIndication transport timer state = refl
state-told ConnectConfirmation transport timer state = refl
state-told (DataIndication n) transport timer state = refl
state-told (DisconnectIndication why) transport timer state = refl
state-told (ReportIndication why) transport timer state = refl

pub events_agree : EventsAgree
events_agree =
    record {
      state = λ i c out a q told before after events eventsThen output t.
          let then = (step i c out).connection in
          ap (λ (e : List ℕ). get_or e 3 0) (t.events_are ∙ ap (λ (x : Answered). events_after x then events) q)
          ∙ state-told a.user (transport_number a.transport) (timer_number a.timer) then.state
          ∙ sym (ap (λ (b : List ℕ). get_or b 0 0) (t.connection_is ∙ ap (λ (x : Answered). connection_after x then before) q));
      data_length = λ i c out a n q u told before after events eventsThen output t.
          let then = (step i c out).connection in
          let transport = transport_number a.transport in
          let timer = timer_number a.timer in
          ap (λ (e : List ℕ). get16 e 6) (t.events_are ∙ ap (λ (x : Answered). events_after x then events) q ∙ ap (λ (x : ToUser). events_with x transport timer then.state) u)
          ∙ get16-be16 (3 ∷ transport ∷ timer ∷ then.state ∷ 0 ∷ 0 ∷ []) [] n 6 refl (data_most i c out a n q u);
    }

pub kinds_are_numbered : KindsAreNumbered
kinds_are_numbered = record { back = back }
  where
    back : (k : Kind) → kind_numbered (kind_number k) ≡ k
    back Au3 = refl
    back Ar = refl
    back Dt = refl
