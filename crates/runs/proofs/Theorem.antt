-- Demand 3, proved: two lists of alike calls, call by call.
-- Assumes nothing.
use mathlib.Core.Path.{◌≡◌, refl, ap, ◌∙◌, subst}
use mathlib.Core.Bool.{Bool, true, false, not, ◌&&◌}
use mathlib.Core.List.{List, ◌∷◌, map}
use Prim.Native.Nat.{ℕ}
use lib.ListN.{length}
use Rattle.std.specs.Prelude.{Option, Some, None}
use Rattle.octets.specs.Bytes.{Bytes}
use Rattle.octets.proofs.BoolLaws.{clash}
use Rattle.store.specs.declared.Limits.{Limits}
use Rattle.store.specs.Layout.{total, edition1, edition2, edition_in, edition_of}
use Rattle.store.specs.Store.{sound}
use Rattle.store.specs.Search.{Finding, find, key}
use Rattle.store.proofs.Theorems.{accepted-says-edition}
use Rattle.session.specs.declared.Session.{Session}
use Rattle.session.specs.Sessions.{Beginning, begin, begin_output}
use Rattle.session.specs.Rules.{Answered, Outcome, receive}
use Rattle.runs.specs.Calls.{Call, starts, brings, World, Seen, begun, received, searched, reply_of, seen, session_of, next, all_seen, final}
use Rattle.runs.specs.Alike.{AlikeCalls, AlikeStores, no_calls, alike-begin, alike-message, alike-search, sound_in, is_sound, held_in}
use Rattle.runs.specs.Tally.{Tag, tags, tally_from, message_in, reply_in}
use Rattle.runs.specs.Secrecy.{Secrecy}
use Rattle.runs.specs.Sound.{none_says_unsound, StaysSound, RunsKeepSound, NeverSaysUnsound, NeverSix}
use Rattle.runs.proofs.TwinLaws.{Twins, alike-twins, twins-alike, twins-told, twins-equal, find-same, key-size}
use Rattle.runs.proofs.StepLaws.{SameStep, receive-same}
use Rattle.runs.proofs.UnsoundLaws.{begin-never, message-never, search-never}

record SameRun (L : Limits) (cs cs' : List Call) (ts : List Tag) (w w' : World) : Type 0 where
  seen_is : all_seen cs w ≡ all_seen cs' w'
  session_is : (final cs w).session ≡ (final cs' w').session
  -- of the first run alone
  never_unsound : none_says_unsound (all_seen cs w) ≡ true
  twins : Twins L (tally_from ts (map message_in cs) (map message_in cs') (map reply_in (all_seen cs w))) (final cs w).store (final cs' w').store

-- an answer that does not say unsound, in front of others that do not
one_more_lem : (a b : Bool) → a ≡ false → b ≡ true → not a && b ≡ true
one_more_lem a b p q = rw (p, q)

run-same : {cs cs' : List Call} → AlikeCalls cs cs' → (L : Limits) (ts : List Tag) (w w' : World) → w.session ≡ w'.session → Twins L ts w.store w'.store
    → SameRun L cs cs' ts w w'
unfolding all_seen final tally_from seen next none_says_unsound
run-same no_calls L ts w w' q v = record { seen_is = refl; session_is = q; never_unsound = refl; twins = v }
run-same (alike-begin {cs = cs} {cs' = cs'} own peer start out r) L ts w w' q v =
    let c : Call = starts own peer start out in
    let b : Beginning = begin own peer start out in
    let k : SameRun L cs cs' ts (next c w) (next c w') = run-same r L ts (next c w) (next c w') (ap (session_of b) q) v in
    record {
      seen_is = ap (λ (l : List Seen). begun b (begin_output b own peer start out) ∷ l) k.seen_is;
      session_is = k.session_is;
      never_unsound = one_more_lem _ _ (begin-never own peer start out (begin_output b own peer start out)) k.never_unsound;
      twins = k.twins;
    }
run-same (alike-message {cs = cs} {cs' = cs'} m m' out x r) L ts w w' q v =
    let o : Outcome = receive w.session m w.store out in
    let o' : Outcome = receive w'.session m' w'.store out in
    let t : SameStep L m m' ts o o' =
    subst (λ (e : Session). SameStep L m m' ts o (receive e m' w'.store out)) q (receive-same L m m' ts x w.store w'.store out v w.session) in
    let k = run-same r L _ (next (brings m out) w) (next (brings m' out) w') t.session_is t.twins in
    record {
      seen_is =
          ap (λ (a : Answered). received a (reply_of a o.output) o.output ∷ all_seen cs (next (brings m out) w)) t.answer_is
          ∙ ap (λ (u : List ℕ). received o'.answer (reply_of o'.answer u) u ∷ all_seen cs (next (brings m out) w)) t.output_is
          ∙ ap (λ (l : List Seen). received o'.answer (reply_of o'.answer o'.output) o'.output ∷ l) k.seen_is;
      session_is = k.session_is;
      never_unsound = one_more_lem _ _ (message-never L w.store v.edition v.sound_is w.session m out) k.never_unsound;
      twins = k.twins;
    }
run-same (alike-search {cs = cs} {cs' = cs'} peer t r) L ts w w' q v =
    let s : List ℕ = w.store in
    let s' : List ℕ = w'.store in
    let k : SameRun L cs cs' ts w w' = run-same r L ts w w' q v in
    record {
      seen_is =
          ap (λ (a : Finding). searched a (length (key s peer t)) ∷ all_seen cs w) (find-same L v peer t)
          ∙ ap (λ (n : ℕ). searched (find s' peer t) n ∷ all_seen cs w) (key-size L v peer t)
          ∙ ap (λ (l : List Seen). searched (find s' peer t) (length (key s' peer t)) ∷ l) k.seen_is;
      session_is = k.session_is;
      never_unsound = one_more_lem _ _ (search-never L s v.edition v.sound_is peer t (length (key s peer t))) k.never_unsound;
      twins = k.twins;
    }

-- the edition of a sound store
sound-edition : (E : Option Limits) (s : List ℕ) → sound_in E s ≡ true → (L : Limits) × (E ≡ Some L) × (sound L s ≡ true)
sound-edition None s h = clash false h refl
sound-edition (Some L) s h = (L, refl, h)

pub secrecy : Secrecy
secrecy =
    record {
      runs = λ cs cs' w w' q a c.
          let p = sound-edition (edition_of (length w.store)) w.store a.sound in
          let L : Limits = p.0 in
          let ts : List Tag = tags (held_in w.store) (held_in w'.store) in
          let k : SameRun L cs cs' ts w w' = run-same c L ts w w' q (alike-twins L w.store w'.store a p.1 p.2) in
          record {
            same_seen = k.seen_is;
            same_session = k.session_is;
            alike_stores = twins-alike L k.twins;
            told = twins-told L k.twins;
            no_trace = twins-equal L k.twins;
          };
    }

-- ---- one run

-- a run beside itself, from a store that is sound in an edition
beside-itself : (L : Limits) → edition_of (total L) ≡ Some L → (cs : List Call) (w : World) → Bytes w.store → sound L w.store ≡ true → AlikeCalls cs cs
    → SameRun L cs cs (tags (held_in w.store) (held_in w.store)) w w
beside-itself L k cs w b h c =
    let s = w.store in
    let d : edition_of (length s) ≡ Some L = ap edition_of (accepted-says-edition.of_sound L s h).2 ∙ k in
    let i : is_sound s ≡ true = ap (λ (E : Option Limits). sound_in E s) d ∙ h in
    let a : AlikeStores s s = record { bytes = b; bytes' = b; sound = i; sound' = i; differ = record { same_length = refl; same_byte = λ j p. refl } } in
    run-same c L _ w w refl (alike-twins L s s a d h)

stays-sound : (L : Limits) → edition_of (total L) ≡ Some L → StaysSound L
stays-sound L k cs w b h c = (beside-itself L k cs w b h c).twins.sound_is

pub runs-keep-sound : RunsKeepSound
unfolding edition_of edition_in
runs-keep-sound = record { in_edition_1 = stays-sound edition1 refl; in_edition_2 = stays-sound edition2 refl }

never-says-unsound : (L : Limits) → edition_of (total L) ≡ Some L → NeverSaysUnsound L
never-says-unsound L k cs w b h c = (beside-itself L k cs w b h c).never_unsound

pub never-six : NeverSix
unfolding edition_of edition_in
never-six = record { in_edition_1 = never-says-unsound edition1 refl; in_edition_2 = never-says-unsound edition2 refl }
