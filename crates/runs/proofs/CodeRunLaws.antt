-- Demand 3 of the code, proved: a run of the code shows and leaves what the definitions say.
-- Assumes nothing.
use mathlib.Core.Path.{◌≡◌, refl, sym, ap, ap₂, ◌∙◌}
use mathlib.Core.List.{List, [], ◌∷◌, map}
use Prim.Native.Nat.{ℕ}
use lib.ListN.{length}
use Rattle.store.specs.declared.Limits.{Limits}
use Rattle.store.specs.Layout.{edition1, edition2}
use Rattle.store.specs.Store.{sound}
use Rattle.store.proofs.Theorems as Stores
use Rattle.session.specs.declared.Session.{Session}
use Rattle.session.specs.Sessions.{Beginning}
use Rattle.session.specs.Rules.{Answered, received_as}
use Rattle.session.proofs.AnswerLaws as Sessions
use Rattle.runs.specs.Calls.{Call, World, begun, received, searched, reply_of, seen, session_of, next, all_seen, final}
use Rattle.runs.specs.Alike.{AlikeCalls, no_calls, alike-begin, alike-message, alike-search}
use Rattle.runs.specs.Tally.{reply_in}
use Rattle.runs.specs.Secrecy.{Alike}
use Rattle.runs.specs.CodeRuns.{Handed, by-begin, by-message, by-search, CodeRun, code-ends, code-begin, code-message, code-search, SameHanded, same_none, same-begin, same-message, same-search, seen_by, reply_by, SecrecyOfCalls, CodeStaysSound, NeverSixOfCalls}
use Rattle.runs.specs.Sound.{none_says_unsound, StaysSound, NeverSaysUnsound}
use Rattle.runs.proofs.Theorem.{secrecy, runs-keep-sound, never-six}

-- ---- one run

record Follows (cs : List Call) (w : World) (hs : List Handed) (v : World) : Type 0 where
  seen_is : map seen_by hs ≡ all_seen cs w
  final_is : v ≡ final cs w

follows : {cs : List Call} {w v : World} {hs : List Handed} → CodeRun cs w hs v → Follows cs w hs v
unfolding all_seen final seen next
follows code-ends = record { seen_is = refl; final_is = refl }
follows (code-begin {cs = cs} {w = w} b k) =
    let f = follows k in
    let then : Beginning → World = λ a. record { session = session_of a w.session; store = w.store } in
    record {
      seen_is = ap₂ ◌∷◌ (ap₂ begun b.answer b.written) (f.seen_is ∙ ap (λ (a : Beginning). all_seen cs (then a)) b.answer);
      final_is = f.final_is ∙ ap (λ (a : Beginning). final cs (then a)) b.answer;
    }
follows (code-message {cs = cs} d k) =
    let f = follows k in
    let then : Session → List ℕ → World = λ e s. record { session = e; store = s } in
    record {
      seen_is =
          ap₂ ◌∷◌ (ap₂ (λ (a : Answered) (u : List ℕ). received a (reply_of a u) u) d.answer_is d.output_is)
          (f.seen_is ∙ ap₂ (λ (e : Session) (s : List ℕ). all_seen cs (then e s)) d.session_is d.store_is);
      final_is = f.final_is ∙ ap₂ (λ (e : Session) (s : List ℕ). final cs (then e s)) d.session_is d.store_is;
    }
follows (code-search p q k) = record { seen_is = ap₂ ◌∷◌ (ap₂ searched p (ap length q)) (follows k).seen_is; final_is = (follows k).final_is }

reply_in-seen_by : (hs : List Handed) → map reply_in (map seen_by hs) ≡ map reply_by hs
reply_in-seen_by [] = refl
reply_in-seen_by (by-begin r out ∷ hs) = ap (◌∷◌ []) (reply_in-seen_by hs)
reply_in-seen_by (by-message r out ∷ hs) = ap (◌∷◌ (reply_of (received_as r) out)) (reply_in-seen_by hs)
reply_in-seen_by (by-search r part ∷ hs) = ap (◌∷◌ []) (reply_in-seen_by hs)

-- ---- two runs

-- calls of which the same is seen hand back the same
same_by : {cs cs' : List Call} {w w' v v' : World} {hs hs' : List Handed} → AlikeCalls cs cs' → CodeRun cs w hs v → CodeRun cs' w' hs' v' → map seen_by hs ≡ map seen_by hs' → SameHanded hs hs'
same_by no_calls code-ends code-ends q = same_none
same_by (alike-begin own peer start out c) (code-begin {hs = hs} {after = after} {r = r} b k) (code-begin {hs = hs'} {after = after'} {r = r'} b' k') q =
    let a : r ≡ r' = (Sessions.one_answer).of_begin r r' (cc) in
    let o : after ≡ after' = cc in
    let l : map seen_by hs ≡ map seen_by hs' = cc in
    rw (a, o) (same-begin r' after' (same_by c k k' l))
same_by (alike-message m m' out x c) (code-message {hs = hs} {after = after} {r = r} d k) (code-message {hs = hs'} {after = after'} {r = r'} d' k') q =
    let a : r ≡ r' = (Sessions.one_answer).of_message r r' (cc) in
    let o : after ≡ after' = cc in
    let l : map seen_by hs ≡ map seen_by hs' = cc in
    rw (a, o) (same-message r' after' (same_by c k k' l))
same_by (alike-search peer t c) (code-search {hs = hs} {part = part} {r = r} f g k) (code-search {hs = hs'} {part = part'} {r = r'} f' g' k') q =
    let a : r ≡ r' = (Stores.one_answer).of_find r r' (cc) in
    let n : length part ≡ length part' = cc in
    let l : map seen_by hs ≡ map seen_by hs' = cc in
    rw a (same-search r' part part' n (same_by c k k' l))

pub secrecy_of_calls : SecrecyOfCalls
secrecy_of_calls =
    record {
      runs = λ cs cs' w w' v v' hs hs' q s c k k'.
          let a : Alike cs cs' w w' = secrecy.runs cs cs' w w' q s c in
          let f = follows k in
          let f' = follows k' in
          let p : map seen_by hs ≡ map seen_by hs' = f.seen_is ∙ a.same_seen ∙ sym f'.seen_is in
          let r : map reply_in (all_seen cs w) ≡ map reply_by hs = ap (map reply_in) (sym f.seen_is) ∙ reply_in-seen_by hs in
          record {
            same_handed = same_by c k k' p;
            same_replies = sym (reply_in-seen_by hs) ∙ ap (map reply_in) p ∙ reply_in-seen_by hs';
            same_session = rw (f.final_is, f'.final_is) a.same_session;
            alike_stores = rw (f.final_is, f'.final_is) a.alike_stores;
            told = rw (← r, f.final_is, f'.final_is) a.told;
            no_trace = rw (← r, f.final_is, f'.final_is) a.no_trace;
          };
    }

-- ---- the store of one

code-stays-sound : (L : Limits) → NeverSaysUnsound L → StaysSound L → CodeStaysSound L
code-stays-sound L never stays cs w v hs b h c k =
    let f = follows k in
    (ap none_says_unsound f.seen_is ∙ never cs w b h c, ap (λ (x : World). sound L x.store) f.final_is ∙ stays cs w b h c)

pub never_six_of_calls : NeverSixOfCalls
never_six_of_calls =
    record {
      in_edition_1 = code-stays-sound edition1 never-six.in_edition_1 runs-keep-sound.in_edition_1;
      in_edition_2 = code-stays-sound edition2 never-six.in_edition_2 runs-keep-sound.in_edition_2;
    }
