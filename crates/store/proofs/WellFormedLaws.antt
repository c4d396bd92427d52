-- The entries of a sound store are well-formed, and stay so where one goes, one is changed, or one comes.
-- Assumes nothing.
use mathlib.Core.Path.{◌≡◌, refl, sym, ap, ◌∙◌, subst}
use mathlib.Core.Bool.{Bool, true, false, not}
use mathlib.Core.List.{List, [], ◌∷◌, ◌++◌, append-nil}
use mathlib.Core.Logic.{⊎_elim}
use Prim.Native.Nat.{ℕ, zero, suc, ◌+◌, ◌*◌, ◌≤◌, ◌<◌}
use native.Mathlib.Nat.{add-zero, zero-add, add-suc, suc-add, not-suc-le-zero, le_of_suc-le-suc, eq-or-lt_of_le}
use native.Mathlib.Omega.{arith}
use lib.ListN.{length, get_or, length-append, get_or-append}
use lib.Seq.{get_or_at}
use lib.Dec.{eqb}
use borrow.Author.Tests.{eq-eqb}
use Rattle.octets.specs.Bytes.{Bytes, get32}
use Rattle.octets.proofs.BoolLaws.{clash, and_both, all_below-at}
use Rattle.octets.proofs.PartLaws.{part_length, bytes-part}
use Rattle.octets.proofs.WordLaws.{get32-fits, numbers_fit}
use Rattle.store.specs.Layout.{record_at, peers_at}
use Rattle.store.specs.Store.{Entry, peers_of, entries, entries_from, entry_at, first, count, key_count, peer_count, same_key, new_key, all_odd, sound}
use Rattle.store.specs.Search.{pick_number, place_where}
use Rattle.store.specs.Request.{has_key, key_place, remove_at, update_at, valid_for, with_peers}
use Rattle.store.specs.WellFormed.{Fitting, Words, nobody, WellFormed}
use Rattle.store.specs.declared.Limits.{Limits}
use Rattle.store.proofs.EncodingLaws.{peers_of-append}
use Rattle.store.proofs.SoundLaws.{Sound, sound_says}
use Rattle.store.proofs.DecodeLaws.{entries-length, peers-length}

-- ---- the entries of a sound store

entries_from-at : (L : Limits) (s : List ℕ) (n i j : ℕ) → j < n → get_or (entries_from L s i n) j nobody ≡ entry_at L s (i + j)
unfolding entries_from
entries_from-at L s zero i j h = absurd (not-suc-le-zero h)
entries_from-at L s (suc n) i zero h = ap (entry_at L s) (sym (add-zero i))
entries_from-at L s (suc n) i (suc j) h = entries_from-at L s n (suc i) j (omega arith) ∙ ap (entry_at L s) (suc-add i j ∙ sym (add-suc i j))

pub entries_at : (L : Limits) (s : List ℕ) (i : ℕ) → i < key_count s → get_or (entries L s) i nobody ≡ entry_at L s i
unfolding entries
entries_at L s i h = entries_from-at L s (key_count s) 0 i h ∙ ap (entry_at L s) (zero-add i)

module _ (L : Limits) (s : List ℕ) (b : Bytes s) (w : Sound L s) where
  fitting-at : (i : ℕ) → i < key_count s → Fitting (entry_at L s i)
  fitting-at i h =
      let n_k : key_count s ≤ L.keys = w.keys_fit in
      let size : length s ≡ 12 + 44 * L.keys + 4 * L.peers = w.size in
      record {
        issuer_fits = get32-fits s b (record_at i);
        serial_fits = get32-fits s b (record_at i + 4);
        start_fits = get32-fits s b (record_at i + 32);
        end_fits = get32-fits s b (record_at i + 36);
        kmac_long = part_length s (record_at i + 8) 24 (omega arith);
        kmac_bytes = bytes-part s b (record_at i + 8) 24;
        peers_fit = record { fit = λ k l. numbers_fit s b (count s i) (peers_at L + 4 * first s i) k };
      }

  apart-at : (i j : ℕ) → j < i → i < key_count s → (entry_at L s i).issuer ≡ (entry_at L s j).issuer → (entry_at L s i).serial ≡ (entry_at L s j).serial → ⊥
  unfolding new_key
  apart-at i j l h p q =
      let t : not (same_key s i j) ≡ true = all_below-at i j (λ k. not (same_key s i k)) (w.unique i h) l in
      let u : same_key s i j ≡ true =
      and_both (eqb (get32 s (record_at i)) (get32 s (record_at j))) (eqb (get32 s (record_at i + 4)) (get32 s (record_at j + 4)))
      (eq-eqb (get32 s (record_at i)) (get32 s (record_at j)) p) (eq-eqb (get32 s (record_at i + 4)) (get32 s (record_at j + 4)) q) in
      clash (not (same_key s i j)) t (ap not u)

  sound-entries : WellFormed L (entries L s)
  sound-entries =
      let le : length (entries L s) ≡ key_count s = entries-length L s in
      let lp : length (peers_of (entries L s)) ≡ peer_count s = peers-length L s w in
      let inside : (i : ℕ) → i < length (entries L s) → i < key_count s = λ i h. subst (λ (x : ℕ). i < x) le h in
      record {
        keys_fit = subst (λ (x : ℕ). x ≤ L.keys) (sym le) w.keys_fit;
        peers_fit = subst (λ (x : ℕ). x ≤ L.peers) (sym lp) w.peers_fit;
        fitting = λ i h. subst Fitting (sym (entries_at L s i (inside i h))) (fitting-at i (inside i h));
        odd = λ i h. ap (λ (x : Entry). all_odd x.kmac) (entries_at L s i (inside i h)) ∙ w.parity i (inside i h);
        apart = λ i j l h p q.
            let hi : i < key_count s = inside i h in
            let hj : j < key_count s = omega arith in
            apart-at i j l hi
            (sym (ap (λ (x : Entry). x.issuer) (entries_at L s i hi)) ∙ p ∙ ap (λ (x : Entry). x.issuer) (entries_at L s j hj))
            (sym (ap (λ (x : Entry). x.serial) (entries_at L s i hi)) ∙ q ∙ ap (λ (x : Entry). x.serial) (entries_at L s j hj));
      }

pub sound-well_formed : (L : Limits) (s : List ℕ) → Bytes s → sound L s ≡ true → WellFormed L (entries L s)
sound-well_formed L s b h = sound-entries L s b (sound_says L s h)

-- ---- without one of the entries

-- where the entry that then stands at j stood before
moved : ℕ → ℕ → ℕ
moved zero j = suc j
moved (suc i) zero = zero
moved (suc i) (suc j) = suc (moved i j)

moved_at : (i j : ℕ) (es : List Entry) → get_or (remove_at i es) j nobody ≡ get_or es (moved i j) nobody
unfolding moved
moved_at zero j [] = refl
moved_at zero j (e ∷ es) = refl
moved_at (suc i) zero [] = refl
moved_at (suc i) zero (e ∷ es) = refl
moved_at (suc i) (suc j) [] = refl
moved_at (suc i) (suc j) (e ∷ es) = moved_at i j es

moved_in : (i j : ℕ) (es : List Entry) → j < length (remove_at i es) → moved i j < length es
unfolding moved
moved_in zero j [] h = absurd (not-suc-le-zero h)
moved_in zero j (e ∷ es) h = omega arith
moved_in (suc i) zero [] h = absurd (not-suc-le-zero h)
moved_in (suc i) zero (e ∷ es) h = omega arith
moved_in (suc i) (suc j) [] h = absurd (not-suc-le-zero h)
moved_in (suc i) (suc j) (e ∷ es) h = let r : moved i j < length es = moved_in i j es (omega arith) in omega arith

moved_mono : (i j k : ℕ) → j < k → moved i j < moved i k
unfolding moved
moved_mono zero j k h = omega arith
moved_mono (suc i) j zero h = absurd (not-suc-le-zero h)
moved_mono (suc i) zero (suc k) h = omega arith
moved_mono (suc i) (suc j) (suc k) h = let r : moved i j < moved i k = moved_mono i j k (omega arith) in omega arith

remove_at-length : (i : ℕ) (es : List Entry) → length (remove_at i es) ≤ length es
remove_at-length zero [] = omega arith
remove_at-length zero (e ∷ es) = omega arith
remove_at-length (suc i) [] = omega arith
remove_at-length (suc i) (e ∷ es) = let r : length (remove_at i es) ≤ length es = remove_at-length i es in omega arith

remove_at-peers : (i : ℕ) (es : List Entry) → length (peers_of (remove_at i es)) ≤ length (peers_of es)
unfolding peers_of
remove_at-peers zero [] = omega arith
remove_at-peers zero (e ∷ es) = omega (arith, length-append e.peers (peers_of es))
remove_at-peers (suc i) [] = omega arith
remove_at-peers (suc i) (e ∷ es) =
    let r : length (peers_of (remove_at i es)) ≤ length (peers_of es) = remove_at-peers i es in
    omega (arith, length-append e.peers (peers_of (remove_at i es)), length-append e.peers (peers_of es))

pub none-well_formed : (L : Limits) → WellFormed L []
unfolding peers_of
none-well_formed L =
    record {
      keys_fit = omega arith;
      peers_fit = omega arith;
      fitting = λ i l. absurd (not-suc-le-zero l);
      odd = λ i l. absurd (not-suc-le-zero l);
      apart = λ i j l h p q. absurd (not-suc-le-zero h);
    }

pub remove_at-well_formed : (L : Limits) (es : List Entry) (i : ℕ) → WellFormed L es → WellFormed L (remove_at i es)
remove_at-well_formed L es i g =
    let kf : length es ≤ L.keys = g.keys_fit in
    let pf : length (peers_of es) ≤ L.peers = g.peers_fit in
    record {
      keys_fit = omega (arith, remove_at-length i es);
      peers_fit = omega (arith, remove_at-peers i es);
      fitting = λ j h. subst Fitting (sym (moved_at i j es)) (g.fitting (moved i j) (moved_in i j es h));
      odd = λ j h. ap (λ (x : Entry). all_odd x.kmac) (moved_at i j es) ∙ g.odd (moved i j) (moved_in i j es h);
      apart = λ j k l h p q.
          g.apart (moved i j) (moved i k) (moved_mono i k j l) (moved_in i j es h)
          (sym (ap (λ (x : Entry). x.issuer) (moved_at i j es)) ∙ p ∙ ap (λ (x : Entry). x.issuer) (moved_at i k es))
          (sym (ap (λ (x : Entry). x.serial) (moved_at i j es)) ∙ q ∙ ap (λ (x : Entry). x.serial) (moved_at i k es));
    }

-- ---- with one of the entries changed

-- a change that keeps issuer, serial and key
record Keeps (g : Entry → Entry) : Type 0 where
  pub issuer_kept : (e : Entry) → (g e).issuer ≡ e.issuer
  pub serial_kept : (e : Entry) → (g e).serial ≡ e.serial
  pub kmac_kept : (e : Entry) → (g e).kmac ≡ e.kmac
  pub fitting_kept : (e : Entry) → Fitting e → Fitting (g e)

-- what the changed list has at a place, by what g keeps of an entry
update_keeps : {A : Type 0} (f : Entry → A) (g : Entry → Entry) → ((e : Entry) → f (g e) ≡ f e) → (i : ℕ) (es : List Entry) (j : ℕ)
    → f (get_or (update_at i g es) j nobody) ≡ f (get_or es j nobody)
unfolding update_at
update_keeps f g k i [] j = refl
update_keeps f g k zero (e ∷ es) zero = k e
update_keeps f g k zero (e ∷ es) (suc j) = refl
update_keeps f g k (suc i) (e ∷ es) zero = refl
update_keeps f g k (suc i) (e ∷ es) (suc j) = update_keeps f g k i es j

update_fitting : (g : Entry → Entry) → ((e : Entry) → Fitting e → Fitting (g e)) → (i : ℕ) (es : List Entry) (j : ℕ) → Fitting (get_or es j nobody) → Fitting (get_or (update_at i g es) j nobody)
unfolding update_at
update_fitting g k i [] j f = f
update_fitting g k zero (e ∷ es) zero f = k e f
update_fitting g k zero (e ∷ es) (suc j) f = f
update_fitting g k (suc i) (e ∷ es) zero f = f
update_fitting g k (suc i) (e ∷ es) (suc j) f = update_fitting g k i es j f

pub update_at-length : (i : ℕ) (g : Entry → Entry) (es : List Entry) → length (update_at i g es) ≡ length es
unfolding update_at
update_at-length i g [] = refl
update_at-length zero g (e ∷ es) = refl
update_at-length (suc i) g (e ∷ es) = ap suc (update_at-length i g es)

update_at-well_formed : (L : Limits) (es : List Entry) (i : ℕ) (g : Entry → Entry) → Keeps g
    → length (peers_of (update_at i g es)) ≤ L.peers → WellFormed L es → WellFormed L (update_at i g es)
update_at-well_formed L es i g k hp w =
    let ll : length (update_at i g es) ≡ length es = update_at-length i g es in
    let at : (j : ℕ) → j < length (update_at i g es) → j < length es = λ j h. subst (λ (x : ℕ). j < x) ll h in
    let issuer : (j : ℕ) → (get_or (update_at i g es) j nobody).issuer ≡ (get_or es j nobody).issuer = λ j. update_keeps (λ (x : Entry). x.issuer) g k.issuer_kept i es j in
    let serial : (j : ℕ) → (get_or (update_at i g es) j nobody).serial ≡ (get_or es j nobody).serial = λ j. update_keeps (λ (x : Entry). x.serial) g k.serial_kept i es j in
    record {
      keys_fit = subst (λ (x : ℕ). x ≤ L.keys) (sym ll) w.keys_fit;
      peers_fit = hp;
      fitting = λ j h. update_fitting g k.fitting_kept i es j (w.fitting j (at j h));
      odd = λ j h. ap all_odd (update_keeps (λ (x : Entry). x.kmac) g k.kmac_kept i es j) ∙ w.odd j (at j h);
      apart = λ j q l h p r. w.apart j q l (at j h) (sym (issuer j) ∙ p ∙ issuer q) (sym (serial j) ∙ r ∙ serial q);
    }

valid_for-peers : (i a b : ℕ) (es : List Entry) → peers_of (update_at i (valid_for a b) es) ≡ peers_of es
unfolding update_at peers_of
valid_for-peers i a b [] = refl
valid_for-peers zero a b (e ∷ es) = refl
valid_for-peers (suc i) a b (e ∷ es) = ap (λ (x : List ℕ). e.peers ++ x) (valid_for-peers i a b es)

pub valid_for-well_formed : (L : Limits) (es : List Entry) (i a b : ℕ) → a < 4294967296 → b < 4294967296 → WellFormed L es → WellFormed L (update_at i (valid_for a b) es)
valid_for-well_formed L es i a b ha hb w =
    update_at-well_formed L es i (valid_for a b)
    (record {
      issuer_kept = λ e. refl;
      serial_kept = λ e. refl;
      kmac_kept = λ e. refl;
      fitting_kept = λ e f. record { issuer_fits = f.issuer_fits; serial_fits = f.serial_fits; start_fits = ha; end_fits = hb; kmac_long = f.kmac_long; kmac_bytes = f.kmac_bytes; peers_fit = f.peers_fit };
    })
    (subst (λ (x : List ℕ). length x ≤ L.peers) (sym (valid_for-peers i a b es)) w.peers_fit) w

with_peers-peers : (ps : List ℕ) (i : ℕ) (es : List Entry) → length (peers_of (update_at i (with_peers ps) es)) ≤ length (peers_of (remove_at i es)) + length ps
unfolding update_at peers_of
with_peers-peers ps i [] = omega arith
with_peers-peers ps zero (e ∷ es) = omega (arith, length-append ps (peers_of es))
with_peers-peers ps (suc i) (e ∷ es) =
    let r : length (peers_of (update_at i (with_peers ps) es)) ≤ length (peers_of (remove_at i es)) + length ps = with_peers-peers ps i es in
    omega (arith, length-append e.peers (peers_of (update_at i (with_peers ps) es)), length-append e.peers (peers_of (remove_at i es)))

pub with_peers-well_formed : (L : Limits) (es : List Entry) (i : ℕ) (ps : List ℕ) → Words ps → length (peers_of (remove_at i es)) + length ps ≤ L.peers
    → WellFormed L es → WellFormed L (update_at i (with_peers ps) es)
with_peers-well_formed L es i ps f h w =
    update_at-well_formed L es i (with_peers ps)
    (record {
      issuer_kept = λ e. refl;
      serial_kept = λ e. refl;
      kmac_kept = λ e. refl;
      fitting_kept = λ e x. record { issuer_fits = x.issuer_fits; serial_fits = x.serial_fits; start_fits = x.start_fits; end_fits = x.end_fits; kmac_long = x.kmac_long; kmac_bytes = x.kmac_bytes; peers_fit = f };
    })
    (omega (arith, with_peers-peers ps i es)) w

-- ---- with one entry more

before-place : (b : Bool) (p n : ℕ) → suc n ≤ pick_number b 0 (suc p) → (b ≡ false) × (n ≤ p)
before-place true p n h = absurd (not-suc-le-zero h)
before-place false p n h = (refl, omega arith)

-- no entry has a key that is not held
not-held : (es : List Entry) (i s j : ℕ) → length es ≤ key_place i s es → j < length es → has_key i s (get_or es j nobody) ≡ false
unfolding place_where
not-held [] i s j h l = absurd (not-suc-le-zero l)
not-held (e ∷ es) i s zero h l = (before-place (has_key i s e) (key_place i s es) (length es) h).0
not-held (e ∷ es) i s (suc j) h l = not-held es i s j (before-place (has_key i s e) (key_place i s es) (length es) h).1 (omega arith)

module _ (es : List Entry) (e : Entry) where
  old-at : (j : ℕ) → j < length es → get_or (es ++ (e ∷ [])) j nobody ≡ get_or es j nobody
  old-at j l = get_or-append es (e ∷ []) nobody j l

  new-at : (j : ℕ) → j ≡ length es → get_or (es ++ (e ∷ [])) j nobody ≡ e
  new-at j q = get_or_at es e [] nobody j (sym q)

  -- what holds of each entry and of the new one
  of_all : (P : Entry → Type 0) → ((j : ℕ) → j < length es → P (get_or es j nobody)) → P e → (j : ℕ) → j < length (es ++ (e ∷ [])) → P (get_or (es ++ (e ∷ [])) j nobody)
  of_all P f p j l =
      ⊎_elim (λ (z : j ≡ length es). subst P (sym (new-at j z)) p)
      (λ (z : j < length es). subst P (sym (old-at j z)) (f j z))
      (eq-or-lt_of_le (le_of_suc-le-suc (omega (arith, length-append es (e ∷ [])))))

pub added-well_formed : (L : Limits) (es : List Entry) (e : Entry) → WellFormed L es → Fitting e → all_odd e.kmac ≡ true → length es < L.keys
    → length (peers_of es) + length e.peers ≤ L.peers → length es ≤ key_place e.issuer e.serial es → WellFormed L (es ++ (e ∷ []))
unfolding peers_of
added-well_formed L es e w f o hn hm new =
    record {
      keys_fit = omega (arith, length-append es (e ∷ []));
      peers_fit = subst (λ (x : ℕ). x ≤ L.peers)
          (sym (ap length (peers_of-append es (e ∷ []) ∙ ap (λ (x : List ℕ). peers_of es ++ x) (append-nil e.peers)) ∙ length-append (peers_of es) e.peers)) hm;
      fitting = of_all es e Fitting w.fitting f;
      odd = of_all es e (λ x. all_odd x.kmac ≡ true) w.odd o;
      apart = λ j q l b p r.
          let lq : q < length es = omega (arith, length-append es (e ∷ [])) in
          let sq : get_or (es ++ (e ∷ [])) q nobody ≡ get_or es q nobody = old-at es e q lq in
          ⊎_elim
          (λ (z : j ≡ length es).
          let x : Entry = get_or es q nobody in
          let sj : get_or (es ++ (e ∷ [])) j nobody ≡ e = new-at es e j z in
          let pi : x.issuer ≡ e.issuer = sym (ap (λ (y : Entry). y.issuer) sq) ∙ sym p ∙ ap (λ (y : Entry). y.issuer) sj in
          let ps : x.serial ≡ e.serial = sym (ap (λ (y : Entry). y.serial) sq) ∙ sym r ∙ ap (λ (y : Entry). y.serial) sj in
          clash (has_key e.issuer e.serial x)
          (and_both (eqb x.issuer e.issuer) (eqb x.serial e.serial) (eq-eqb x.issuer e.issuer pi) (eq-eqb x.serial e.serial ps))
          (not-held es e.issuer e.serial q new lq))
          (λ (z : j < length es).
          let sj : get_or (es ++ (e ∷ [])) j nobody ≡ get_or es j nobody = old-at es e j z in
          w.apart j q l z
          (sym (ap (λ (x : Entry). x.issuer) sj) ∙ p ∙ ap (λ (x : Entry). x.issuer) sq)
          (sym (ap (λ (x : Entry). x.serial) sj) ∙ r ∙ ap (λ (x : Entry). x.serial) sq))
          (eq-or-lt_of_le (le_of_suc-le-suc (omega (arith, length-append es (e ∷ [])))));
    }
