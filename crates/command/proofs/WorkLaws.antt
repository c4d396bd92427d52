-- The loop over the requests: what is left of them, applied to the store and the output as they are, gives what is to come.
-- Assumes nothing.
use mathlib.Core.Path.{◌≡◌, refl, sym, ap, ◌∙◌, subst}
use mathlib.Core.Bool.{true, ◌&&◌}
use mathlib.Core.List.{List, [], ◌∷◌}
use Prim.Native.Nat.{ℕ, zero, suc, ◌+◌, ◌-◌, ◌≤◌, ◌<◌}
use native.Mathlib.Nat.{add_assoc, sub-zero}
use native.Mathlib.Omega.{arith}
use lib.Dec.{leb}
use lib.ListN.{length, set}
use Rattle.octets.specs.Bytes.{Bytes, splice}
use Rattle.octets.proofs.BoolLaws.{and_left}
use Rattle.octets.proofs.SpliceLaws.{splice-none, splice-splice, set-splice}
use Rattle.store.specs.declared.Limits.{Limits}
use Rattle.store.specs.Layout.{Bounded}
use Rattle.store.specs.Store.{Entry, encode, entries, sound}
use Rattle.store.specs.Request.{after, Work, work}
use Rattle.store.specs.WellFormed.{WellFormed}
use Rattle.store.proofs.DecodeLaws.{encode-entries}
use Rattle.store.proofs.EncodeLaws.{entries-encode, encode-sound}
use Rattle.store.proofs.WellFormedLaws.{sound-well_formed}
use Rattle.store.proofs.RequestLaws.{after-well_formed}
use Rattle.requests.specs.Worked.{Worked}
use Rattle.message.specs.declared.Command.{Command}
use Rattle.message.proofs.ReadableLaws.{fields_fit, fields-rest, readable-at}
use Rattle.message.specs.Body.{size_at, fields_ok, fields_from, request_at, requests_from}
use Rattle.command.specs.Works.{Works}

-- a RESULT written in front of those that are to come
splice-one : (d : List ℕ) (i x : ℕ) (v : List ℕ) → i + suc (length v) ≤ length d → splice d i (x ∷ v) ≡ splice (set d i x) (i + 1) v
splice-one d i x v h =
    sym (splice-splice d i (x ∷ []) v 1 refl (omega arith)) ∙ ap (λ (y : List ℕ). splice y (i + 1) v) (sym (set-splice d i x (omega arith)))

module _ (L : Limits) (own : ℕ) (k : Command) (m : List ℕ) where
  -- the work of the n requests from index i on, on the entries es
  abbrev work_from : ℕ → ℕ → List Entry → Work
  work_from i n es = work L own (requests_from k m i n) es

  pub results-length : (n i : ℕ) (es : List Entry) → length (work_from i n es).results ≡ n
  unfolding work requests_from
  results-length zero i es = refl
  results-length (suc n) i es = ap suc (results-length n (i + size_at k m i) (after L own (request_at k m i) es))

  module _ (n : ℕ) (s₀ out₀ : List ℕ) where
    -- j requests are done, and the next stands at index i
    pub record Going (i j : ℕ) (s out : List ℕ) : Type 0 where
      pub well : WellFormed L (entries L s)
      pub whole : s ≡ encode L (entries L s)
      pub fields : fields_from k m i (n - j) ≡ true
      pub to-store : (work_from 22 n (entries L s₀)).left ≡ (work_from i (n - j) (entries L s)).left
      pub to-output : splice out₀ 23 (work_from 22 n (entries L s₀)).results ≡ splice out (23 + j) (work_from i (n - j) (entries L s)).results

    pub going_start : Bytes s₀ → sound L s₀ ≡ true → fields_from k m 22 n ≡ true → Going 22 0 s₀ out₀
    going_start b h f =
        record {
          well = sound-well_formed L s₀ b h;
          whole = encode-entries L s₀ b h;
          fields = rw sub-zero f;
          to-store = rw sub-zero;
          to-output = rw sub-zero;
        }

    pub going_sound : Bounded L → (i j : ℕ) (s out : List ℕ) → Going i j s out → sound L s ≡ true
    going_sound bd i j s out w = ap (sound L) w.whole ∙ encode-sound L (entries L s) bd w.well

    module _ (i j : ℕ) (s out : List ℕ) (w : Going i j s out) (l : j < n) where
      left : ℕ
      left = n - (j + 1)

      step : n - j ≡ suc left
      unfolding left
      step = omega arith

      next : fields_from k m i (suc left) ≡ true
      next = sym (ap (λ (x : ℕ). fields_from k m i x) step) ∙ w.fields

      pub next-ok : fields_ok k m i ≡ true
      unfolding fields_from
      next-ok = and_left (fields_ok k m i) (leb (i + size_at k m i) (length m) && fields_from k m (i + size_at k m i) left) next

      pub next_fits : i + size_at k m i ≤ length m
      next_fits = fields_fit k m left i next

      pub going_turn : Bounded L → Bytes m → length out ≡ length out₀ → 23 + n ≤ length out₀ → (size r : ℕ) (t : List ℕ) → size ≡ size_at k m i
          → Worked L own (request_at k m i) s t r → Going (i + size) (j + 1) t (set out (23 + j) r)
      unfolding work requests_from left
      going_turn bd b lo ho size r t es q =
          let a : List Entry = after L own (request_at k m i) (entries L s) in
          let g : WellFormed L a = after-well_formed L own (entries L s) w.well (request_at k m i) (readable-at k m b i next_fits) in
          let ee : entries L t ≡ a = ap (entries L) q.store_is ∙ entries-encode L a bd g in
          let v : List ℕ = (work_from (i + size_at k m i) left a).results in
          let lv : length v ≡ left = results-length left (i + size_at k m i) a in
          record {
            well = subst (WellFormed L) (sym ee) g;
            whole = q.store_is ∙ ap (encode L) (sym ee);
            fields = ap (λ (x : ℕ). fields_from k m (i + x) left) es ∙ fields-rest k m left i next;
            to-store = w.to-store ∙ ap (λ (x : ℕ). (work_from i x (entries L s)).left) step
                ∙ ap (λ (x : List Entry). (work_from (i + size_at k m i) left x).left) (sym ee)
                ∙ ap (λ (x : ℕ). (work_from (i + x) left (entries L t)).left) (sym es);
            to-output = w.to-output ∙ ap (λ (x : ℕ). splice out (23 + j) (work_from i x (entries L s)).results) step
                ∙ ap (λ (x : ℕ). splice out (23 + j) (x ∷ v)) (sym q.result_is)
                ∙ splice-one out (23 + j) r v (omega arith)
                ∙ ap (λ (x : List Entry). splice (set out (23 + j) r) (23 + j + 1) (work_from (i + size_at k m i) left x).results) (sym ee)
                ∙ ap (λ (x : ℕ). splice (set out (23 + j) r) (23 + j + 1) (work_from (i + x) left (entries L t)).results) (sym es)
                ∙ ap (λ (x : ℕ). splice (set out (23 + j) r) x (work_from (i + size) left (entries L t)).results) (add_assoc 23 j 1);
          }

    pub going_end : (i j : ℕ) (s out : List ℕ) → Going i j s out → n ≤ j → Works L own k m n s₀ s out₀ out
    unfolding work requests_from
    going_end i j s out w l =
        let z : n - j ≡ 0 = omega arith in
        record {
          store_is = w.whole ∙ ap (encode L) (sym (w.to-store ∙ ap (λ (x : ℕ). (work_from i x (entries L s)).left) z));
          output_is = sym (w.to-output ∙ ap (λ (x : ℕ). splice out (23 + j) (work_from i x (entries L s)).results) z ∙ splice-none out (23 + j));
        }
