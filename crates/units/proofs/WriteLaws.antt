-- What is written: a part behind another, the strings of the MACs, and the units.
-- Assumes nothing.
use mathlib.Core.Path.{◌≡◌, refl, sym, ap, ap₂, ◌∙◌}
use mathlib.Core.List.{List, [], ◌∷◌, ◌++◌, append_assoc}
use Prim.Native.Nat.{ℕ, ◌+◌, ◌≤◌}
use native.Mathlib.Omega.{arith}
use lib.ListN.{length, get_or, take, set, replicate, length-append, length-replicate}
use Rattle.octets.specs.Bytes.{part, splice}
use Rattle.octets.proofs.PartLaws.{part-whole}
use Rattle.octets.proofs.SpliceLaws.{set-splice, splice-splice, splice_all, splice_front}
use Rattle.authentication.specs.Mac.{mac}
use Rattle.authentication.specs.Unit.{first_byte}
use Rattle.authentication.proofs.MacLaws.{length-mac}
use Rattle.units.specs.Units.{type_of, etcs_id, au2_text, au2_mac, au2_unit}

-- ---- parts one behind the other

-- the n bytes of w, copied behind the k bytes of v that are written
pub behind : (d s t v w : List ℕ) (k n : ℕ) → s ≡ splice d 0 v → length v ≡ k → t ≡ splice s k (part w 0 n) → length w ≡ n → k + n ≤ length d → t ≡ splice d 0 (v ++ w)
behind d s t v w k n p lv q lw h =
    let e : 0 + k ≡ k = omega arith in
    let r : 0 + k + length w ≤ length d = omega arith in
    q ∙ ap₂ (λ (x y : List ℕ). splice x k y) p (part-whole w n lw) ∙ ap (λ (i : ℕ). splice (splice d 0 v) i w) (sym e) ∙ splice-splice d 0 v w k lv r

-- the same with one byte before it
pub behind-first : (d t w : List ℕ) (x n : ℕ) → t ≡ splice (set d 0 x) 1 (part w 0 n) → length w ≡ n → 1 + n ≤ length d → t ≡ splice d 0 (x ∷ w)
behind-first d t w x n q lw h = behind d (set d 0 x) t (x ∷ []) w 1 n (set-splice d 0 x (omega arith)) refl q lw h

-- ---- the strings of the MACs

pub au2-string : (text rb id m1 m2 m3 : List ℕ) (caller : ℕ) → length text ≡ 13 → length rb ≡ 8 → id ≡ etcs_id caller → m1 ≡ splice (replicate 24 0) 0 (part text 0 13)
    → m2 ≡ splice m1 13 (part rb 0 8) → m3 ≡ splice m2 21 (part id 0 3) → m3 ≡ text ++ (rb ++ etcs_id caller)
au2-string text rb id m1 m2 m3 caller lt lr e e1 e2 e3 =
    let z : List ℕ = replicate 24 0 in
    let li : length id ≡ 3 = ap length e in
    let lz : length z ≡ 24 = length-replicate {A = ℕ} 24 0 in
    let l : length (text ++ rb) ≡ 21 = length-append text rb ∙ omega arith in
    let a : m1 ≡ splice z 0 text = e1 ∙ ap (splice z 0) (part-whole text 13 lt) in
    let b : m2 ≡ splice z 0 (text ++ rb) = behind z m1 m2 text rb 13 8 a lt e2 lr (omega arith) in
    let c : m3 ≡ splice z 0 ((text ++ rb) ++ id) = behind z m2 m3 (text ++ rb) id 21 3 b l e3 li (omega arith) in
    c ∙ splice_all z ((text ++ rb) ++ id) (omega (arith, length-append (text ++ rb) id)) ∙ append_assoc text rb id ∙ ap (λ (i : List ℕ). text ++ (rb ++ i)) e

pub au3-string : (ra rb m1 m2 : List ℕ) (first : ℕ) → length ra ≡ 8 → length rb ≡ 8 → m1 ≡ splice (set (replicate 17 0) 0 first) 1 (part rb 0 8) → m2 ≡ splice m1 9 (part ra 0 8)
    → m2 ≡ first ∷ rb ++ ra
au3-string ra rb m1 m2 first la lb e1 e2 =
    let z : List ℕ = replicate 17 0 in
    let lz : length z ≡ 17 = length-replicate {A = ℕ} 17 0 in
    let l : length (first ∷ rb) ≡ 9 = omega arith in
    let a : m1 ≡ splice z 0 (first ∷ rb) = behind-first z m1 rb first 8 e1 lb (omega arith) in
    let b : m2 ≡ splice z 0 (first ∷ rb ++ ra) = behind z m1 m2 (first ∷ rb) ra 9 8 a l e2 la (omega arith) in
    b ∙ splice_all z (first ∷ rb ++ ra) (omega (arith, length-append (first ∷ rb) ra))

-- ---- the units

pub text-put : (d s t id random : List ℕ) (first own : ℕ) → 13 ≤ length d → length random ≡ 8 → id ≡ etcs_id own
    → s ≡ splice d 0 (part (first ∷ get_or id 0 0 ∷ get_or id 1 0 ∷ get_or id 2 0 ∷ 1 ∷ []) 0 5) → t ≡ splice s 5 (part random 0 8)
    → t ≡ splice d 0 (first ∷ etcs_id own ++ (1 ∷ random))
unfolding part
text-put d s t id random first own h l e p q =
    let v = first ∷ get_or id 0 0 ∷ get_or id 1 0 ∷ get_or id 2 0 ∷ 1 ∷ [] in
    behind d s t v random 5 8 p refl q l h ∙ ap (λ (i : List ℕ). splice d 0 (first ∷ get_or i 0 0 ∷ get_or i 1 0 ∷ get_or i 2 0 ∷ 1 ∷ random)) e

pub sealed-put : (d t made key id m : List ℕ) (first destination : ℕ) → 9 ≤ length d → id ≡ etcs_id destination → made ≡ mac key id m → t ≡ splice (set d 0 first) 1 (part made 0 8)
    → t ≡ splice d 0 (first ∷ mac key (etcs_id destination) m)
sealed-put d t made key id m first destination h e f q =
    behind-first d t made first 8 q (ap length f ∙ length-mac key id m) h ∙ ap (λ (x : List ℕ). splice d 0 (first ∷ x)) (f ∙ ap (λ (i : List ℕ). mac key i m) e)

pub au2-sealed : (d t made key id m rb : List ℕ) (caller : ℕ) → id ≡ etcs_id caller → m ≡ take 13 d ++ (rb ++ etcs_id caller) → made ≡ mac key id m → t ≡ splice d 13 (part made 0 8)
    → t ≡ splice d 13 (au2_mac key caller rb (take 13 d))
unfolding au2_mac
au2-sealed d t made key id m rb caller e f g q =
    q ∙ ap (splice d 13) (part-whole made 8 (ap length g ∙ length-mac key id m) ∙ g ∙ ap₂ (mac key) e f)

pub au2-put : (d s t key ra rb : List ℕ) (own caller ety first : ℕ) → 21 ≤ length d → length ra ≡ 8 → ety ≡ type_of own → first ≡ first_byte ety 2 1
    → s ≡ splice d 0 (first ∷ etcs_id own ++ (1 ∷ ra)) → t ≡ splice s 13 (au2_mac key caller rb (take 13 s)) → t ≡ splice d 0 (au2_unit key own caller ra rb)
unfolding au2_unit au2_text au2_mac
au2-put d s t key ra rb own caller ety first h l e f p q =
    let v = first_byte (type_of own) 2 1 ∷ etcs_id own ++ (1 ∷ ra) in
    let n : length v ≡ 13 = omega arith in
    let w = au2_mac key caller rb v in
    let a : s ≡ splice d 0 v = p ∙ ap (λ (x : ℕ). splice d 0 (x ∷ etcs_id own ++ (1 ∷ ra))) (f ∙ ap (λ (y : ℕ). first_byte y 2 1) e) in
    let b : take 13 s ≡ v = ap (take 13) a ∙ splice_front d v 13 n in
    q ∙ ap₂ (λ (x y : List ℕ). splice x 13 (au2_mac key caller rb y)) a b
    ∙ splice-splice d 0 v w 13 n (omega (arith, length-mac key (etcs_id caller) (v ++ (rb ++ etcs_id caller))))
