-- Rows of parts: their words are good, and different rows have different words.
use Rattle.std.specs.Prelude.{◌≡◌, ℕ, zero, suc, ◌+◌, ◌^◌, ◌<◌, ◌≤◌, List, [], ◌∷◌, ◌++◌, map, length, take, drop, set, replicate, nat_lt, slice_index, slice_set, refl}
use Rattle.std.proofs.Common.{◌∙◌, sym, ap, ap₂, arith, lit<}
use Rattle.std.proofs.lemmas.List.{append_assoc, drop_more, get_or-replicate, length-map, length-replicate, length-take, map_push, set_at, take_all, take_more, take_more_set}
use Rattle.std.proofs.lemmas.Bool.{lt-ltb, le-ltb, cond-true, cond-false}
use Rattle.words.specs.Judged.{judged, verdict, Clean}
use Rattle.words.specs.Parts.{part_fault, parts_run, Small, IsMask, mask_faults}
use Rattle.words.specs.Words.{kind_judge, marked}
use Rattle.words.specs.declared.mask.Mask.{Mask}
use Rattle.words.specs.Judging.{judged_at, of_kind}

pub fits : (p : ℕ) → p < 2 ^ 28 → part_fault p ≡ 0
fits p h = cond-true (nat_lt p (2 ^ 28)) 0 10 (lt-ltb p (2 ^ 28) h)

pub too_wide : (p : ℕ) → 2 ^ 28 ≤ p → part_fault p ≡ 10
too_wide p h = cond-false (nat_lt p (2 ^ 28)) 0 10 (le-ltb p (2 ^ 28) h)

pub row_good : (ps : List ℕ) → Small ps → Clean (judged (replicate (length ps) (kind_judge 7)) (parts_run ps))
row_good [] small k = refl
row_good (p ∷ ps) small zero = of_kind 7 p (marked 7 p) (small 0) refl
row_good (p ∷ ps) small (suc k) = row_good ps (λ i. small (suc i)) k

-- the fault at a place is that of the part there
pub fault_at : (ps : List ℕ) (k : ℕ) → k < length ps → slice_index (map part_fault ps) k ≡ part_fault (slice_index ps k)
fault_at [] k h = absurd (omega arith)
fault_at (p ∷ ps) zero h = refl
fault_at (p ∷ ps) (suc k) h = fault_at ps k (omega arith)

pub row_clean : (ps : List ℕ) → Small ps → Clean (map part_fault ps)
row_clean [] small k = refl
row_clean (p ∷ ps) small zero = fits p (small 0)
row_clean (p ∷ ps) small (suc k) = row_clean ps (λ i. small (suc i)) k

pub row_apart : (ps qs : List ℕ) → parts_run ps ≡ parts_run qs → ps ≡ qs
row_apart [] [] e = refl
row_apart [] (q ∷ qs) e = let z : ◌≡◌ {A = ℕ} 0 1 = cc in absurd (omega arith)
row_apart (p ∷ ps) [] e = let z : ◌≡◌ {A = ℕ} 0 1 = cc in absurd (omega arith)
row_apart (p ∷ ps) (q ∷ qs) e =
    let first : marked 7 p ≡ marked 7 q = cc in
    let rest : parts_run ps ≡ parts_run qs = cc in
    let same : p ≡ q = omega arith in
    ap₂ ◌∷◌ same (row_apart ps qs rest)

-- one part more is read
pub read_more : (ws ps : List ℕ) (i b : ℕ) → i < length ws → i < length ps → marked 7 b ≡ slice_index ws i → take i ws ≡ parts_run (take i ps) → take (i + 1) ws ≡ parts_run (take (i + 1) (slice_set ps i b))
read_more ws ps i b l h e same =
    take_more ws i 0 l ∙ ap₂ (λ (f : List ℕ) (w : ℕ). f ++ w ∷ []) same (sym e) ∙ sym (map_push (marked 7) (take i ps) b)
    ∙ ap parts_run (sym (take_more_set ps i b h))

-- one part more is written
pub write_more : (out ps os : List ℕ) (i : ℕ) → i < length ps → length ps ≤ length os → out ≡ parts_run (take i ps) ++ drop i os → slice_set out i (marked 7 (slice_index ps i)) ≡ parts_run (take (i + 1) ps) ++ drop (i + 1) os
write_more out ps os i h room e =
    let w = marked 7 (slice_index ps i) in
    let long : length (parts_run (take i ps)) ≡ i = simp (length-map, length-take) (omega arith) in
    let opened : out ≡ parts_run (take i ps) ++ (slice_index os i ∷ drop (i + 1) os) = e ∙ ap (λ (t : List ℕ). parts_run (take i ps) ++ t) (drop_more os i 0 (omega arith)) in
    let front : parts_run (take (i + 1) ps) ≡ parts_run (take i ps) ++ w ∷ [] = ap parts_run (take_more ps i 0 h) ∙ map_push (marked 7) (take i ps) (slice_index ps i) in
    ap (λ (o : List ℕ). set o i w) opened ∙ set_at (parts_run (take i ps)) (slice_index os i) (drop (i + 1) os) w i long
    ∙ sym (append_assoc (parts_run (take i ps)) (w ∷ []) (drop (i + 1) os)) ∙ ap (λ (t : List ℕ). t ++ drop (i + 1) os) (sym front)

-- each word of a row of n parts has the same judge
pub row_judged : (n : ℕ) (ws : List ℕ) (k : ℕ) → k < n → slice_index (judged (replicate n (kind_judge 7)) ws) k ≡ verdict (kind_judge 7) ws k
row_judged n ws k h =
    let long : k < length (replicate n (kind_judge 7)) = simp length-replicate h in
    judged_at (kind_judge 7) (replicate n (kind_judge 7)) ws k long ∙ ap (λ (j : ℕ → ℕ). verdict j ws k) (get_or-replicate n k (kind_judge 7) (kind_judge 7) h)

-- what holds of the parts below the end holds of all
pub small_all : (ps : List ℕ) → ((k : ℕ) → k < length ps → slice_index ps k < 2 ^ 28) → Small ps
small_all [] h k = lit< tt
small_all (p ∷ ps) h zero = h 0 (omega arith)
small_all (p ∷ ps) h (suc k) = small_all ps (λ i l. h (suc i) (omega arith)) k

-- a mask has all of its four parts
pub four : (m : Mask) → length m.parts ≡ 4 → mask_faults m ≡ map part_fault m.parts
four m h = ap (map part_fault) (take_all 4 m.parts (omega arith))

pub mask_clean : (m : Mask) → IsMask m → Clean (mask_faults m)
mask_clean m is k = ap (λ (fs : List ℕ). slice_index fs k) (four m is.0) ∙ row_clean m.parts is.1 k
