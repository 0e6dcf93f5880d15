-- The pairs that a table's bytes hold: how many there are, and that the pair at place i lies at byte 8 * i. Assumes nothing.
use mathlib.Core.Path.{◌≡◌, refl, ap, ◌∙◌}
use mathlib.Core.List.{List, [], ◌∷◌}
use Prim.Native.Nat.{ℕ, zero, suc, ◌+◌, ◌*◌, ◌/◌, ◌≤◌}
use native.Mathlib.Omega.{arith}
use lib.ListN.{length, drop, length-drop, drop_of_length-le}
use lib.Seq.{get_or-drop, drop-drop}
use Rattle.definition.specs.declared.Exon.{Exon}
use Rattle.definition.specs.Piece.{exon_from, exons_in}
use Rattle.tables.specs.Numbers.{number_at}

pub count : (t : List ℕ) → length (exons_in t) ≡ length t / 8
count (a ∷ b ∷ c ∷ d ∷ e ∷ f ∷ g ∷ h ∷ rest) = omega (arith, count rest)
count [] = omega arith
count (a ∷ []) = omega arith
count (a ∷ b ∷ []) = omega arith
count (a ∷ b ∷ c ∷ []) = omega arith
count (a ∷ b ∷ c ∷ d ∷ []) = omega arith
count (a ∷ b ∷ c ∷ d ∷ e ∷ []) = omega arith
count (a ∷ b ∷ c ∷ d ∷ e ∷ f ∷ []) = omega arith
count (a ∷ b ∷ c ∷ d ∷ e ∷ f ∷ g ∷ []) = omega arith

-- past the last pair there is none
pub no_more : (t : List ℕ) (i : ℕ) → length t / 8 ≤ i → drop i (exons_in t) ≡ []
no_more t i h = drop_of_length-le (exons_in t) {i = i} (omega (arith, count t))

-- at or past their number there is none
pub none_behind : (exons : List Exon) (i : ℕ) → length exons ≤ i → drop i exons ≡ []
none_behind exons i h = drop_of_length-le exons {i = i} h

first-pair : (t : List ℕ) → 8 ≤ length t → exons_in t ≡ exon_from (number_at t 0) (number_at t 4) ∷ exons_in (drop 8 t)
unfolding number_at
first-pair (a ∷ b ∷ c ∷ d ∷ e ∷ f ∷ g ∷ h ∷ rest) l = refl
first-pair [] l = absurd (omega arith)
first-pair (a ∷ []) l = absurd (omega arith)
first-pair (a ∷ b ∷ []) l = absurd (omega arith)
first-pair (a ∷ b ∷ c ∷ []) l = absurd (omega arith)
first-pair (a ∷ b ∷ c ∷ d ∷ []) l = absurd (omega arith)
first-pair (a ∷ b ∷ c ∷ d ∷ e ∷ []) l = absurd (omega arith)
first-pair (a ∷ b ∷ c ∷ d ∷ e ∷ f ∷ []) l = absurd (omega arith)
first-pair (a ∷ b ∷ c ∷ d ∷ e ∷ f ∷ g ∷ []) l = absurd (omega arith)

pairs-after : (i : ℕ) (t : List ℕ) → drop i (exons_in t) ≡ exons_in (drop (8 * i) t)
pairs-after zero t = refl
pairs-after (suc i) t =
    let e : 8 * suc i ≡ suc (suc (suc (suc (suc (suc (suc (suc (8 * i)))))))) = omega arith in
    rw e (go t (pairs-after i))
  where
    go : (t : List ℕ) → ((u : List ℕ) → drop i (exons_in u) ≡ exons_in (drop (8 * i) u))
        → drop (suc i) (exons_in t) ≡ exons_in (drop (suc (suc (suc (suc (suc (suc (suc (suc (8 * i))))))))) t)
    go (a ∷ b ∷ c ∷ d ∷ e ∷ f ∷ g ∷ h ∷ rest) ih = ih rest
    go [] ih = refl
    go (a ∷ []) ih = refl
    go (a ∷ b ∷ []) ih = refl
    go (a ∷ b ∷ c ∷ []) ih = refl
    go (a ∷ b ∷ c ∷ d ∷ []) ih = refl
    go (a ∷ b ∷ c ∷ d ∷ e ∷ []) ih = refl
    go (a ∷ b ∷ c ∷ d ∷ e ∷ f ∷ []) ih = refl
    go (a ∷ b ∷ c ∷ d ∷ e ∷ f ∷ g ∷ []) ih = refl

number-after : (n at : ℕ) (t : List ℕ) → number_at (drop n t) at ≡ number_at t (n + at)
unfolding number_at
number-after n at t =
    let e : n + (at + 1) ≡ n + at + 1 = omega arith in
    let f : n + (at + 2) ≡ n + at + 2 = omega arith in
    let g : n + (at + 3) ≡ n + at + 3 = omega arith in
    simp (get_or-drop, e, f, g)

-- the pair at place i, and the pairs after it
pub pair_at : (t : List ℕ) (i : ℕ) → 8 * i + 8 ≤ length t
    → drop i (exons_in t) ≡ exon_from (number_at t (8 * i)) (number_at t (8 * i + 4)) ∷ drop (i + 1) (exons_in t)
pair_at t i h =
    let e : 8 * i + 8 ≡ 8 * (i + 1) = omega arith in
    let f : drop 8 (drop (8 * i) t) ≡ drop (8 * (i + 1)) t = drop-drop 8 (8 * i) t ∙ ap (λ (n : ℕ). drop n t) e in
    let z : 8 * i + 0 ≡ 8 * i = omega arith in
    let first = first-pair (drop (8 * i) t) (omega (arith, length-drop (8 * i) t)) in
    rw (pairs-after i t, first, f, number-after (8 * i) 0 t, z, number-after (8 * i) 4 t, pairs-after (i + 1) t)
