-- A block that agrees behind a shared prefix, or before a shared suffix, lengthens it.
use Rattle.std.specs.Prelude.{◌≡◌, ℕ, suc, ◌+◌, ◌-◌, ◌≤◌, ◌<◌, List, ◌++◌, length, take, drop, get_or}
use Rattle.std.proofs.Common.{ap, ap₂, sym, ◌∙◌, arith, take-append-drop}
use Rattle.std.proofs.Math.Seq.{take-add, drop-drop}
use Rattle.definition.specs.Prefix.{lcp, lcs}
use Rattle.definition.proofs.Prefixes.{lcp-take, lcp-max, lcp-le-left, lcp-le-right, lcs-drop, lcs-max, lcs-le-left, lcs-le-right}
use Rattle.definition.proofs.Steps.{lcp-next, lcp-stop, lcs-next, lcs-same}

pub further : (n k : ℕ) (xs ys : List ℕ) → n ≤ lcp xs ys → n + k ≤ length xs → n + k ≤ length ys
    → take k (drop n xs) ≡ take k (drop n ys) → n + k ≤ lcp xs ys
further n k xs ys h in_xs in_ys e =
    lcp-max (n + k) xs ys in_xs in_ys (rw (take-add n k xs, take-add n k ys) (ap₂ ◌++◌ (lcp-take n xs ys h) e))

-- the last n + k are k bases and then the last n
last_two : (n k : ℕ) (xs : List ℕ) → n + k ≤ length xs
    → drop (length xs - (n + k)) xs ≡ take k (drop (length xs - (n + k)) xs) ++ drop (length xs - n) xs
last_two n k xs h =
    let e : length xs - (n + k) + k ≡ length xs - n = omega arith in
    sym (take-append-drop k (drop (length xs - (n + k)) xs))
    ∙ ap (λ (l : List ℕ). take k (drop (length xs - (n + k)) xs) ++ l) (drop-drop k (length xs - (n + k)) xs ∙ ap (λ (m : ℕ). drop m xs) e)

pub further_back : (n k : ℕ) (xs ys : List ℕ) → n ≤ lcs xs ys → n + k ≤ length xs → n + k ≤ length ys
    → take k (drop (length xs - (n + k)) xs) ≡ take k (drop (length ys - (n + k)) ys) → n + k ≤ lcs xs ys
further_back n k xs ys h in_xs in_ys e =
    lcs-max (n + k) xs ys in_xs in_ys (last_two n k xs in_xs ∙ ap₂ ◌++◌ e (lcs-drop n xs ys h) ∙ sym (last_two n k ys in_ys))

-- a shared suffix that cannot grow is the longest
lcs-stop : (xs ys : List ℕ) (n : ℕ) → n ≤ lcs xs ys → n < length xs → n < length ys
    → (get_or xs (length xs - suc n) 0 ≡ get_or ys (length ys - suc n) 0 → ⊥) → n ≡ lcs xs ys
lcs-stop xs ys n h i j d = end (lcs xs ys) h (λ s. d (lcs-same xs ys n i j s))
  where
    end : (p : ℕ) → n ≤ p → (suc n ≤ p → ⊥) → n ≡ p
    end p h j = omega arith

from-the-end : (xs : List ℕ) (n : ℕ) → get_or xs (length xs - suc n) 0 ≡ get_or xs (length xs - 1 - n) 0
from-the-end xs n =
    let e : length xs - suc n ≡ length xs - 1 - n = omega arith in
    ap (λ (k : ℕ). get_or xs k 0) e

-- the pair before a shared suffix of n lengthens it, or ends it
module _ (xs ys : List ℕ) (n : ℕ) (i : n < length xs) (j : n < length ys) (shared : n ≤ lcs xs ys) where
  pub end-grows : get_or xs (length xs - 1 - n) 0 ≡ get_or ys (length ys - 1 - n) 0 → n + 1 ≤ lcs xs ys
  end-grows e = omega (arith, lcs-next xs ys n i j shared (from-the-end xs n ∙ e ∙ sym (from-the-end ys n)))

  pub end-stops : (get_or xs (length xs - 1 - n) 0 ≡ get_or ys (length ys - 1 - n) 0 → ⊥) → n ≡ lcs xs ys
  end-stops differ = lcs-stop xs ys n shared i j (λ e. differ (sym (from-the-end xs n) ∙ e ∙ from-the-end ys n))

-- what a shared beginning and a shared end, counted base by base, rest on, as sets that an attribute can name
pub ruleset beginnings = (lcp-le-left, lcp-le-right, lcp-next, lcp-stop)

pub ruleset endings = (lcs-le-left, lcs-le-right, end-grows, end-stops)
