-- One window of a move: how much two alleles share at one end once the chunk is beside both at the other, and what is then left of each.
-- Assumes nothing.
use Prim.Native.Nat.{ℕ, ◌+◌, ◌-◌, ◌%◌, ◌≤◌, min}
use native.Mathlib.Omega.{arith}
use mathlib.Core.Path.{◌≡◌, sym, ap, ap₂, ◌∙◌}
use mathlib.Core.List.{List, ◌++◌}
use lib.ListN.{length, take, drop}
use Rattle.std.proofs.lemmas.List.{drop-take}
use Rattle.definition.specs.declared.Direction.TheVariants.{Rightward, Leftward}
use Rattle.definition.specs.Prefix.{lcp, lcs}
use Rattle.alleles.specs.declared.Allele.{Allele}
use Rattle.alleles.specs.Held.{held, Holds}
use Rattle.alleles.proofs.Laws.{window-length}
use Rattle.alleles.proofs.EndsLaws.{front-fits, back-fits}
use Rattle.shuffle.specs.Windows.{WindowMoved}

-- r and a are the alleles before, r₁ and a₁ those with the chunk, r₂ and a₂ those after; of an empty allele and another, no more than the chunk is shared
module _ (r a r₁ a₁ : Allele) (chunk : List ℕ) (n : ℕ) (one : min r.count a.count ≡ 0) where
  module _ (er : Holds r₁ r.head (r.count + length chunk) (held r ++ chunk)) (ea : Holds a₁ a.head (a.count + length chunk) (held a ++ chunk))
      (shared : n ≡ lcp (held r₁) (held a₁)) where
    pub within-right : n ≤ length chunk
    within-right = omega (arith, one, er.count, ea.count, shared, front-fits r₁ a₁)

    pub moved-right : (r₂ a₂ : Allele)
        → Holds r₂ ((r₁.head + n) % 2048) r.count (take r.count (drop n (held r₁)))
        → Holds a₂ ((a₁.head + n) % 2048) a.count (take a.count (drop n (held a₁)))
        → WindowMoved Rightward r a chunk r₂ a₂ n
    moved-right r₂ a₂ nr na = record {
      windowed = record {
        count = shared ∙ ap₂ lcp er.bases ea.bases;
        within = within-right;
        reference = nr.bases ∙ ap₂ (λ (k : ℕ) (l : List ℕ). take k (drop n l)) (sym (window-length r.bytes r.head r.count)) er.bases;
        alternative = na.bases ∙ ap₂ (λ (k : ℕ) (l : List ℕ). take k (drop n l)) (sym (window-length a.bytes a.head a.count)) ea.bases;
      };
      reference = record { head = nr.head ∙ ap (λ (h : ℕ). (h + n) % 2048) er.head; count = nr.count };
      alternative = record { head = na.head ∙ ap (λ (h : ℕ). (h + n) % 2048) ea.head; count = na.count };
    }

  module _ (er : Holds r₁ ((r.head + 2048 - length chunk) % 2048) (r.count + length chunk) (chunk ++ held r))
      (ea : Holds a₁ ((a.head + 2048 - length chunk) % 2048) (a.count + length chunk) (chunk ++ held a))
      (shared : n ≡ lcs (held r₁) (held a₁)) where
    pub within-left : n ≤ length chunk
    within-left = omega (arith, one, er.count, ea.count, shared, back-fits r₁ a₁)

    -- what is left of one of them
    kept : (x x₁ : Allele) → held x₁ ≡ chunk ++ held x
        → take x.count (drop (length chunk - n) (held x₁)) ≡ drop (length chunk - n) (take (length chunk + length (held x) - n) (chunk ++ held x))
    kept x x₁ e =
        let size : length chunk - n + x.count ≡ length chunk + length (held x) - n = omega (arith, within-left, window-length x.bytes x.head x.count) in
        sym (drop-take (length chunk - n) x.count (held x₁))
        ∙ ap₂ (λ (k : ℕ) (l : List ℕ). drop (length chunk - n) (take k l)) size e

    back : (h h₁ : ℕ) → length chunk ≤ 2048 → h₁ ≡ (h + 2048 - length chunk) % 2048 → (h₁ + (length chunk - n)) % 2048 ≡ (h + 2048 - n) % 2048
    back h h₁ room e = omega (arith, e, within-left)

    pub moved-left : (r₂ a₂ : Allele) → length chunk ≤ 2048
        → Holds r₂ ((r₁.head + (length chunk - n)) % 2048) r.count (take r.count (drop (length chunk - n) (held r₁)))
        → Holds a₂ ((a₁.head + (length chunk - n)) % 2048) a.count (take a.count (drop (length chunk - n) (held a₁)))
        → WindowMoved Leftward r a chunk r₂ a₂ n
    moved-left r₂ a₂ room nr na = record {
      windowed = record {
        count = shared ∙ ap₂ lcs er.bases ea.bases;
        within = within-left;
        reference = nr.bases ∙ kept r r₁ er.bases;
        alternative = na.bases ∙ kept a a₁ ea.bases;
      };
      reference = record { head = nr.head ∙ back r.head r₁.head room er.head; count = nr.count };
      alternative = record { head = na.head ∙ back a.head a₁.head room ea.head; count = na.count };
    }
