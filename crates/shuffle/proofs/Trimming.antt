-- What is counted of two alleles is what the definition trims: rightward the front first, leftward the back. Assumes nothing.
use mathlib.Core.Path.{◌≡◌, ap, ap₂, ◌∙◌}
use mathlib.Core.List.{List}
use Prim.Native.Nat.{ℕ, ◌-◌}
use lib.ListN.{length, take, drop}
use Rattle.std.proofs.lemmas.List.{take_rest}
use Rattle.definition.specs.declared.Direction.TheVariants.{Rightward, Leftward}
use Rattle.definition.specs.Prefix.{lcp, lcs}
use Rattle.definition.specs.Change.{trimmed_front, trimmed_end}
use Rattle.definition.proofs.Prefixes.{lcp-le-left, lcp-le-right, lcs-le-left, lcs-le-right}
use Rattle.shuffle.specs.Settled.{Shares}

module _ (reference alternative : List ℕ) {front back : ℕ} where
  -- the rests are lent as they stand here
  pub front-first : front ≡ lcp reference alternative
      → back ≡ lcs (take (length reference - front) (drop front reference)) (take (length alternative - front) (drop front alternative))
      → Shares Rightward reference alternative (record { front = front; back = back })
  unfolding trimmed_front trimmed_end
  front-first e b = record { front = e; back = b ∙ ap₂ lcs (take_rest reference front) (take_rest alternative front) ∙ ap (λ (n : ℕ). lcs (drop n reference) (drop n alternative)) e }

  pub back-first : back ≡ lcs reference alternative
      → front ≡ lcp (take (length reference - back) reference) (take (length alternative - back) alternative)
      → Shares Leftward reference alternative (record { front = front; back = back })
  unfolding trimmed_front trimmed_end
  back-first e f = record {
    front = f ∙ ap (λ (n : ℕ). lcp (take (length reference - n) reference) (take (length alternative - n) alternative)) e;
    back = e;
  }

-- what is shared lies in both, as sets that an attribute can name
pub ruleset rightward = (lcp-le-left, lcp-le-right)

pub ruleset leftward = (lcs-le-left, lcs-le-right)
