-- A test of every element, gathered from the front without an early exit: what is found so far and what the rest holds decide together.
-- `rest i` is the answer for the elements from i on. Assumes nothing.
use Prim.Native.Nat.{ℕ, ◌+◌}
use mathlib.Core.Path.{◌≡◌, refl, sym, ap, ◌∙◌}
use mathlib.Core.Bool.{Bool, true, false, ◌&&◌}

and_assoc : (a b c : Bool) → ((a && b) && c) ≡ (a && (b && c))
and_assoc true b c = refl
and_assoc false b c = refl

and-nothing : (a : Bool) → (a && true) ≡ a
and-nothing true = refl
and-nothing false = refl

module _ (rest : ℕ → Bool) (i : ℕ) (found : Bool) (decides : (found && rest i) ≡ rest 0) where
  -- one element more
  pub gathered_next : (here : Bool) → rest i ≡ (here && rest (i + 1)) → ((found && here) && rest (i + 1)) ≡ rest 0
  gathered_next here split = and_assoc found here (rest (i + 1)) ∙ ap (λ (b : Bool). found && b) (sym split) ∙ decides

  -- and none left
  pub gathered-all : rest i ≡ true → found ≡ rest 0
  gathered-all none = sym (and-nothing found) ∙ ap (λ (b : Bool). found && b) (sym none) ∙ decides
