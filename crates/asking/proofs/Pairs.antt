-- Four bytes of a table, put one after the other. Assumes nothing.
use Prim.Native.Nat.{ℕ, ◌+◌}
use mathlib.Core.Path.{◌≡◌, ap, ◌∙◌}
use mathlib.Core.List.{List, [], ◌∷◌, ◌++◌}
use lib.ListN.{length, set}
use Rattle.asking.specs.Laid.{laid_at}
use Rattle.asking.proofs.Laid.{laid_one, laid-after}

put-behind : (at : ℕ) (xs : List ℕ) (byte : ℕ) (table : List ℕ) {then last : List ℕ} → then ≡ laid_at at xs table → last ≡ set then (at + length xs) byte
    → last ≡ laid_at at (xs ++ (byte ∷ [])) table
put-behind at xs byte table e f = f ∙ laid_one _ _ _ ∙ ap (laid_at (at + length xs) (byte ∷ [])) e ∙ laid-after at xs (byte ∷ []) table

pub four-put : (at : ℕ) (table : List ℕ) (first second third fourth : ℕ) {a b c d : List ℕ} → a ≡ set table at first → b ≡ set a (at + 1) second
    → c ≡ set b (at + 2) third → d ≡ set c (at + 3) fourth → d ≡ laid_at at (first ∷ second ∷ third ∷ fourth ∷ []) table
four-put at table first second third fourth p q r s =
    put-behind at (first ∷ second ∷ third ∷ []) _ table
    (put-behind at (first ∷ second ∷ []) _ table
    (put-behind at (first ∷ []) _ table (p ∙ laid_one _ _ _) q) r) s
