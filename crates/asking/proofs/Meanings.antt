-- A search of a table of words, row for row. Assumes nothing.
use Prim.Native.Nat.{ℕ, suc, ◌+◌, ◌<◌, ◌≤◌}
use native.Mathlib.Numerals.{add-one}
use mathlib.Core.Path.{◌≡◌, sym, ap, ◌∙◌}
use mathlib.Core.Bool.{true, false, cond}
use mathlib.Core.List.{List, ◌∷◌}
use lib.ListN.{length, drop, get_or, drop_of_length-le}
use lib.Seq.{drop-cons}
use Rattle.std.specs.Prelude.{Some, None, map}
use Rattle.definition.specs.Bases.{same_bases}
use Rattle.asking.specs.Names.{meant}

module _ {R A : Type 0} (f : R → List ℕ × A) (rows : List R) (word : List ℕ) (i : ℕ) (row : R) (h : i < length rows) (is : row ≡ get_or rows i row) where
  opened : meant (map f (drop i rows)) word ≡ cond (same_bases word (f row).0) (Some (f row).1) (meant (map f (drop (i + 1) rows)) word)
  unfolding meant
  opened =
      let split : drop i rows ≡ row ∷ drop (i + 1) rows = rw (add-one) (drop-cons rows i row h ∙ ap (λ x. x ∷ drop (suc i) rows) (sym is)) in
      ap (λ xs. meant (map f xs) word) split

  module _ (at : meant (map f (drop i rows)) word ≡ meant (map f rows) word) where
    pub found : same_bases word (f row).0 ≡ true → Some (f row).1 ≡ meant (map f rows) word
    found e = ap (λ b. cond b (Some (f row).1) (meant (map f (drop (i + 1) rows)) word)) (sym e) ∙ sym opened ∙ at

    pub passed : same_bases word (f row).0 ≡ false → meant (map f (drop (i + 1) rows)) word ≡ meant (map f rows) word
    passed e = ap (λ b. cond b (Some (f row).1) (meant (map f (drop (i + 1) rows)) word)) (sym e) ∙ sym opened ∙ at

pub none : {R A : Type 0} (f : R → List ℕ × A) (rows : List R) (word : List ℕ) (i : ℕ) → length rows ≤ i
    → meant (map f (drop i rows)) word ≡ meant (map f rows) word → None ≡ meant (map f rows) word
unfolding meant
none f rows word i h at = sym (ap (λ xs. meant (map f xs) word) (drop_of_length-le rows h)) ∙ at
