-- The text of two words, by which of them is given. Assumes nothing.
use Prim.Native.Nat.{ℕ}
use mathlib.Core.Path.{◌≡◌, refl}
use mathlib.Core.List.{List}
use Rattle.std.specs.Prelude.{Option, Some, None, Ok, Err}
use Rattle.asking.specs.LinesRules.{word_at}
use Rattle.asking.specs.declared.problems.Unread.TheVariants.{Missing, Twice}
use Rattle.asking.specs.Sources.{Source, source_of}

only-path : (text : List ℕ) (path : Option ℕ) (file : Source) → (path ≡ None → ⊥) → source_of text None path file ≡ file
unfolding source_of
only-path text None file f = absurd (f refl)
only-path text (Some at) file f = refl

two-words : (text : List ℕ) (letters path : Option ℕ) (file : Source) → (letters ≡ None → ⊥) → (path ≡ None → ⊥)
    → source_of text letters path file ≡ Err Twice
unfolding source_of
two-words text None path file e f = absurd (e refl)
two-words text (Some at) None file e f = absurd (f refl)
two-words text (Some at) (Some path) file e f = refl

module _ (text : List ℕ) {letters path : Option ℕ} (file : Source) where
  pub neither : letters ≡ None → path ≡ None → source_of text letters path file ≡ Err Missing
  unfolding source_of
  neither e f = rw (e, f)

  pub by-path : letters ≡ None → (path ≡ None → ⊥) → source_of text letters path file ≡ file
  by-path e f = rw e (only-path text path file f)

  pub by-letters : {at : ℕ} → letters ≡ Some at → path ≡ None → source_of text letters path file ≡ Ok (word_at text at)
  unfolding source_of
  by-letters e f = rw (e, f)

  pub both : (letters ≡ None → ⊥) → (path ≡ None → ⊥) → source_of text letters path file ≡ Err Twice
  both e f = two-words text letters path file e f
