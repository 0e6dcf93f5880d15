-- Rows 7 and 8 are read off whether the alternative is read. Assumes nothing.
use mathlib.Core.Path.{◌≡◌, refl}
use mathlib.Core.Bool.{true, false, ◌&&◌, ◌||◌, true≢false, false≢true}
use mathlib.Core.List.{List}
use Prim.Native.Nat.{ℕ, ◌-◌}
use lib.Dec.{ltb}
use lib.ListN.{length}
use Rattle.definition.specs.declared.Edit.{Edit}
use Rattle.definition.specs.declared.Edit.TheVariants.{Insert, Duplicate, Delete, Replace, Invert}
use Rattle.definition.specs.Bases.{all_bases}
use Rattle.definition.specs.Limits.{longest_allele}
use Rattle.definition.specs.Verdict.{read_alternative, exceeds}
use Rattle.normalizer.specs.Reads.{reads}

-- an alternative that is not read is as long as none
pub exceeds_read : (edit : Edit) (start end : ℕ) (alternative : List ℕ)
    → (ltb longest_allele (end - start) || (reads edit && ltb longest_allele (length alternative))) ≡ exceeds edit start end alternative
unfolding read_alternative
exceeds_read Insert start end alternative = refl
exceeds_read Duplicate start end alternative = refl
exceeds_read Delete start end alternative = refl
exceeds_read Replace start end alternative = refl
exceeds_read Invert start end alternative = refl

-- and holds no byte that is no base
pub bases_read : (edit : Edit) (alternative : List ℕ) → reads edit ≡ true → all_bases alternative ≡ all_bases (read_alternative edit alternative)
unfolding read_alternative
bases_read Insert alternative e = refl
bases_read Duplicate alternative e = absurd (false≢true e)
bases_read Delete alternative e = absurd (false≢true e)
bases_read Replace alternative e = refl
bases_read Invert alternative e = absurd (false≢true e)

pub bases_not_read : (edit : Edit) (alternative : List ℕ) → reads edit ≡ false → true ≡ all_bases (read_alternative edit alternative)
unfolding read_alternative
bases_not_read Insert alternative e = absurd (true≢false e)
bases_not_read Duplicate alternative e = refl
bases_not_read Delete alternative e = refl
bases_not_read Replace alternative e = absurd (true≢false e)
bases_not_read Invert alternative e = refl
