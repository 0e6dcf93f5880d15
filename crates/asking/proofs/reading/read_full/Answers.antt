-- The bytes of a read stand behind those that were read before.
use Rattle.std.proofs.Common.{◌≡◌, ℕ, ◌+◌, ◌-◌, ◌≤◌, List, ◌++◌, rules, length, take, drop, sym, ap, ◌∙◌, subst, le_refl, drop_at, length-take-le}
use Rattle.std.proofs.lemmas.Slice.{take-put_mid_below}
use Rattle.std.specs.Io.KnownBytes.{Consumes}
use Rattle.std.proofs.KnownBytes.{Consumes-trans}
use borrow.Rule.Slice.PartMut.{put_mid, post_of}
use lib.Seq.{take-add, take-append-le}
use Rattle.asking.proofs.reading.read_full.Goals as goal

-- the first `size` bytes stay, and `came` bytes behind them are those that were read
take-put_mid : (size came : ℕ) (space read : List ℕ) → size ≤ length space → came ≤ length read
    → take (size + came) (put_mid size (length space - size) space read) ≡ take size space ++ take came read
take-put_mid size came space read within fits =
    let after = post_of size (length space - size) space in
    take-add size came (put_mid size (length space - size) space read)
    ∙ ap (λ front. front ++ take came (drop size (put_mid size (length space - size) space read))) (take-put_mid_below _ _ _ _ _ (le_refl _) within)
    ∙ ap (λ rest. take size space ++ take came rest) (drop_at (take size space) (read ++ after) size (length-take-le size space within))
    ∙ ap (λ front. take size space ++ front) (take-append-le came read after fits)

pub loop-size-preserved : goal.loop-size-preserved
loop-size-preserved g c = (
  search rules,
  subst (Consumes _ _) (sym (take-put_mid _ _ _ _ c.loop-size.invariant.0 c.in-Ok.ensures.bound.0)) (Consumes-trans _ _ _ _ _ c.loop-size.invariant.1 c.in-Ok.ensures.bytes.0),
)
