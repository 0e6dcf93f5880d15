-- The window shows nowhere: any two results that the contracts allow for one change, whatever the windows, agree in place, probes and alleles.
-- Assumes nothing.
use mathlib.Core.Path.{◌≡◌, sym, ap, ◌∙◌}
use mathlib.Core.List.{List}
use Prim.Native.Nat.{ℕ}
use Rattle.definition.specs.declared.Direction.{Direction}
use Rattle.definition.specs.declared.Piece.{Piece}
use Rattle.definition.specs.Change.{Change, trimmed}
use Rattle.definition.specs.Place.{probes_of}
use Rattle.alleles.specs.declared.Allele.{Allele}
use Rattle.shuffle.specs.declared.slides.Shuffled.{Shuffled}
use Rattle.shuffle.proofs.SlidesUnique.{Alike, same-part}
use Rattle.shuffle.specs.Settled.{Settled}

pub one_answer : (direction : Direction) (piece : Piece) (target : List ℕ) (c : Change) (r a : Allele) (s : Shuffled) (r' a' : Allele) (s' : Shuffled)
    → Settled direction piece target c r a s → Settled direction piece target c r' a' s' → Alike r a s r' a' s'
one_answer direction piece target c _ _ s _ _ s' p q =
    let same : s.place.0 ≡ s'.place.0 = p.place ∙ sym q.place in
    record {
      place = same;
      probes = p.probes ∙ ap (probes_of direction piece target (trimmed direction target c)) same ∙ sym q.probes;
      reference = same-part same p.reference q.reference;
      alternative = same-part same p.alternative q.alternative;
    }
