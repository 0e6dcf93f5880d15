-- A change of a target, as it is spelled and as it is trimmed. Positions are 0-based, ranges half-open, and gap g has g bases before it.
-- Assumes nothing.
use Rattle.std.specs.Prelude.{ℕ, ◌+◌, ◌-◌, List, [], ◌++◌, length, take, drop}
use Rattle.std.proofs.Math.Seq.{slice}
use Rattle.definition.specs.declared.Edit.{Edit}
use Rattle.definition.specs.declared.Edit.TheVariants.{Insert, Duplicate, Delete, Replace, Invert}
use Rattle.definition.specs.declared.Direction.{Direction}
use Rattle.definition.specs.declared.Direction.TheVariants.{Rightward, Leftward}
use Rattle.definition.specs.Bases.{reverse_complement}
use Rattle.definition.specs.Prefix.{lcp, lcs}

-- the bases from `from` up to `to` give way to `inserted`
pub record Change : Type 0 where
  pub from : ℕ
  pub to : ℕ
  pub inserted : List ℕ

-- an insertion goes in at gap start + 1, a duplication puts its copy in at gap end
unfoldable pub spelled : Edit → List ℕ → ℕ → ℕ → List ℕ → Change
spelled Insert target start end alternative = record { from = start + 1; to = start + 1; inserted = alternative }
spelled Duplicate target start end alternative = record { from = end; to = end; inserted = slice start end target }
spelled Delete target start end alternative = record { from = start; to = end; inserted = [] }
spelled Replace target start end alternative = record { from = start; to = end; inserted = alternative }
spelled Invert target start end alternative = record { from = start; to = end; inserted = reverse_complement (slice start end target) }

-- the target with the bases from `from` up to `to` replaced
abbrev pub splice : List ℕ → ℕ → ℕ → List ℕ → List ℕ
splice target from to inserted = take from target ++ (inserted ++ drop to target)

-- the altered sequence
unfoldable pub altered : List ℕ → Change → List ℕ
altered target c = splice target c.from c.to c.inserted

-- the reference allele of a change as it is spelled
unfoldable pub reference_of : List ℕ → Change → List ℕ
reference_of target c = slice c.from c.to target

-- How much of two alleles is trimmed at the front and at the end. Rightward the common prefix goes first, leftward the common suffix
unfoldable pub trimmed_front : Direction → List ℕ → List ℕ → ℕ
trimmed_front Rightward ref alt = lcp ref alt
trimmed_front Leftward ref alt = lcp (take (length ref - lcs ref alt) ref) (take (length alt - lcs ref alt) alt)

unfoldable pub trimmed_end : Direction → List ℕ → List ℕ → ℕ
trimmed_end Rightward ref alt = lcs (drop (lcp ref alt) ref) (drop (lcp ref alt) alt)
trimmed_end Leftward ref alt = lcs ref alt

-- where the trimmed change starts, and how many bases each of its alleles has
pub record Trimmed : Type 0 where
  pub start : ℕ
  pub reference_size : ℕ
  pub alternative_size : ℕ

unfoldable pub trimmed_by : Change → List ℕ → ℕ → ℕ → Trimmed
trimmed_by c ref front end = record {
  start = c.from + front;
  reference_size = length ref - (front + end);
  alternative_size = length c.inserted - (front + end);
}

unfoldable pub trimmed : Direction → List ℕ → Change → Trimmed
trimmed direction target c =
    let ref = reference_of target c in
    trimmed_by c ref (trimmed_front direction ref c.inserted) (trimmed_end direction ref c.inserted)
