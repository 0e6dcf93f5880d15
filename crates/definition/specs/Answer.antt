-- The class and the 1-based range of a change at its final place, the two end rules and row 16. Assumes nothing.
use Rattle.std.specs.Prelude.{ℕ, ◌+◌, ◌-◌, Bool, true, false, cond, ◌&&◌, List, [], ◌∷◌, ◌++◌, eqb, leb, ltb, length, take, drop}
use Rattle.std.proofs.Math.Seq.{slice}
use Rattle.definition.specs.declared.Kind.{Kind}
use Rattle.definition.specs.declared.Kind.TheVariants.{Open, Transcript, Crossing}
use Rattle.definition.specs.declared.Direction.{Direction}
use Rattle.definition.specs.declared.Direction.TheVariants.{Rightward, Leftward}
use Rattle.definition.specs.declared.Class.{Class}
use Rattle.definition.specs.declared.Class.TheVariants.{Insertion, Duplication, Deletion, Replacement, Inversion, Unchanged}
use Rattle.definition.specs.declared.Piece.{Piece}
use Rattle.definition.specs.Bases.{reverse_complement, same_bases}
use Rattle.definition.specs.Change.{splice}

-- the numbers of the classes (docs/RULES.md)
abbrev pub class_number : Class → ℕ
class_number Insertion = 1
class_number Duplication = 2
class_number Deletion = 3
class_number Replacement = 4
class_number Inversion = 5
class_number Unchanged = 6

-- a class, a 1-based range with both ends in it, and the two alleles
pub record Named : Type 0 where
  pub class : Class
  pub start : ℕ
  pub end : ℕ
  pub reference : List ℕ
  pub alternative : List ℕ

-- the copy beside an insertion at gap g is equal and lies wholly in the piece: rightward the bases before the gap, leftward those after it
unfoldable pub copy_beside : Direction → Piece → List ℕ → ℕ → List ℕ → Bool
copy_beside Rightward piece target g ins =
    leb (piece.left.0 + length ins) g && same_bases (slice (g - length ins) g target) ins
copy_beside Leftward piece target g ins =
    leb (g + length ins) piece.right.0 && same_bases (slice g (g + length ins) target) ins

unfoldable pub copy_start : Direction → ℕ → ℕ → ℕ
copy_start Rightward g k = g - k
copy_start Leftward g k = g

-- classes 1 and 2
unfoldable pub named_insertion : Direction → Piece → List ℕ → ℕ → List ℕ → Named
named_insertion direction piece target g ins =
    cond (copy_beside direction piece target g ins)
    (record {
      class = Duplication;
      start = copy_start direction g (length ins) + 1;
      end = copy_start direction g (length ins) + length ins;
      reference = ins;
      alternative = [];
    })
    (record { class = Insertion; start = g; end = g + 1; reference = []; alternative = ins })

-- classes 4 and 5
unfoldable pub is_inversion : List ℕ → List ℕ → Bool
is_inversion ref alt = eqb (length ref) (length alt) && ltb 1 (length ref) && same_bases ref (reverse_complement alt)

unfoldable pub named_replacement : ℕ → List ℕ → List ℕ → Named
named_replacement q ref alt =
    cond (is_inversion ref alt)
    (record { class = Inversion; start = q + 1; end = q + length ref; reference = ref; alternative = [] })
    (record { class = Replacement; start = q + 1; end = q + length ref; reference = ref; alternative = alt })

-- the class rules, by which allele is empty
unfoldable pub named : Direction → Piece → List ℕ → ℕ → List ℕ → List ℕ → Named
named direction piece target q [] [] = record { class = Unchanged; start = q; end = q; reference = []; alternative = [] }
named direction piece target q [] (a ∷ alt) = named_insertion direction piece target q (a ∷ alt)
named direction piece target q (r ∷ ref) [] = record { class = Deletion; start = q + 1; end = q + length (r ∷ ref); reference = r ∷ ref; alternative = [] }
named direction piece target q (r ∷ ref) (a ∷ alt) = named_replacement q (r ∷ ref) (a ∷ alt)

-- equal alleles are class 6, others class 4
unfoldable pub replaced_or_unchanged : List ℕ → List ℕ → Class
replaced_or_unchanged ref alt = cond (same_bases ref alt) Unchanged Replacement

-- a result start of 0
unfoldable pub first_base_rule : List ℕ → Named → Named
first_base_rule target n =
    let first = take 1 target in
    cond (eqb n.start 0)
    (record {
      class = replaced_or_unchanged first (n.alternative ++ first);
      start = 1;
      end = 1;
      reference = first;
      alternative = n.alternative ++ first;
    })
    n

-- a result end of L + 1, on both transcript kinds
unfoldable pub has_last_base_rule : Kind → Bool
has_last_base_rule Open = false
has_last_base_rule Transcript = true
has_last_base_rule Crossing = true

unfoldable pub last_base_rule : Kind → List ℕ → Named → Named
last_base_rule kind target n =
    let last = drop (length target - 1) target in
    cond (has_last_base_rule kind && eqb n.end (length target + 1))
    (record {
      class = Replacement;
      start = length target;
      end = length target;
      reference = last;
      alternative = last ++ n.alternative;
    })
    n

-- row 16
unfoldable pub leaves_target : Direction → Piece → List ℕ → ℕ → List ℕ → List ℕ → Bool
leaves_target Rightward piece target q ref alt = false
leaves_target Leftward piece target q ref alt = eqb (length ref) 0 && ltb (length target) piece.right.0 && ltb (length target) (q + length alt)

-- the meaning of an answer: the sequence that its class, range and alleles denote
unfoldable pub denoted : List ℕ → Named → List ℕ
denoted target n = denoted_by n.class
  where
    denoted_by : Class → List ℕ
    denoted_by Insertion = splice target n.start n.start n.alternative
    denoted_by Duplication = splice target n.end n.end (slice (n.start - 1) n.end target)
    denoted_by Deletion = splice target (n.start - 1) n.end []
    denoted_by Replacement = splice target (n.start - 1) n.end n.alternative
    denoted_by Inversion = splice target (n.start - 1) n.end (reverse_complement (slice (n.start - 1) n.end target))
    denoted_by Unchanged = target
