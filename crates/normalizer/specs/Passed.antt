-- A request that passes rows 1 to 10, and what it gets from row 6 on. Assumes nothing.
use Rattle.std.specs.Prelude.{not, List, [], ◌∷◌, ℕ, ◌-◌, ◌≤◌, ◌<◌, length}
use Rattle.definition.specs.declared.Edit.{Edit}
use Rattle.definition.specs.declared.Kind.{Kind}
use Rattle.boundary.specs.ReadInOrder.{ReadInOrder}
use Rattle.definition.specs.declared.Bound.{Bound}
use Rattle.definition.specs.declared.Direction.{Direction}
use Rattle.definition.specs.declared.Refusal.TheVariants.{BadInsertion, TooLong, BadAllele, NoRoom, BadTables}
use Rattle.definition.specs.Limits.{longest_window, longest_target, longest_allele}
use Rattle.definition.specs.Change.{spelled}
use Rattle.definition.specs.Piece.{piece_for}
use Rattle.definition.specs.Verdict.{Row, Verdict, first_given, refused_or, after_shortcuts, shortcut, misfits, exceeds, read_alternative, cramped, tables_broken}
use Rattle.definition.specs.Bases.{all_bases}
use Rattle.normalizer.specs.SpellingAsked.{Read}

-- a request that passes rows 1 to 10
pub record Passed (target : List ℕ) (kind : Kind) (exons : List ℕ) (start end : ℕ) (edit : Edit) (alternative : List ℕ) (window : ℕ) : Type 0 where
  pub ordered : start < end
  pub in_target : end ≤ length target
  pub short : length target ≤ longest_target
  pub range : end - start ≤ longest_allele
  pub read : Read edit start end alternative
  pub some : 1 ≤ window
  pub most : window ≤ longest_window
  pub tables : ReadInOrder kind exons

-- rows 6 to 10, of a range that passes row 5
abbrev pub later_rows : List ℕ → Kind → List ℕ → Bound → Bound → ℕ → ℕ → Edit → List ℕ → ℕ → ℕ → List Row
later_rows target kind exons cds_start cds_end start end edit alternative reference_room alternative_room =
    record { refusal = BadInsertion; given = misfits edit start end alternative }
    ∷ record { refusal = TooLong; given = exceeds edit start end alternative }
    ∷ record { refusal = BadAllele; given = not (all_bases (read_alternative edit alternative)) }
    ∷ record { refusal = NoRoom; given = cramped reference_room alternative_room }
    ∷ record { refusal = BadTables; given = tables_broken kind exons cds_start cds_end (length target) }
    ∷ []

-- and what is answered behind them
unfoldable pub range_verdict : List ℕ → Kind → List ℕ → Bound → Bound → ℕ → ℕ → Edit → List ℕ → Direction → ℕ → ℕ → Verdict
range_verdict target kind exons cds_start cds_end start end edit alternative direction reference_room alternative_room =
    refused_or (first_given (later_rows target kind exons cds_start cds_end start end edit alternative reference_room alternative_room))
    (after_shortcuts direction kind target (spelled edit target start end alternative) (piece_for kind exons cds_start cds_end start end)
    (shortcut edit target start end alternative))
