-- Where rows 6 to 10 leave a request: refused by one, or past it. Assumes nothing.
use mathlib.Core.Path.{◌≡◌}
use mathlib.Core.Bool.{true, false, not}
use mathlib.Core.List.{List}
use Prim.Native.Nat.{ℕ, ◌-◌, ◌≤◌}
use borrow.Author.Tests.{ltb-false, not-false}
use lib.Dec.{ltb}
use lib.ListN.{length}
use Rattle.definition.specs.declared.Bound.{Bound}
use Rattle.definition.specs.declared.Edit.{Edit}
use Rattle.definition.specs.declared.Kind.{Kind}
use Rattle.definition.specs.declared.Kind.TheVariants.{Open, Transcript, Crossing}
use Rattle.definition.specs.declared.Direction.{Direction}
use Rattle.definition.specs.declared.Refusal.TheVariants.{BadInsertion, TooLong, BadAllele, NoRoom, BadTables}
use Rattle.definition.specs.Change.{spelled}
use Rattle.definition.specs.Bases.{all_bases}
use Rattle.definition.specs.Limits.{longest_allele, answer_room}
use Rattle.definition.specs.Verdict.{Verdict, refused, after_shortcuts, shortcut, refused_or, misfits, exceeds, read_alternative, cramped, tables_broken}
use Rattle.definition.proofs.Tests.{or-false}
use Rattle.definition.specs.Piece.{tables_hold, piece_for}
use Rattle.boundary.specs.ReadInOrder.{ReadInOrder}
use Rattle.boundary.proofs.Within.{table-in-order}
use Rattle.results.specs.Asked.{Room}
use Rattle.normalizer.specs.Passed.{range_verdict}

-- what the rows that were passed say
pub lengths-inside : (edit : Edit) (start end : ℕ) (alternative : List ℕ) → exceeds edit start end alternative ≡ false
    → (end - start ≤ longest_allele) × (length (read_alternative edit alternative) ≤ longest_allele)
lengths-inside edit start end alternative e =
    let h = or-false (ltb longest_allele (end - start)) (ltb longest_allele (length (read_alternative edit alternative))) e in
    (ltb-false longest_allele (end - start) h.0, ltb-false longest_allele (length (read_alternative edit alternative)) h.1)

pub room-inside : (reference alternative : List ℕ) → cramped (length reference) (length alternative) ≡ false → Room reference alternative
room-inside reference alternative e =
    let h = or-false (ltb (length reference) answer_room) (ltb (length alternative) answer_room) e in
    record { reference = ltb-false (length reference) answer_room h.0; alternative = ltb-false (length alternative) answer_room h.1 }

pub tables-inside : (kind : Kind) (exons : List ℕ) (a b : Bound) (size : ℕ) → tables_broken kind exons a b size ≡ false → ReadInOrder kind exons
tables-inside Open exons a b size e = tt
tables-inside Transcript exons a b size e = table-in-order exons a b size (not-false (tables_hold exons a b size) e)
tables-inside Crossing exons a b size e = tt

-- rows 6 to 10, of a range that passes row 5
module _ (target : List ℕ) (kind : Kind) (exons : List ℕ) (a b : Bound) (start end : ℕ) (edit : Edit) (alternative : List ℕ) (direction : Direction)
    (reference_room alternative_room : ℕ) where
  abbrev answer : Verdict
  answer = range_verdict target kind exons a b start end edit alternative direction reference_room alternative_room

  pub row-6 : misfits edit start end alternative ≡ true → answer ≡ refused BadInsertion
  unfolding range_verdict refused_or
  row-6 e = rw e

  module _ (e₆ : misfits edit start end alternative ≡ false) where
    pub row-7 : exceeds edit start end alternative ≡ true → answer ≡ refused TooLong
    unfolding range_verdict refused_or
    row-7 e = rw (e₆, e)

    module _ (e₇ : exceeds edit start end alternative ≡ false) where
      pub row-8 : not (all_bases (read_alternative edit alternative)) ≡ true → answer ≡ refused BadAllele
      unfolding range_verdict refused_or
      row-8 e = rw (e₆, e₇, e)

      module _ (e₈ : not (all_bases (read_alternative edit alternative)) ≡ false) where
        pub row-9 : cramped reference_room alternative_room ≡ true → answer ≡ refused NoRoom
        unfolding range_verdict refused_or
        row-9 e = rw (e₆, e₇, e₈, e)

        module _ (e₉ : cramped reference_room alternative_room ≡ false) where
          pub row-10 : tables_broken kind exons a b (length target) ≡ true → answer ≡ refused BadTables
          unfolding range_verdict refused_or
          row-10 e = rw (e₆, e₇, e₈, e₉, e)

          pub past-row-10 : tables_broken kind exons a b (length target) ≡ false
              → answer
              ≡ after_shortcuts direction kind target (spelled edit target start end alternative) (piece_for kind exons a b start end)
              (shortcut edit target start end alternative)
          unfolding range_verdict refused_or
          past-row-10 e = rw (e₆, e₇, e₈, e₉, e)
