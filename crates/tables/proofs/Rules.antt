-- Row 10's rules in terms of the table's bytes: what their number alone decides, and what is left to test. Assumes nothing.
use mathlib.Core.Path.{◌≡◌, sym, ◌∙◌}
use mathlib.Core.Bool.{Bool, true, false, not, ◌&&◌}
use mathlib.Core.List.{List}
use Prim.Native.Nat.{ℕ, ◌*◌, ◌%◌, ◌≤◌, ◌<◌}
use native.Mathlib.Omega.{arith}
use borrow.Author.Tests.{eq-eqb, ne_eqb, le-leb, lt-leb, not-true, not-false}
use lib.ListN.{length}
use Rattle.definition.specs.declared.Bound.{Bound}
use Rattle.definition.specs.Limits.{most_exons}
use Rattle.definition.specs.Piece.{exons_in, exons_fit, bound_in_target, bounds_in_order, tables_hold}
use Rattle.tables.proofs.Pairs.{count}

module _ (bytes : List ℕ) (cds_start cds_end : Bound) (size : ℕ) where
  pub left_over : (length bytes % 8 ≡ 0 → ⊥) → false ≡ tables_hold bytes cds_start cds_end size
  unfolding tables_hold
  left_over h = rw (ne_eqb (length bytes) (8 * length (exons_in bytes)) (λ e. h (omega (arith, e, count bytes))))

  pub no_pair : length bytes % 8 ≡ 0 → length bytes < 8 → false ≡ tables_hold bytes cds_start cds_end size
  unfolding tables_hold
  no_pair w h =
      rw (
        eq-eqb (length bytes) (8 * length (exons_in bytes)) (omega (arith, count bytes)),
        lt-leb 1 (length (exons_in bytes)) (omega (arith, count bytes)),
      )

  pub too_many : length bytes % 8 ≡ 0 → 8 * most_exons < length bytes → false ≡ tables_hold bytes cds_start cds_end size
  unfolding tables_hold
  too_many w h =
      rw (
        eq-eqb (length bytes) (8 * length (exons_in bytes)) (omega (arith, count bytes)),
        le-leb 1 (length (exons_in bytes)) (omega (arith, count bytes)),
        lt-leb (length (exons_in bytes)) most_exons (omega (arith, count bytes)),
      )

  pub rules_left : length bytes % 8 ≡ 0 → 8 ≤ length bytes → length bytes ≤ 8 * most_exons → (holds : Bool)
      → holds ≡ (exons_fit size 0 (exons_in bytes) && bound_in_target size cds_start && bound_in_target size cds_end && bounds_in_order cds_start cds_end)
      → holds ≡ tables_hold bytes cds_start cds_end size
  unfolding tables_hold
  rules_left w h k holds e =
      rw (
        eq-eqb (length bytes) (8 * length (exons_in bytes)) (omega (arith, count bytes)),
        le-leb 1 (length (exons_in bytes)) (omega (arith, count bytes)),
        le-leb (length (exons_in bytes)) most_exons (omega (arith, count bytes)),
      ) e

-- a rule that a function tested, by its answer r
pub broken : {r rule : Bool} → r ≡ rule → not r ≡ true → rule ≡ false
broken {r} e h = sym e ∙ not-true r h

pub kept : {r rule : Bool} → r ≡ rule → not r ≡ false → rule ≡ true
kept {r} e h = sym e ∙ not-false r h
