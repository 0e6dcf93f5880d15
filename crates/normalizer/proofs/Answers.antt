-- What the parts of an answer show of the whole: the piece that was found holds the range, and a refusal touches no buffer. Assumes nothing.
use mathlib.Core.Path.{◌≡◌, refl}
use mathlib.Core.List.{List}
use Prim.Native.Nat.{ℕ, ◌≤◌}
use native.Mathlib.Omega.{arith}
use Rattle.definition.specs.declared.Bound.{Bound}
use Rattle.definition.specs.declared.Edit.{Edit}
use Rattle.definition.specs.declared.Kind.{Kind}
use Rattle.definition.specs.declared.Piece.{Piece}
use Rattle.definition.specs.declared.Refusal.{Refusal}
use Rattle.definition.specs.Piece.{piece_for}
use Rattle.definition.specs.Verdict.{refused}
use Rattle.definition.specs.Reply.{written, outcome_of, reference_out, alternative_out, Met}
use Rattle.definition.proofs.Pieces.{piece-for-holds}
use Rattle.normalizer.specs.SpellingAsked.{Ranged}
use Rattle.normalizer.specs.Passed.{Passed}
use Rattle.std.specs.Prelude.{Err, Ok}

pub ranged : {target : List ℕ} {kind : Kind} {exons : List ℕ} {start end : ℕ} {edit : Edit} {alternative : List ℕ} {window : ℕ}
    → Passed target kind exons start end edit alternative window → (a b : Bound) (p : Piece) → piece_for kind exons a b start end ≡ Ok p
    → Ranged p target start end window
ranged {kind = kind} {exons = exons} {start = start} {end = end} q a b p e =
    let h : (p.left.0 ≤ start) × (end ≤ p.right.0) = piece-for-holds kind exons a b start end q.ordered (omega (arith, q.in_target, q.short)) p e in
    record {
      ordered = q.ordered;
      in_target = q.in_target;
      short = q.short;
      range = q.range;
      left = h.0;
      right = h.1;
      some = q.some;
      most = q.most;
    }

pub refused-met : (x : Refusal) (reference alternative : List ℕ) → Met (refused x) (Err x) reference reference alternative alternative
unfolding outcome_of reference_out alternative_out written
refused-met x reference alternative = record { numbers = refl; reference_buffer = refl; alternative_buffer = refl }
