-- The change ends inside the target, and what is lent of it is its reference allele.
use Rattle.std.proofs.Common.{List, ℕ, subst, arith}
use Rattle.definition.proofs.Places.{from-edge}
use Rattle.definition.proofs.Parts.{lent-part}
use Rattle.shuffle.specs.Settled.{Shares}
use Rattle.shuffle.proofs.normalize_alleles.Goals as goal

pub slice_bounds-reference-end : goal.slice_bounds-reference-end
slice_bounds-reference-end c = omega (arith, c.requires.order, from-edge c.args.piece c.args.target.now c.requires.right)

pub move_trimmed-requires-clause-shares : goal.move_trimmed-requires-clause-shares
move_trimmed-requires-clause-shares c =
    let a = c.args in
    subst (λ (l : List ℕ). Shares a.direction l a.spelled.inserted.now c.shared_by-shared.result) (lent-part a.spelled.from.0 a.spelled.to.0 a.target.now) c.shared_by-shared.ensures
