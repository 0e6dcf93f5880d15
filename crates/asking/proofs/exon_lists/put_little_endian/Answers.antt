use Rattle.std.proofs.Common.{◌≡◌, ◌∙◌, ℕ, List, [], ◌∷◌, get_or, ap, rules}
use Rattle.asking.specs.Exons.{four_bytes}
use Rattle.asking.specs.Laid.{laid_at}
use Rattle.asking.proofs.Pairs.{four-put}
use Rattle.asking.proofs.exon_lists.put_little_endian.Goals as goal

pub returns : goal.returns
unfolding four_bytes
returns c =
    let are : c.to_le_bytes.result ≡ four_bytes c.args.number = search rules in
    let put = four-put c.args.at c.args.table.now _ _ _ _ c.put_at.ensures c.put_at-2.ensures c.put_at-3.ensures c.put_at-4.ensures in
    put ∙ ap (λ (bytes : List ℕ). laid_at c.args.at (get_or bytes 0 0 ∷ get_or bytes 1 0 ∷ get_or bytes 2 0 ∷ get_or bytes 3 0 ∷ []) c.args.table.now) are
