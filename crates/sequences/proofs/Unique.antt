-- Each public contract allows one answer: any two that it allows for the same arguments are equal. Each theorem is about the contract as the
-- source states it. Assumes nothing.
use mathlib.Core.Path.{sym, ◌∙◌}
use Rattle.definition.proofs.Fixes.{Fixes}
use Rattle.sequences.proofs.reach.is_same.Reads as is-same
use Rattle.sequences.proofs.trim_common_prefixes.Reads as trim-common-prefixes
use Rattle.sequences.proofs.trim_common_suffixes.Reads as trim-common-suffixes

pub is-same-one : Fixes (λ κs x at. x) is-same.Post
is-same-one κs a x y at_x at_y p q = p ∙ sym q

pub trim-common-prefixes-one : Fixes (λ κs x at. x) trim-common-prefixes.Post
trim-common-prefixes-one κs a x y at_x at_y p q = p ∙ sym q

pub trim-common-suffixes-one : Fixes (λ κs x at. x) trim-common-suffixes.Post
trim-common-suffixes-one κs a x y at_x at_y p q = p ∙ sym q
