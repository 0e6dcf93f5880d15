-- The parts that std's split gives are the definition's. Assumes nothing.
use Prim.Native.Nat.{ℕ, ◌<◌}
use mathlib.Core.Path.{◌≡◌, refl, ap, subst, ◌∙◌}
use mathlib.Core.Bool.{Bool, false, cond}
use mathlib.Core.List.{List, [], ◌∷◌}
use denote.Param.Members.{Mut}
use denote.Ref.{Bor}
use Rattle.std.specs.Prelude.{Option, Some, None}
use Rattle.std.specs.List.{slice_split, onto_first}
use Rattle.std.specs.declared.slice.Split.{Split}
use Rattle.std.specs.Fn.{CalledAt}
use Rattle.std.specs.Iterator.{Yields}
use Rattle.std.specs.Slice.Iter.{split_steps, split_rest, split_done, split_callee}
use Rattle.std.proofs.lemmas.Iterator.{YieldsList}
use Rattle.std.proofs.lemmas.Iterator.Consumers.{YieldsList-turn, YieldsList-end}
use Rattle.std.proofs.lemmas.Iterator.Splits.{YieldsList-from_slice_split}
use lib.Dec.{eqb}
use lib.ListN.{length, get_or}
use Rattle.asking.specs.Text.{on_first, parts_at}

same-first : (x : ℕ) (parts : List (List ℕ)) → onto_first x parts ≡ on_first x parts
same-first x [] = refl
same-first x (part ∷ parts) = refl

pub split-parts : (byte : ℕ) (list : List ℕ) → slice_split (λ x. eqb x byte) list ≡ parts_at byte list
unfolding parts_at
split-parts byte [] = refl
split-parts byte (x ∷ list) =
    ap (λ parts. cond (eqb x byte) ([] ∷ parts) (onto_first x parts)) (split-parts byte list)
    ∙ ap (λ first. cond (eqb x byte) ([] ∷ parts_at byte list) first) (same-first x (parts_at byte list))

-- what a loop over a split of bytes yields: the parts in turn
module _ {F : Type 0} {g : Mut F (Bor ℕ × Unit {0}) Bool} {split : Split ℕ F} (s : Split ℕ F) (same : s ≡ split) (xs : List (Bor (List ℕ)))
    (t : Split ℕ F) (yielded : Yields (split_steps g) s xs t) (byte : ℕ) (list : List ℕ)
    (rest : split_rest split ≡ list) (undone : split_done split ≡ false) {f : F} (closure : split_callee split ≡ f)
    (tests : (x : ℕ) (b : Bool) (q : F) → CalledAt g f x b q → (q ≡ f) × (b ≡ eqb x byte)) where
  parts : YieldsList (split_steps g) (λ x. x.now) s (parts_at byte list)
  parts =
      subst (YieldsList (split_steps g) (λ x. x.now) s) (split-parts byte list)
      (YieldsList-from_slice_split g (λ x. eqb x byte) list (ap split_rest same ∙ rest) (ap split_done same ∙ undone) (ap split_callee same ∙ closure) tests)

  pub part-turn : (r : Option (Bor (List ℕ))) (u : Split ℕ F) (x : Bor (List ℕ)) → r ≡ Some x → split_steps g t r u
      → (length xs < length (parts_at byte list)) × (x.now ≡ get_or (parts_at byte list) (length xs) x.now)
  part-turn = YieldsList-turn parts xs t yielded

  pub part-end : (r : Option (Bor (List ℕ))) (u : Split ℕ F) → r ≡ None → split_steps g t r u → length xs ≡ length (parts_at byte list)
  part-end r u is step = (YieldsList-end parts xs t yielded r u is step).1
