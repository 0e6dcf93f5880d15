-- What a contract fixes: of any two results that it allows for the same arguments, what is seen is the same. Stated once over the clauses that a
-- function ensures, whatever its arguments, its result and what it leaves behind. Assumes nothing.
use mathlib.Core.Path.{◌≡◌}

-- what a contract ensures, of the arguments, the result and the parameters at exit, fixes what is seen of the last two
abbrev pub Fixes : {L : Type 0} {A R E : L → Type 0} {S : Type 0} → ((κs : L) → R κs → E κs → S) → ((κs : L) → A κs → R κs → E κs → Type 0) → Type 0
Fixes {L} {A} {R} {E} seen ensures =
    (κs : L) (a : A κs) (x y : R κs) (at_x at_y : E κs) → ensures κs a x at_x → ensures κs a y at_y → seen κs x at_x ≡ seen κs y at_y
