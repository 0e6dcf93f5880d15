-- What each public function's contract leaves open: any two results that it allows are equal. Not fixed, and not to be seen through the window, are the
-- bytes of the array outside it. Assumes nothing.
use Prim.Native.Nat.{ℕ, ◌+◌}
use mathlib.Core.Path.{◌≡◌, sym, ◌∙◌}
use mathlib.Core.List.{List}
use lib.ListN.{length}
use Rattle.alleles.specs.Window.{window, StoredFront}

-- `store_back` ensures one equation with what is given, of a window
pub equal : {A : Type 0} {result other given : A} → result ≡ given → other ≡ given → result ≡ other
equal e f = e ∙ sym f

-- `store_front`: the place, and the window from there
pub stored-front-equal : {bytes after other part : List ℕ} {head count first place : ℕ}
    → StoredFront bytes after part head count first → StoredFront bytes other part head count place
    → (first ≡ place) × (window after first (count + length part) ≡ window other place (count + length part))
stored-front-equal p q = (equal p.place q.place, equal p.front q.front)
