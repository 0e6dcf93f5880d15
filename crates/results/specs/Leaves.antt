-- What row 16 says over the numbers of a change. Assumes nothing.
use Rattle.std.specs.Prelude.{ℕ, ◌≡◌, Bool, List, length}
use Rattle.definition.specs.declared.Direction.{Direction}
use Rattle.definition.specs.declared.Piece.{Piece}
use Rattle.definition.specs.Answer.{leaves_target}

-- row 16 of any two alleles, so many bases of each
abbrev pub Leaves : Direction → Piece → List ℕ → ℕ → ℕ → ℕ → Bool → Type 0
Leaves direction piece target place reference_size count leaves =
    (ref alt : List ℕ) → length ref ≡ reference_size → length alt ≡ count → leaves ≡ leaves_target direction piece target place ref alt
