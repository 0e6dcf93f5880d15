-- Bytes laid over a text. Assumes nothing.
use Rattle.std.specs.Prelude.{ℕ, zero, suc, List, [], ◌∷◌}

-- bytes laid over a text from an index on, as far as the text goes
unfoldable pub laid_at : ℕ → List ℕ → List ℕ → List ℕ
laid_at size bytes [] = []
laid_at zero [] (t ∷ ts) = t ∷ ts
laid_at zero (b ∷ bs) (t ∷ ts) = b ∷ laid_at zero bs ts
laid_at (suc n) bytes (t ∷ ts) = t ∷ laid_at n bytes ts
