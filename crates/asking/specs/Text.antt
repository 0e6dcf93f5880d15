-- Parts of a text, and where a byte that parts it stands. Assumes nothing.
use Rattle.std.specs.Prelude.{ℕ, zero, suc, ◌+◌, ◌-◌, min, cond, List, [], ◌∷◌, ltb, eqb, length, take, drop}
use Prim.Native.Char.{code}
use Prim.Native.String.{String, [] as end, ◌∷◌ as ◌then◌}

-- the bytes of a text that is written in ASCII
abbrev pub ascii : String → List ℕ
ascii end = []
ascii (c then text) = code c ∷ ascii text

-- the bytes from one index up to another; none where they don't lie in the text in this order
abbrev pub part_of : List ℕ → ℕ → ℕ → List ℕ
part_of text from to = cond (ltb to from) [] (cond (ltb (length text) to) [] (take (to - from) (drop from text)))

-- where the first of a byte stands in a list: its length where there is none
unfoldable pub index_of : ℕ → List ℕ → ℕ
index_of byte [] = zero
index_of byte (x ∷ xs) = cond (eqb x byte) zero (suc (index_of byte xs))

-- where the first of a byte stands at or after an index: the text's end where there is none
abbrev pub found_at : List ℕ → ℕ → ℕ → ℕ
found_at text from byte = cond (ltb (length text) from) (length text) (from + index_of byte (drop from text))

-- the index behind that byte: the text's end where there is none
abbrev pub after_found : List ℕ → ℕ → ℕ → ℕ
after_found text from byte = min (found_at text from byte + 1) (length text)

abbrev pub on_first : ℕ → List (List ℕ) → List (List ℕ)
on_first x [] = (x ∷ []) ∷ []
on_first x (part ∷ parts) = (x ∷ part) ∷ parts

-- the parts of a list that a byte parts
unfoldable pub parts_at : ℕ → List ℕ → List (List ℕ)
parts_at byte [] = [] ∷ []
parts_at byte (x ∷ xs) = cond (eqb x byte) ([] ∷ parts_at byte xs) (on_first x (parts_at byte xs))
