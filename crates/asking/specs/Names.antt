-- The words of the command line and what each stands for: a table for each kind of word. Assumes nothing.
use Rattle.std.specs.Prelude.{ℕ, cond, List, [], ◌∷◌, Option, Some, None, map}
use Prim.Native.String.{String}
use Rattle.definition.specs.Bases.{same_bases}
use Rattle.asking.specs.Text.{ascii}
use Rattle.asking.specs.declared.requests.names.Name.{Name}
use Rattle.asking.specs.declared.requests.names.Name.TheVariants.{Target, File, Exons, Alternative, Kind, Edit, Direction, Window, CdsStart, CdsEnd, Cds, Range}

-- what a word stands for, by a table whose words are bytes: what the first row that has it says
unfoldable pub meant : {A : Type 0} → List (List ℕ × A) → List ℕ → Option A
meant [] word = None
meant (row ∷ rows) word = cond (same_bases word row.0) (Some row.1) (meant rows word)

-- the same by a table whose words are text
unfoldable pub meaning : {A : Type 0} → List (String × A) → List ℕ → Option A
meaning rows word = meant (map (λ row. (ascii row.0, row.1)) rows) word

-- the options: four with a word that is read later, six with a number, two with two numbers
abbrev pub options : List (String × Name)
options =
    ("--target", Target)
    ∷ ("--file", File)
    ∷ ("--exons", Exons)
    ∷ ("--alt", Alternative)
    ∷ ("--kind", Kind)
    ∷ ("--edit", Edit)
    ∷ ("--direction", Direction)
    ∷ ("--window", Window)
    ∷ ("--cds-start", CdsStart)
    ∷ ("--cds-end", CdsEnd)
    ∷ ("--cds", Cds)
    ∷ ("--range", Range)
    ∷ []

abbrev pub kinds : List (String × ℕ)
kinds = ("open", 0) ∷ ("transcript", 1) ∷ ("crossing", 2) ∷ []

abbrev pub edits : List (String × ℕ)
edits = ("ins", 0) ∷ ("dup", 1) ∷ ("del", 2) ∷ ("replace", 3) ∷ ("inv", 4) ∷ []

abbrev pub directions : List (String × ℕ)
directions = ("right", 0) ∷ ("left", 1) ∷ []
