-- The request that the words of a command line make: options one after the other, each a name and its values. Assumes nothing.
use Rattle.std.specs.Prelude.{ℕ, zero, suc, ◌+◌, ◌≤◌, min, cond, List, eqb, ltb, length, Option, Some, None, Result, Ok, Err}
use Rattle.asking.specs.Decimal.{decimal_of, both_numbers}
use Rattle.asking.specs.Text.{after_found}
use Rattle.asking.specs.LinesRules.{word_at}
use Rattle.asking.specs.Names.{meaning, options, kinds, edits, directions}
use Rattle.asking.specs.declared.requests.names.Name.{Name}
use Rattle.asking.specs.declared.requests.names.Name.TheVariants.{Target, File, Exons, Alternative, Kind, Edit, Direction, Window, CdsStart, CdsEnd, Cds, Range}
use Rattle.asking.specs.declared.requests.Setting.{Setting}
use Rattle.asking.specs.declared.requests.Setting.TheVariants as says
use Rattle.asking.specs.declared.requests.Step.{Step}
use Rattle.asking.specs.declared.requests.Request.{Request}
use Rattle.asking.specs.declared.requests.Broken.{Broken}
use Rattle.asking.specs.declared.requests.Fault.{Fault}
use Rattle.asking.specs.declared.requests.Fault.TheVariants.{UnknownOption, NoValue, BadKind, BadEdit, BadDirection, BadWindow, BadRange, BadBound}
use Rattle.asking.specs.Request.{nothing, with_setting}

-- a word that stands for nothing is a fault
abbrev pub on_meaning : {A B : Type 0} → Fault → Option A → (A → Result B Fault) → Result B Fault
on_meaning fault (Some meant) onward = onward meant
on_meaning fault None onward = Err fault

-- the two numbers of the word that begins at an index and the one behind it
abbrev pub numbers_at : List ℕ → ℕ → Option (ℕ × ℕ)
numbers_at text at = both_numbers (decimal_of (word_at text at)) (decimal_of (word_at text (after_found text at 0)))

-- what an option says by its words, the first of which begins at an index
unfoldable pub said_by : List ℕ → ℕ → Name → Result Setting Fault
said_by text at Target = Ok (says.Target at)
said_by text at File = Ok (says.File at)
said_by text at Exons = Ok (says.Exons at)
said_by text at Alternative = Ok (says.Alternative at)
said_by text at Kind = on_meaning BadKind (meaning kinds (word_at text at)) (λ code. Ok (says.Kind code))
said_by text at Edit = on_meaning BadEdit (meaning edits (word_at text at)) (λ code. Ok (says.Edit code))
said_by text at Direction = on_meaning BadDirection (meaning directions (word_at text at)) (λ code. Ok (says.Direction code))
said_by text at Window = on_meaning BadWindow (decimal_of (word_at text at)) (λ size. Ok (says.Window size))
said_by text at CdsStart = on_meaning BadBound (decimal_of (word_at text at)) (λ start. Ok (says.CdsStart start))
said_by text at CdsEnd = on_meaning BadBound (decimal_of (word_at text at)) (λ end. Ok (says.CdsEnd end))
said_by text at Cds = on_meaning BadBound (numbers_at text at) (λ bounds. Ok (says.Cds bounds.0 bounds.1))
said_by text at Range = on_meaning BadRange (numbers_at text at) (λ range. Ok (says.Range range.0 range.1))

-- where the option after it begins: behind one word, or behind two
abbrev pub behind : List ℕ → ℕ → Name → ℕ
behind text at Cds = after_found text (after_found text at 0) 0
behind text at Range = after_found text (after_found text at 0) 0
behind text at Target = after_found text at 0
behind text at File = after_found text at 0
behind text at Exons = after_found text at 0
behind text at Alternative = after_found text at 0
behind text at Kind = after_found text at 0
behind text at Edit = after_found text at 0
behind text at Direction = after_found text at 0
behind text at Window = after_found text at 0
behind text at CdsStart = after_found text at 0
behind text at CdsEnd = after_found text at 0

abbrev pub stepped : Result Setting Fault → ℕ → Result Step Fault
stepped (Ok setting) next = Ok (record { setting = setting; next = next })
stepped (Err fault) next = Err fault

-- the option that begins at an index: it is a known one, it has a value, and its words say what it needs
unfoldable pub step_at : List ℕ → ℕ → Result Step Fault
step_at text at =
    on_meaning UnknownOption (meaning options (word_at text at)) (λ option.
    let value = after_found text at 0 in
    cond (eqb value (length text)) (Err NoValue) (stepped (said_by text value option) (behind text value option)))

-- the option after it begins further on, if not at the text's end
abbrev pub Onward : {E : Type 0} → List ℕ → ℕ → Result Step E → Type 0
Onward text at (Ok step) = min (at + 1) (length text) ≤ step.next
Onward text at (Err fault) = Unit

-- a fault, with where its option begins
abbrev pub broken_at : ℕ → Result Step Fault → Result Step Broken
broken_at at (Ok step) = Ok step
broken_at at (Err fault) = Err (record { fault = fault; at = at })

-- a broken option ends the reading
abbrev pub going_on : Result Step Broken → Request → (Request → ℕ → Result Request Broken) → Result Request Broken
going_on (Ok step) asked onward = onward (with_setting step.setting asked) step.next
going_on (Err broken) asked onward = Err broken

-- the options from an index on, at most so many
unfoldable pub options_from : ℕ → List ℕ → Request → ℕ → Result Request Broken
options_from zero text asked at = Ok asked
options_from (suc most) text asked at = cond (ltb at (length text)) (going_on (broken_at at (step_at text at)) asked (options_from most text)) (Ok asked)

-- the options of a text: each has a byte or more
abbrev pub request_of : List ℕ → Result Request Broken
request_of text = options_from (length text) text nothing 0
