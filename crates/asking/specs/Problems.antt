-- A sentence for each reason why words reach no outcome. Assumes nothing.
use Rattle.std.specs.Prelude.{ℕ, List, ◌++◌}
use Rattle.asking.specs.declared.requests.Fault.{Fault}
use Rattle.asking.specs.declared.requests.Fault.TheVariants.{UnknownOption, NoValue, BadKind, BadEdit, BadDirection, BadWindow, BadRange, BadBound}
use Rattle.asking.specs.Text.{ascii}
use Rattle.asking.specs.LinesRules.{word_at}
use Rattle.asking.specs.declared.problems.Problem.{Problem}
use Rattle.asking.specs.declared.problems.Problem.TheVariants.{Wrong, Unread as UnreadTarget, NoEdit, NoRange, BadExons, TooManyExons}
use Rattle.asking.specs.declared.problems.Unread.{Unread}
use Rattle.asking.specs.declared.problems.Unread.TheVariants.{Missing, Twice, Unreadable, LongFile, LongTarget, SecondRecord}

-- what is wrong with an option or its value, and what to give instead
unfoldable pub fault_text : List ℕ → Fault → List ℕ
fault_text option UnknownOption = ascii "'" ++ option ++ ascii "' is no option. Give one that --help lists, each value after its option."
fault_text option NoValue = option ++ ascii " has no value. Give one after it; --help shows which."
fault_text option BadKind = ascii "--kind takes open, transcript or crossing. Give one of them."
fault_text option BadEdit = ascii "--edit takes ins, dup, del, replace or inv. Give one of them."
fault_text option BadDirection = ascii "--direction takes right or left. Give one of them."
fault_text option BadWindow = ascii "--window takes a whole number. Give one from 1 to 1024."
fault_text option BadRange = ascii "--range takes two whole numbers, each at most 2147483647. Give a start, counted from 0, and an end, as in --range 1 2."
fault_text option BadBound = ascii "A CDS bound is a whole number, at most 2147483647. Give --cds START END, --cds-start START or --cds-end END."

-- why a target is not read
unfoldable pub unread_text : Unread → List ℕ
unread_text Missing = ascii "There is no target. Give its letters by --target, or a file that has them by --file."
unread_text Twice = ascii "--target and --file are both given. Give one of them."
unread_text Unreadable = ascii "--file names a file that can't be read. Give the path of a file of plain letters, or of FASTA with one record."
unread_text LongFile = ascii "--file names a file of more than 262144 bytes. Give one with at most 65535 bases."
unread_text LongTarget = ascii "--target or --file has more than 65535 bases. Give at most 65535, as a part of the sequence around the change."
unread_text SecondRecord = ascii "--file has a second record. Give a file with one, or its letters alone."

-- the sentence for a problem with the words of a text
unfoldable pub problem_text : List ℕ → Problem → List ℕ
problem_text text (Wrong fault at) = fault_text (word_at text at) fault
problem_text text (UnreadTarget unread) = unread_text unread
problem_text text NoEdit = ascii "There is no edit. Give --edit with ins, dup, del, replace or inv."
problem_text text NoRange = ascii "There is no range. Give --range START END, counted from 0, with the end not in it."
problem_text text BadExons = ascii "--exons takes pairs of whole numbers. Give each as START-END, with commas between them, as in --exons 0-4,4-12."
problem_text text TooManyExons = ascii "--exons has more than 513 pairs. Give at most 512."
