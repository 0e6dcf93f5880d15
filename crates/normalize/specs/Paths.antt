-- The path of the file that the words of a command line name. Assumes nothing.
use Rattle.std.specs.Prelude.{ℕ, List, [], Result, Ok, Err}
use Rattle.asking.specs.declared.requests.Broken.{Broken}
use Rattle.asking.specs.declared.requests.Request as asked
use Rattle.asking.specs.Request.{given}
use Rattle.asking.specs.Options.{request_of}

-- words that make no request name no file
abbrev pub path_in : List ℕ → Result asked.Request Broken → List ℕ
path_in text (Ok request) = given text request.words.file
path_in text (Err broken) = []

unfoldable pub path_of : List ℕ → List ℕ
path_of text = path_in text (request_of text)
