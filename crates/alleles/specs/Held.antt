-- What an allele's buffer holds, from its head round. Assumes nothing.
use Rattle.std.specs.Prelude.{ℕ, ◌≡◌, List}
use Rattle.alleles.specs.Window.{window, Placed}
use Rattle.alleles.specs.declared.Allele.{Allele}

-- the bases of an allele
abbrev pub held : Allele → List ℕ
held allele = window allele.bytes allele.head allele.count

abbrev pub Good : Allele → Type 0
Good allele = Placed allele.head allele.count

-- an allele that begins at a place and holds the bases of a list, of which there are size
pub record Holds (allele : Allele) (place size : ℕ) (list : List ℕ) : Type 0 where
  pub good : Good allele
  pub head : allele.head ≡ place
  pub count : allele.count ≡ size
  pub bases : held allele ≡ list
