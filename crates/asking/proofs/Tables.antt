-- What stands at the front of a table whose pairs are read: the bytes of those pairs. Assumes nothing.
use Prim.Native.Nat.{ℕ, ◌+◌, ◌*◌, ◌≤◌, ◌<◌}
use native.Mathlib.Nat.{sub-zero, le_of_suc-le-suc}
use native.Mathlib.Omega.{arith}
use mathlib.Core.Path.{◌≡◌, refl, sym, ap, ◌∙◌}
use mathlib.Core.Bool.{Bool, true, false}
use mathlib.Core.List.{List, [], ◌∷◌, ◌++◌}
use Rattle.std.specs.Prelude.{Option, Some, None, Result, Ok, Err}
use borrow.Author.Tests.{le-ltb, leb-false}
use lib.Dec.{leb}
use lib.ListN.{length, take, length-append}
use Rattle.asking.specs.Text.{part_of, parts_at}
use Rattle.asking.specs.LinesRules.{word_at}
use Rattle.asking.specs.Laid.{laid_at}
use Rattle.asking.proofs.Laid.{length-laid, laid-nothing}
use Rattle.asking.specs.declared.exon_lists.BadExons.{BadExons}
use Rattle.asking.specs.declared.exon_lists.BadExons.TheVariants.{BadPair, TooMany}
use Rattle.asking.specs.Exons.{Pairs, four_bytes, eight_bytes, numbers_in, pair_bytes, pairs_behind, pairs_of}
use Rattle.asking.specs.Reached.{exons_at}

-- a pair is eight bytes
eight-long : (numbers : Option (ℕ × ℕ)) (eight : List ℕ) → eight_bytes numbers ≡ Some eight → length eight ≡ 8
unfolding four_bytes
eight-long None eight e =
    let z : ◌≡◌ {A = ℕ} 0 1 = cc in
    absurd (omega arith)
eight-long (Some numbers) eight e =
    let same : eight ≡ four_bytes numbers.0 ++ four_bytes numbers.1 = cc in
    ap length same

pair-long : (pair : List ℕ) {eight : List ℕ} → pair_bytes pair ≡ Some eight → length eight ≡ 8
pair-long pair {eight} e = eight-long (numbers_in pair) eight e

-- the bytes of pairs that were all taken are as many as came, and 513 pairs at most
pub record Fitting (pairs : Pairs) (size : ℕ) : Type 0 where
  pub counted : size ≡ length pairs.bytes
  pub most : size ≤ 4104

pairs-fit : (taken : List ℕ) (pairs : List (List ℕ)) (k size : ℕ) → length taken ≡ 8 * k → k ≤ 513 → (pairs_behind taken pairs).came ≡ Ok size
    → Fitting (pairs_behind taken pairs) size
unfolding pairs_behind
pairs-fit taken [] k size e h came =
    let counted : size ≡ length taken = cc in
    record { counted = counted; most = omega arith }
pairs-fit taken (pair ∷ pairs) k size e h came =
    go (pair_bytes pair) refl (leb 4104 (length taken)) refl (λ eight. pairs-fit (taken ++ eight) pairs (k + 1) size)
  where
    go : (bytes : Option (List ℕ)) → pair_bytes pair ≡ bytes → (b : Bool) → leb 4104 (length taken) ≡ b
        → ((eight : List ℕ) → length (taken ++ eight) ≡ 8 * (k + 1) → k + 1 ≤ 513 → (pairs_behind (taken ++ eight) pairs).came ≡ Ok size
        → Fitting (pairs_behind (taken ++ eight) pairs) size)
        → Fitting (pairs_behind taken (pair ∷ pairs)) size
    go None is b t rest =
        let f : Err BadPair ≡ Ok size = rw is at came in
        let z : ◌≡◌ {A = ℕ} 0 1 = cc in
        absurd (omega arith)
    go (Some eight) is true t rest =
        let f : Err TooMany ≡ Ok size = rw (is, t) at came in
        let z : ◌≡◌ {A = ℕ} 0 1 = cc in
        absurd (omega arith)
    go (Some eight) is false t rest =
        let long : length eight ≡ 8 = pair-long pair is in
        let room : length taken < 4104 = leb-false 4104 (length taken) t in
        rw (is, t) (rest eight (omega (arith, length-append taken eight)) (omega arith) (rw (is, t) at came))

exons-fit : (text : List ℕ) (word : Option ℕ) {size : ℕ} → (exons_at text word).came ≡ Ok size → Fitting (exons_at text word) size
unfolding exons_at
exons-fit text None {size} e =
    let none_read : size ≡ 0 = cc in
    record { counted = none_read; most = omega arith }
exons-fit text (Some at) {size} e = pairs-fit [] (parts_at 44 (word_at text at)) 0 size refl (omega arith) e

laid-front : (xs table : List ℕ) → length xs ≤ length table → take (length xs) (laid_at 0 xs table) ≡ xs
unfolding laid_at
laid-front [] table h = refl
laid-front (x ∷ xs) [] h = absurd (omega arith)
laid-front (x ∷ xs) (t ∷ table) h = ap {B = List ℕ} (λ rest. x ∷ rest) (laid-front xs table (le_of_suc-le-suc h))

-- so the part of a table that came is the bytes of the pairs that were laid in it
pub table-front : (text : List ℕ) (word : Option ℕ) (table : List ℕ) {table' part : List ℕ} {exons : Result ℕ BadExons} {size : ℕ} → length table ≡ 4104
    → exons ≡ (exons_at text word).came → table' ≡ laid_at 0 (exons_at text word).bytes table → exons ≡ Ok size → part ≡ part_of table' 0 size
    → part ≡ (exons_at text word).bytes
table-front text word table {exons} {size} long are is-laid e is-part =
    let fit = exons-fit text word (sym are ∙ e) in
    let bytes = (exons_at text word).bytes in
    rw (is-part, is-laid, le-ltb size 0 (omega arith), length-laid 0 bytes table, le-ltb (length table) size (omega (arith, fit.most)), sub-zero, fit.counted)
    (laid-front bytes table (omega (arith, fit.most, fit.counted)))

-- a word that is given, or not
pub no-exons : (text : List ℕ) {word : Option ℕ} → word ≡ None → exons_at text word ≡ record { came = Ok 0; bytes = [] }
unfolding exons_at
no-exons text e = rw e

pub some-exons : (text : List ℕ) {word : Option ℕ} {at : ℕ} → word ≡ Some at → exons_at text word ≡ pairs_of (word_at text at)
unfolding exons_at
some-exons text e = rw e

pub ruleset nothing_laid = (laid-nothing)
