-- Reading a list's pairs one after the other: the bytes taken so far, and what the pairs left come to. Assumes nothing.
use Prim.Native.Nat.{ℕ, ◌+◌, ◌≤◌, ◌<◌}
use native.Mathlib.Omega.{arith}
use mathlib.Core.Path.{◌≡◌, refl, sym, ap, ◌∙◌}
use mathlib.Core.Bool.{Bool, true, false}
use mathlib.Core.List.{List, [], ◌∷◌, ◌++◌}
use Rattle.std.specs.Prelude.{Option, Some, None, Result, Ok, Err}
use Rattle.std.proofs.lemmas.List.{at_drop_more, at_drop_all}
use lib.Dec.{leb}
use lib.ListN.{length, drop, get_or, length-append}
use Rattle.asking.specs.Text.{parts_at}
use Rattle.asking.specs.Laid.{laid_at}
use Rattle.asking.proofs.Laid.{length-laid, laid-nothing, laid-after}
use Rattle.asking.specs.declared.exon_lists.BadExons.{BadExons}
use Rattle.asking.specs.declared.exon_lists.BadExons.TheVariants.{TooMany}
use Rattle.asking.specs.Exons.{Pairs, pair_bytes, pair_came, pair_put, going_on, pairs_behind, pairs_of}

pub record Reading (list table then : List ℕ) (size turn : ℕ) : Type 0 where
  pub taken : List ℕ
  pub counted : size ≡ length taken
  pub held : then ≡ laid_at 0 taken table
  pub whole : pairs_behind taken (drop turn (parts_at 44 list)) ≡ pairs_of list

pub start : (list table : List ℕ) → Reading list table table 0 0
start list table = record { taken = []; counted = refl; held = sym (laid-nothing 0 table); whole = refl }

sized : (size next : ℕ) (bytes : Option (List ℕ)) → pair_came size bytes ≡ Ok next → next ≡ size + length (pair_put size bytes)
sized size next None e =
    let z : ◌≡◌ {A = ℕ} 0 1 = cc in
    absurd (omega arith)
sized size next (Some eight) e = go (leb 4104 size) refl
  where
    go : (b : Bool) → leb 4104 size ≡ b → next ≡ size + length (pair_put size (Some eight))
    go true t =
        let f : Err TooMany ≡ Ok next = rw t at e in
        let z : ◌≡◌ {A = ℕ} 0 1 = cc in
        absurd (omega arith)
    go false t =
        let f : Ok (size + length eight) ≡ Ok next = rw t at e in
        let g : next ≡ size + length eight = cc in
        rw t g

-- behind the last pair
pub done : (list table : List ℕ) {then : List ℕ} {size turn : ℕ} → Reading list table then size turn → length (parts_at 44 list) ≤ turn
    → (Ok size ≡ (pairs_of list).came) × (then ≡ laid_at 0 (pairs_of list).bytes table)
unfolding pairs_behind
done list table {then} {size} {turn} at last =
    let all : record { came = Ok (length at.taken); bytes = at.taken } ≡ pairs_of list =
    sym (at_drop_all (pairs_behind at.taken) (parts_at 44 list) turn last) ∙ at.whole in (
      ap Ok at.counted ∙ ap (λ (pairs : Pairs). pairs.came) all,
      at.held ∙ ap (λ (pairs : Pairs). laid_at 0 pairs.bytes table) all,
    )

-- whatever a pair put, the table stays as long
pub long-still : (list table : List ℕ) {then last : List ℕ} {size turn : ℕ} → Reading list table then size turn
    → (part : List ℕ) → last ≡ laid_at size (pair_put size (pair_bytes part)) then → length last ≡ length table
long-still list table {then} {last} {size} at part is_last =
    ap length is_last
    ∙ length-laid size (pair_put size (pair_bytes part)) then
    ∙ ap length at.held
    ∙ length-laid 0 at.taken table

module _ (list table : List ℕ) {then : List ℕ} {size turn : ℕ} (at : Reading list table then size turn)
    {part last : List ℕ} {came : Result ℕ BadExons}
    (is-part : (turn < length (parts_at 44 list)) × (part ≡ get_or (parts_at 44 list) turn part))
    (is-came : came ≡ pair_came size (pair_bytes part)) (is_last : last ≡ laid_at size (pair_put size (pair_bytes part)) then) where
  abbrev more : List ℕ
  more = at.taken ++ pair_put size (pair_bytes part)

  put : last ≡ laid_at 0 more table
  put =
      let seam : 0 + length at.taken ≡ size = omega arith in
      let behind : laid_at size (pair_put size (pair_bytes part)) (laid_at 0 at.taken table) ≡ laid_at 0 more table =
      rw seam at (laid-after 0 at.taken (pair_put size (pair_bytes part)) table) in
      is_last ∙ ap (laid_at size (pair_put size (pair_bytes part))) at.held ∙ behind

  counted-more : (next : ℕ) → came ≡ Ok next → next ≡ length more
  counted-more next e =
      let one_more : next ≡ size + length (pair_put size (pair_bytes part)) = sized size next (pair_bytes part) (sym is-came ∙ e) in
      omega (arith, length-append at.taken (pair_put size (pair_bytes part)))

  going : {x : Result ℕ BadExons} → came ≡ x → pairs_of list ≡ going_on x more (λ bytes. pairs_behind bytes (drop (turn + 1) (parts_at 44 list)))
  unfolding pairs_behind
  going e =
      sym at.whole
      ∙ at_drop_more (pairs_behind at.taken) (parts_at 44 list) turn part is-part.0
      ∙ ap (λ (pair : List ℕ). pairs_behind at.taken (pair ∷ drop (turn + 1) (parts_at 44 list))) (sym is-part.1)
      ∙ rw (← at.counted, ← is-came, e)

  pub refused : {why : BadExons} → came ≡ Err why → (Err why ≡ (pairs_of list).came) × (last ≡ laid_at 0 (pairs_of list).bytes table)
  refused e = (sym (ap (λ (pairs : Pairs). pairs.came) (going e)), put ∙ sym (ap (λ (pairs : Pairs). laid_at 0 pairs.bytes table) (going e)))

  pub onward : {next turn' : ℕ} → came ≡ Ok next → turn' ≡ turn + 1 → Reading list table last next turn'
  onward {next} e is-next = record {
    taken = more;
    counted = counted-more next e;
    held = put;
    whole = rw is-next (sym (going e));
  }
