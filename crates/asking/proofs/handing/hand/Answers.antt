-- By what the exons come to: their bytes stand at the front of the table, and `normalize` is handed them with what the request names.
use Rattle.std.proofs.Common.{ℕ, ◌∙◌, refl, replicate, w32, w64}
use Rattle.std.proofs.Math.ListN.{length-replicate}
use Rattle.std.proofs.lemmas.Int.{to_z-of_z}
use Rattle.std.proofs.lemmas.Result.{err_from_is_err_and}
use Rattle.asking.proofs.Came.{stops, bad-exons, with-table}
use Rattle.asking.proofs.Tables.{table-front}
use Rattle.asking.proofs.handing.hand.Goals as goal

pub returns-in_err-exons : goal.returns-in_err-exons
returns-in_err-exons c =
    let p = err_from_is_err_and c.from_residual.result c.from_residual.ensures.1 in
    rw (p.1, p.2) (stops (bad-exons _ _ _ _ _ _ _ c.in_err-exons.ensures.value refl))

pub returns : goal.returns
returns c =
    let a = c.args in
    let exons = c.in_ok-exons.ensures in
    with-table a.text.now a.request a.edit a.range a.target.now _ _ exons.value refl
    (table-front a.text.now _ (replicate 4104 0) (length-replicate {A = ℕ} 4104 0) exons.value exons.table_after refl c.part.ensures)
    (to_z-of_z w64 c.bound_number.result (record { sfits = c.bound_number.type_inv }) ∙ c.bound_number.ensures)
    (to_z-of_z w64 c.bound_number-2.result (record { sfits = c.bound_number-2.type_inv }) ∙ c.bound_number-2.ensures)
    (to_z-of_z w32 c.position_of.result (record { sfits = c.position_of.type_inv }) ∙ c.position_of.ensures)
    (to_z-of_z w32 c.position_of-2.result (record { sfits = c.position_of-2.type_inv }) ∙ c.position_of-2.ensures)
    c.given.ensures
    c.normalize.ensures
