-- Each chunk is a row (proofs/Rows.antt).
use Rattle.std.proofs.Common.{◌≡◌, true, false, refl, ◌∙◌, rules, arith}
use Rattle.std.proofs.lemmas.Iterator.{cases_from_all}
use Rattle.lemmas.proofs.Chains.{every_cong, every_chunk_told, YieldsList-from_chunks_exact}
use Rattle.csg.specs.Halfspace.{row_length, row_count, row_at, within_limits}
use Rattle.csg.proofs.Rows.{row_chunk}
use Rattle.csg.proofs.rows_within.Goals as goal

pub returns : goal.returns
returns c =
    let u = c.args.universe in
    let rows = c.args.rows.now in
    every_chunk_told row_length (λ row. within_limits u (row_at row 0)) (row_count rows) rows _
    (cases_from_all _ _ _ (λ row. within_limits u (row_at row 0) ≡ true) (λ row. within_limits u (row_at row 0) ≡ false) c.all.ensures.ran
    (YieldsList-from_chunks_exact row_length rows (row_count rows) c.chunks_exact.ensures.rest c.chunks_exact.ensures.size (omega arith) refl)
    (λ x q k. search rules)
    (λ x q k. search rules))
    ∙ every_cong (row_count rows) _ _ (λ i h. row_chunk u rows i)
