-- A refusal goes on; a place past the buckets has none; else the slot can be read, and its bucket is the key's.
use mathlib.Core.Path.{ap, ◌∙◌, sym}
use Rattle.answers.specs.Rows.{refused_row}
use Rattle.abi.specs.ReadOut.{bucket-refused, bucket-none, bucket-readable, bucket-some}
use Rattle.abi.proofs.bucket_row.Goals as goal

pub returns-in-Err : goal.returns-in-Err
returns-in-Err c =
    c.refused_row.ensures ∙ ap refused_row c.number.ensures ∙ bucket-refused _ _ _ _ _ (sym c.in-Err.is ∙ c.find_series.ensures) _

pub returns-then-found-at : goal.returns-then-found-at
returns-then-found-at c =
    bucket-none _ _ _ _ _ (sym c.in-Ok.is ∙ c.find_series.ensures) _ c.if-found-at.true

pub bucket_at-bucket-requires : goal.bucket_at-bucket-requires
bucket_at-bucket-requires c =
    bucket-readable _ _ _ _ _ (sym c.in-Ok.is ∙ c.find_series.ensures) _ c.if-found-at.false

pub returns : goal.returns
returns c =
    bucket-some _ _ _ _ _ (sym c.in-Ok.is ∙ c.find_series.ensures) _ c.if-found-at.false c.bucket_at-bucket.result c.bucket_at-bucket.ensures
