-- The bucket's row for these settings, handed over.
use Rattle.abi.proofs.frostaxle_absolute_bucket.Goals as goal

pub returns : goal.returns
returns c =
    rw (c.bucket_row.ensures, c.settings-settings.ensures) at c.give.ensures
