use Rattle.std.proofs.Common.{◌∙◌, arith}
use Rattle.std.specs.Int.{w32}
use mir.ValLaws.{to_z-of_z}
use Rattle.layout.proofs.Words.{word-copied}
use Rattle.layout.proofs.word.put_count_at.Goals as goal

pub returns : goal.returns
returns c =
    let copied = c.copy_from_slice.ensures.after ∙ c.to_le_bytes.ensures in
    word-copied _ _ _ _ _ (omega arith) (rw (to_z-of_z w32 _ c.ranges.count) at copied) (omega arith)
