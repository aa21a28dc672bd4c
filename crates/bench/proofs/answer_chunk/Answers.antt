-- There is room for an answer to each byte, so all are fed; the front of the buffer is what is written. Assumes nothing.
use Rattle.std.proofs.Common.{arith}
use Rattle.feed.proofs.FeedLaws.{served-all, front-written}
use Rattle.bench.proofs.answer_chunk.Goals as goal

pub returns : goal.returns
returns g c =
    let fed = served-all c.feed-fed.ensures.serves (omega arith) in
    record { wrote = rw (← front-written fed) c.in_ok-write_all.ensures.bytes; held = fed.held-is }
