-- There is room for the answer to the last line. Assumes nothing.
use Rattle.std.proofs.Common.{arith}
use Rattle.feed.specs.Feed.{held_in}
use Rattle.feed.proofs.FeedLaws.{served-all, ending-short, front-written}
use Rattle.bench.proofs.answer_end.Goals as goal

pub returns : goal.returns
returns g c =
    let fed = served-all c.finish-fed.ensures.serves (omega (arith, ending-short (held_in c.args.part))) in
    rw (← front-written fed) c.write_all.ensures.bytes
