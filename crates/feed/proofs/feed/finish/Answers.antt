-- What is fed is the ending of the line. Assumes nothing.
use Rattle.std.proofs.Common.{◌≡◌}
use Rattle.feed.specs.Feed.{ending, held_in}
use Rattle.feed.proofs.FeedLaws.{ending-is}
use Rattle.feed.proofs.feed.finish.Goals as goal
use Rattle.feed.proofs.feed.finish.Goals.{then-is_empty, else-is_empty}

pub returns-clause-serves : goal.returns-clause-serves
returns-clause-serves c =
    let end : ending (held_in c.args.part) ≡ c.if-is_empty.end.now =
    rw (← c.held.ensures, ending-is) (elim c.if-is_empty.branch [ then-is_empty w ↦ rw (w.end-is, ← w.if-is_empty.ensures) | else-is_empty w ↦ rw (w.end-is, ← w.if-is_empty.ensures) ]) in
    rw end c.feed.ensures.serves
