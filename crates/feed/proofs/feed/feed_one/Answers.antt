-- A newline, or another character. Assumes nothing.
use borrow.Author.Tests.{ne_eqb}
use Rattle.feed.specs.Feed.{holding}
use Rattle.feed.proofs.FeedLaws.{serves-other}
use Rattle.feed.proofs.feed.feed_one.Goals as goal

pub returns : goal.returns
returns c =
    serves-other (holding c.args.tables.now c.args.part.now) c.args.c _ c.args.out.now (ne_eqb _ _ c.if-c-eq10.false) c.push.ensures
