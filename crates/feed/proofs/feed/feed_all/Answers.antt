-- What was served of the chunk leaves room for the rest, and goes on by a character. Assumes nothing.
use Rattle.std.proofs.Common.{arith}
use Rattle.feed.proofs.FeedLaws.{serves-none, served-room, serves-next}
use Rattle.feed.proofs.feed.feed_all.Goals as goal

pub loop-c-init : goal.loop-c-init
loop-c-init c = record { room = omega arith; served = serves-none c.args.tables.now c.args.part.now c.args.out.now }

pub overflow_add-written : goal.overflow_add-written
overflow_add-written c = omega (arith, served-room _ c.feed_one-written.ensures)

pub loop-c-preserved : goal.loop-c-preserved
loop-c-preserved c =
    record {
      room = omega (arith, served-room _ c.feed_one-written.ensures);
      served = serves-next c.args.chunk.now c.loop-c.c-index c.loop-c-test.true (omega arith) c.loop-c.invariant.served c.feed_one-written.ensures;
    }
