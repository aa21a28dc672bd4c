-- There is place for the character, or 19 are held already. Assumes nothing.
use borrow.Author.Rules.{rules}
use Rattle.feed.proofs.FeedLaws.{held_more, held-full}
use Rattle.feed.proofs.HeldLaws.{zeros-on}
use Rattle.feed.proofs.part.Part.push.Goals as goal

pub returns-then-self-lt-HELD : goal.returns-then-self-lt-HELD
returns-then-self-lt-HELD c = held_more c.args.self.now.bytes _ _ (search rules) c.if-self-lt-HELD.true

pub returns-else-self-lt-HELD : goal.returns-else-self-lt-HELD
returns-else-self-lt-HELD c = held-full c.args.self.now.bytes _ _ (search rules) c.if-self-lt-HELD.false

pub invariant_of-self-clause-rest : goal.invariant_of-self-clause-rest
invariant_of-self-clause-rest c = zeros-on c.args.self.now.bytes c.args.self.now.count c.args.c c.args.self.now.rest
